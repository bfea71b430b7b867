-- What holds of the slots, whatever happened to them by the rules.
use Rattle.std.specs.Prelude.{◌≡◌, ℕ, ◌==◌, false, List, Some}
use Rattle.bsc_octets.specs.declared.identity.Identity.{Identity}
use Rattle.bsc_octets.specs.Addresses.{same_vmac, same_device}
use Rattle.bsc_direct.specs.declared.call.SlotCall.{SlotCall}
use Rattle.bsc_direct.specs.Slots.{established_peer}

-- No two established slots have the same VMAC or the same device.
abbrev pub PeersAreApart : List SlotCall → Type 0
PeersAreApart calls = (i j : ℕ) (x y : Identity) → (i == j) ≡ false → established_peer calls i ≡ Some x → established_peer calls j ≡ Some y
    → (same_vmac x.vmac y.vmac ≡ false) × (same_device x.device y.device ≡ false)
