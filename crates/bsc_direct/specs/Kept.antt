-- What is kept of the slots, and how it goes on.
use Rattle.std.specs.Prelude.{ℕ, Bool, true, false, List, Option, Some, None, slice_index_or, slice_set, position}
use Rattle.bsc_octets.specs.declared.vmac.Vmac.{Vmac}
use Rattle.bsc_octets.specs.declared.identity.Identity.{Identity}
use Rattle.bsc_octets.specs.Addresses.{same_vmac, same_device}
use Rattle.bsc_direct.specs.declared.slot.Slot.{Slot}
use Rattle.bsc_direct.specs.declared.slot.Slot.TheVariants.{Free, Claimed, Established}
use Rattle.bsc_direct.specs.declared.establish.Establish.{Establish}
use Rattle.bsc_direct.specs.Slots.{is_peer, is_rival, unless_wrong, unless_own, unless_rival}

abbrev pub says_claimed : Slot → Bool
says_claimed Free = false
says_claimed (Claimed wanted) = true
says_claimed (Established wanted peer) = true

abbrev pub says_wanted : Slot → Option Vmac
says_wanted Free = None
says_wanted (Claimed wanted) = wanted
says_wanted (Established wanted peer) = wanted

abbrev pub says_peer : Slot → Option Identity
says_peer Free = None
says_peer (Claimed wanted) = None
says_peer (Established wanted peer) = Some peer

abbrev pub without_peer : Slot → Slot
without_peer Free = Free
without_peer (Claimed wanted) = Claimed wanted
without_peer (Established wanted peer) = Claimed wanted

-- the slot of a number, which is free where there is none
abbrev pub slot_at : List Slot → ℕ → Slot
slot_at slots k = slice_index_or slots k Free

-- the lowest slot whose peer passes the test
abbrev pub kept_with : (Identity → Bool) → List Slot → Option ℕ
kept_with test slots = position (λ s. is_peer test (says_peer s)) slots

abbrev pub establish_kept : Vmac → List Slot → ℕ → Identity → Establish
establish_kept own slots k who =
    unless_wrong (says_wanted (slot_at slots k)) who
    (unless_own (same_vmac who.vmac own) (unless_rival (kept_with (is_rival who) slots) (kept_with (λ peer. same_device peer.device who.device) slots)))

-- the slots, where one is no longer established
abbrev pub slots_without : Option ℕ → List Slot → List Slot
slots_without None slots = slots
slots_without (Some k) slots = slice_set slots k (without_peer (slot_at slots k))

-- the slots, where the connection of one is established
abbrev pub slots_with : ℕ → Identity → List Slot → List Slot
slots_with k who slots = slice_set slots k (Established (says_wanted (slot_at slots k)) who)

abbrev pub slots_up : ℕ → Identity → Option ℕ → List Slot → List Slot
slots_up k who replaced slots = slots_with k who (slots_without replaced slots)
