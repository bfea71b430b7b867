-- For whom an Encapsulated-NPDU is.
use Rattle.std.specs.Prelude.{◌≡◌, Bool, true, false}
use Rattle.bsc_octets.specs.declared.vmac.Vmac.{Vmac}
use Rattle.bsc_octets.specs.Addresses.{broadcast}

-- What is for all went to the broadcast, and what is for one to its own address.
abbrev pub IsFor : Bool → Vmac → Vmac → Type 0
IsFor true dest own = dest ≡ broadcast
IsFor false dest own = dest ≡ own
