-- Of what calls and denials are: their octets are octets.
use Rattle.std.specs.Prelude.{⊤, ◌≡◌, ◌<◌, ◌^◌, ℕ, nat_lt, List, length, IsTrue}
use Rattle.std.specs.List.{list_all}
use Rattle.bsc_octets.specs.declared.vmac.Vmac.{Vmac}
use Rattle.bsc_octets.specs.Identities.{identity_octets, identity_of}
use Rattle.bsc_history.specs.declared.call.Call.{Call}
use Rattle.bsc_history.specs.declared.call.Call.TheVariants.{Connect, Forward}
use Rattle.bsc_lines.specs.declared.denial.Denial.{Denial}
use Rattle.bsc_lines.specs.declared.denial.Denial.TheVariants.{OfConnect, OfPair}

-- Each of these is less than 256.
abbrev pub AreBelow256 : List ℕ → Type 0
AreBelow256 o = IsTrue (list_all (λ c. nat_lt c 256) o)

-- An address has six octets.
abbrev pub IsAddress : Vmac → Type 0
IsAddress v = AreBelow256 v.0 × (length v.0 ≡ 6)

-- The octets of a call are octets; those of who connects are 26, and say who that is.
abbrev pub CallHasOctets : Call → Type 0
CallHasOctets (Connect who) = AreBelow256 (identity_octets who) × (length (identity_octets who) ≡ 26) × (identity_of (identity_octets who) ≡ who)
CallHasOctets (Forward conn frame) = AreBelow256 frame
CallHasOctets call = ⊤

-- The addresses of a denial are addresses, and its rule has a number of 32 bits.
abbrev pub DenialHasOctets : Denial → Type 0
DenialHasOctets (OfConnect vmac) = IsAddress vmac
DenialHasOctets (OfPair rule from to) = (rule < 2 ^ 32) × IsAddress from × IsAddress to
