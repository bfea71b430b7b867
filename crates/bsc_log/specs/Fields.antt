-- The texts of fields. Where there is none, a hyphen stands.
use Rattle.std.specs.Prelude.{ℕ, ◌+◌, ◌/◌, ◌%◌, List, [], ◌∷◌, ◌++◌, Option, Some, None, codes, decimal, nat_lt, if◌then◌else◌}
use Rattle.uuid.specs.Text.{hyphenated_text, lower}
use Rattle.bsc_octets.specs.declared.identity.Identity.{Identity}

-- the number of a connection
abbrev pub connection_text : Option ℕ → List ℕ
connection_text (Some conn) = decimal conn
connection_text None = codes "-"

-- a hexadecimal digit, with an upper-case letter
abbrev pub digit : ℕ → ℕ
digit n = if nat_lt n 10 then 48 + n else 55 + n

-- two digits for each of these octets
abbrev pub digits_of : List ℕ → List ℕ
digits_of [] = []
digits_of (octet ∷ octets) = digit (octet / 16) ∷ digit (octet % 16) ∷ digits_of octets

-- who asked to join: a VMAC in twelve digits, and a Device UUID in 32 with lower-case letters, and hyphens behind the first eight and
-- three times four
abbrev pub asker_text : Identity → List ℕ
asker_text who = codes " vmac " ++ (digits_of who.vmac.0 ++ (codes " device " ++ hyphenated_text lower who.device.0))

-- who asked to join, if anybody did
abbrev pub peer_text : Option Identity → List ℕ
peer_text (Some who) = asker_text who
peer_text None = codes " vmac - device -"
