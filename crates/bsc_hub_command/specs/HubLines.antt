-- The first line of a hub's own journal.
use Rattle.std.specs.Prelude.{ℕ, List, ◌++◌, take, drop, codes}
use Rattle.hex.specs.Hex.{encode_upper}
use Rattle.bsc_octets.specs.Identities.{identity_octets}
use Rattle.bsc_history.specs.declared.limits.About.{About}
use Rattle.bsc_lines.specs.Lines.{then_number}

-- octets in hexadecimal digits, behind a space
abbrev pub then_hex : List ℕ → List ℕ
then_hex o = codes " " ++ encode_upper o

-- The octets of an identity in four words of hexadecimal digits: its VMAC, its Device UUID, and its greatest BVLC and NPDU lengths.
abbrev pub identity_text : List ℕ → List ℕ
identity_text o = encode_upper (take 6 o) ++ (then_hex (take 16 (drop 6 o)) ++ (then_hex (take 2 (drop 22 o)) ++ then_hex (drop 24 o)))

-- What is fixed of a hub, in the words in which a script makes one: its identity, and how many rows, frames in an outbox and
-- calls it may have.
abbrev pub hub_text : About → List ℕ
hub_text a =
    codes "hub " ++ (identity_text (identity_octets a.hub)
    ++ (then_number a.limits.rows ++ (then_number a.limits.outbox ++ then_number a.limits.calls)))

-- the same as a line
abbrev pub hub_line : About → List ℕ
hub_line a = hub_text a ++ codes "\n"
