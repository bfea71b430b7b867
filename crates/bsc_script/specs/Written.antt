-- Lines that are written.
use Rattle.std.specs.Prelude.{ℕ, List, ◌++◌, flat_map, codes}

-- A line that is written: of which name, and what. The name of a line that the hub says of itself is `hub`, which no
-- peer has.
pub record Said : Type 0 where
  pub name : List ℕ
  pub words : List ℕ

-- a line that says this of a name
abbrev pub says : List ℕ → List ℕ → Said
says name words = record { name = name; words = words }

-- the octets of a line
abbrev pub line_text : Said → List ℕ
line_text l = l.name ++ codes " " ++ l.words ++ codes "\n"

-- The text of some lines.
abbrev pub text_of : List Said → List ℕ
text_of lines = flat_map line_text lines
