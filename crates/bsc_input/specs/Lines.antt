-- The lines of an input, as they are handed on.
use Rattle.std.specs.Prelude.{ℕ, ◌+◌, List, [], ◌∷◌, take, map, Option, Some, None}
use Rattle.bsc_text.specs.declared.bounds.TheConstants.{MAX_LINE_LEN}
use Rattle.bsc_text.specs.Lines.{line_in, pieces_of}

-- The line of a piece. Of one that is longer than a line may be, one octet more than that is handed on.
unfoldable pub handed : List ℕ → List ℕ
handed piece = take (MAX_LINE_LEN + 1) (line_in piece)

-- All lines of an input.
abbrev pub lines_of : List ℕ → List (List ℕ)
lines_of o = map handed (pieces_of o)

-- the line that is given, where one is
abbrev pub line_of_answer : Option (List ℕ) → List (List ℕ)
line_of_answer (Some line) = line ∷ []
line_of_answer None = []
