-- The words of a line.
use Rattle.std.specs.Prelude.{ℕ, ◌==◌, Bool, false, not, if◌then◌else◌, List, [], ◌∷◌}
use Rattle.bsc_text.specs.Lines.{in_front}

-- the code of a space
abbrev pub space : ℕ
space = 32

-- whether a word goes on here
abbrev pub goes_on : List ℕ → Bool
goes_on [] = false
goes_on (c ∷ o) = not (c == space)

-- The words of a line: its longest runs of octets other than spaces, in order.
abbrev pub words_of : List ℕ → List (List ℕ)
words_of [] = []
words_of (c ∷ o) =
    if c == space then words_of o
    else if goes_on o then in_front c (words_of o)
    else (c ∷ []) ∷ words_of o

-- Whether a word begins a comment: its first octet is `#`.
abbrev pub begins_comment : List ℕ → Bool
begins_comment (c ∷ o) = c == 35
begins_comment [] = false
