-- The lines of a script.
use Rattle.std.specs.Prelude.{ℕ, ◌+◌, ◌==◌, nat_eq, nat_lt, Bool, true, false, ◌||◌, if◌then◌else◌, ◌≡◌, ◌<◌, List, [], ◌∷◌, ◌++◌, length, take}
use Rattle.std.specs.Cmp.Lexicographic.{pointwise}
use Rattle.bsc_text.specs.declared.bounds.TheConstants.{MAX_INPUT_LEN, MAX_LINE_LEN}

-- the code of LF
abbrev pub lf : ℕ
lf = 10

-- the code of CR
abbrev pub cr : ℕ
cr = 13

-- whether two runs of octets are the same
abbrev pub same_octets : List ℕ → List ℕ → Bool
same_octets a b = pointwise nat_eq a b

-- an octet in front of the first of some pieces
abbrev pub in_front : ℕ → List (List ℕ) → List (List ℕ)
in_front c [] = (c ∷ []) ∷ []
in_front c (piece ∷ pieces) = (c ∷ piece) ∷ pieces

-- The pieces of a script: it is cut after each LF, and the last piece may have none.
abbrev pub pieces_of : List ℕ → List (List ℕ)
pieces_of [] = []
pieces_of (c ∷ o) = if c == lf then (c ∷ []) ∷ pieces_of o else in_front c (pieces_of o)

-- whether these octets are all of a line's end: an LF, or a CR and an LF
abbrev pub is_line_end : List ℕ → Bool
is_line_end o = same_octets o (lf ∷ []) || same_octets o (cr ∷ lf ∷ [])

-- The line that a piece holds: the piece without its LF and the one CR before it.
abbrev pub line_in : List ℕ → List ℕ
line_in [] = []
line_in (c ∷ o) = if is_line_end (c ∷ o) then [] else c ∷ line_in o

-- whether no octet is an LF
abbrev pub has_no_lf : List ℕ → Bool
has_no_lf [] = true
has_no_lf (c ∷ o) = if c == lf then false else has_no_lf o

-- The first n octets have no LF, and one comes after them.
pub record BeginsLine (n : ℕ) (octets : List ℕ) : Type 0 where
  pub within : n < length octets
  pub no_lf : has_no_lf (take n octets) ≡ true
  pub cut : take (n + 1) octets ≡ take n octets ++ lf ∷ []

-- Whether a piece that stands after `before` octets is past these limits: its line has more octets than a line may have, or
-- it goes past the most octets of all.
abbrev pub is_past : (in_line in_all before : ℕ) → List ℕ → Bool
is_past in_line in_all before piece = nat_lt in_line (length (line_in piece)) || nat_lt in_all (before + length piece)

-- whether a piece of a script that stands after `before` octets is too big: it is past the limits of a script
abbrev pub is_too_big : ℕ → List ℕ → Bool
is_too_big before piece = is_past MAX_LINE_LEN MAX_INPUT_LEN before piece
