-- Words on lists of items and of numbers.
use Rattle.std.specs.Prelude.{◌≡◌, ℕ, List, [], ◌∷◌, ◌++◌}

-- An item is a frame, seen as its octets.
abbrev pub Item : Type 0
Item = List ℕ

-- A list of items begins with another.
abbrev pub StartsWith : List Item → List Item → Type 0
StartsWith whole front = (rest : List Item) × (whole ≡ front ++ rest)

-- The last number of a list of loads, 0 where there is none.
unfoldable pub newest : List ℕ → ℕ
newest [] = 0
newest (n ∷ []) = n
newest (n ∷ m ∷ ns) = newest (m ∷ ns)
