-- How places that rise are walked over. It is held to `Places` by proofs, so nobody has to believe it.
use Rattle.std.specs.Prelude.{ℕ, ◌+◌, ◌==◌, if◌then◌else◌, List, [], ◌∷◌, Option, Some, None}

-- the first of these places that follows itself, where x stands in front of them
abbrev pub repeated_after : ℕ → List ℕ → Option ℕ
repeated_after x [] = None
repeated_after x (y ∷ ys) = if y == x then Some x else repeated_after y ys

-- the first place that follows itself
abbrev pub repeated : List ℕ → Option ℕ
repeated [] = None
repeated (x ∷ xs) = repeated_after x xs

-- The first place from n on that these don't go on with. Where they go on to their end, none is missing.
abbrev pub skipped : ℕ → List ℕ → Option ℕ
skipped n [] = None
skipped n (x ∷ xs) = if x == n then skipped (n + 1) xs else Some n
