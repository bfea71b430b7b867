-- Places in lists, and rows changed at a place.
-- It serves the clauses of `connection_at`, `end_at` and `open_place`.
use Rattle.std.proofs.Common.{◌≡◌, ◌<◌, ℕ, zero, suc, Bool, true, false, List, [], ◌∷◌, length, get_or, find, Some, ap, sym, arith}
use Rattle.std.specs.List.{position}
use Rattle.std.proofs.lemmas.List.Quantifiers.{position-Some}
use Rattle.bsc_desk.specs.declared.row.Row.{Row}

-- positions

find_here : (p : Row → Bool) (rows : List Row) (i : ℕ) (r : Row) → i < length rows → p (get_or rows i r) ≡ true → ((k : ℕ) → k < i → p (get_or rows k r) ≡ false) → r ≡ get_or rows i r
    → find p rows ≡ Some r
find_here p [] i r within here before at = absurd (omega arith)
find_here p (x ∷ xs) zero r within here before at = rw here (ap Some (sym at))
find_here p (x ∷ xs) (suc i) r within here before at = rw (before 0 (omega arith)) (find_here p xs i r (omega arith) here (λ k h. before (suc k) (omega arith)) at)

-- a look-up finds the row at the place
pub find_placed : (p : Row → Bool) (rows : List Row) (i : ℕ) (r : Row) → position p rows ≡ Some i → r ≡ get_or rows i r → find p rows ≡ Some r
find_placed p rows i r place at = let q = position-Some p rows i r place in find_here p rows i r q.0 q.1 q.2 at
