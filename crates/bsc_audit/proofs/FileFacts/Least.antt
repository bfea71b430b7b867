-- What comes first of some heads is of no greater place than the others.
-- It serves the clauses of `take_head`.
use Rattle.std.proofs.Common.{◌≡◌, ◌≤◌, false, List, [], ◌∷◌, refl}
use Rattle.std.specs.BinaryHeap.{IsUpperBound}
use Rattle.std.specs.List.{AllByRecursion}
use Rattle.std.specs.Ordering.{is_lt, ordering_then}
use Rattle.std.specs.declared.cmp.Ordering.{Ordering}
use Rattle.std.specs.declared.cmp.Ordering.TheVariants.{Less, Equal, Greater}
use Rattle.std.proofs.HeapSift.{at_most}
use Rattle.bsc_audit.specs.declared.files.head.Head.{Head}
use Rattle.bsc_audit.specs.Merging.{head_cmp}

first_not_lt : (a b : Ordering) → is_lt (ordering_then a b) ≡ false → is_lt a ≡ false
first_not_lt Less b e = e
first_not_lt Equal b e = refl
first_not_lt Greater b e = e

pub least_first : (h : Head) (others : List Head) → IsUpperBound head_cmp h others → AllByRecursion (λ other. h.place ≤ other.place) others
least_first h [] above = tt
least_first h (g ∷ others) above = (at_most g.place h.place (first_not_lt _ _ above.0), least_first h others above.1)
