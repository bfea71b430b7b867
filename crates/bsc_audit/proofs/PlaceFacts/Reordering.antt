-- Places in another order are told the same.
-- It serves the clauses of `audit_files`, `judge_files` and `judge`.
use Rattle.std.proofs.Common.{◌≡◌, ℕ, ◌==◌, nat_eq, nat_lt, cond, List, ◌∙◌, arith}
use Rattle.std.specs.Cmp.{partial_equiv_from_equiv, nat_eq_equiv}
use Rattle.std.specs.List.Sorted.{IsPermutation}
use Rattle.std.proofs.lemmas.List.Sorted.{list_any-IsPermutation, sum_by-IsPermutation}
use Rattle.std.proofs.lemmas.Map.Keys.{IsDistinct-IsPermutation}
use Rattle.bsc_audit.specs.Places.Places.{IsLeastMissing, IsLeastTwice}
use Rattle.bsc_audit.proofs.PlaceFacts.Counting.{often}

pub often_reordered : (xs ys : List ℕ) → IsPermutation xs ys → (k : ℕ) → often k ys ≡ often k xs
often_reordered xs ys p k = sum_by-IsPermutation (λ q. cond (q == k) 1 0) xs ys p

pub twice_reordered : (xs ys : List ℕ) → IsPermutation xs ys → (p : ℕ) → IsLeastTwice p ys → IsLeastTwice p xs
twice_reordered xs ys perm p t = record {
  twice = (let same = often_reordered xs ys perm p in let was = t.twice in omega (arith, same, was));
  least = λ k less. (let same = often_reordered xs ys perm k in let was = t.least k less in omega (arith, same, was));
}

pub missing_reordered : (xs ys : List ℕ) → IsPermutation xs ys → IsPermutation ys xs → (p : ℕ) → IsLeastMissing p ys → IsLeastMissing p xs
missing_reordered xs ys perm back p m = record {
  once = IsDistinct-IsPermutation nat_eq (partial_equiv_from_equiv nat_eq_equiv).symm ys xs back m.once;
  missing = list_any-IsPermutation (λ q. q == p) xs ys perm ∙ m.missing;
  below = list_any-IsPermutation (λ q. nat_lt p q) xs ys perm ∙ m.below;
  least = λ k less. list_any-IsPermutation (λ q. q == k) xs ys perm ∙ m.least k less;
}
