-- A list that lost the element at a place.
-- It serves the clauses of `give`.
use Rattle.std.proofs.Common.{◌≡◌, ℕ, suc, ◌+◌, ◌<◌, List, ◌∷◌, ◌++◌, length, get_or, take, drop, map, ap, sym, ◌∙◌, arith}
use Rattle.std.proofs.lemmas.List.{drop_more, map-append, take-append-drop}
use Rattle.bsc_edge.specs.Told.{Ends}

module _ {T J D : Type 0} (works : J → D → Type 0) (job : T → J) where
  -- the thread at a place was joined, and this is left of its job
  pub gives : (xs ys : List T) (at : ℕ) (x : T) (done : D) → at < length xs → x ≡ get_or xs at x → ys ≡ take at xs ++ drop (suc at) xs
      → works (job x) done → Ends works (map job xs) (map job ys) done
  gives xs ys at x done within is left worked =
      let behind : drop at xs ≡ x ∷ drop (suc at) xs =
      drop_more xs at x within ∙ ap (λ y. y ∷ drop (at + 1) xs) (sym is) ∙ (let on : at + 1 ≡ suc at = omega arith in ap (λ n. x ∷ drop n xs) on) in
      let split : xs ≡ take at xs ++ x ∷ drop (suc at) xs =
      sym (take-append-drop at xs) ∙ ap (λ (ys : List T). take at xs ++ ys) behind in
      record {
        job = job x;
        before = map job (take at xs);
        behind = map job (drop (suc at) xs);
        was = ap (map job) split ∙ map-append job (take at xs) (x ∷ drop (suc at) xs);
        left = ap (map job) left ∙ map-append job (take at xs) (drop (suc at) xs);
        worked = worked;
      }
