-- Lists in another order, joined.
-- It serves clauses of functions of `files`.
use Rattle.std.proofs.Common.{ℕ, zero, suc, ◌<◌, List, [], ◌∷◌, ◌++◌, length, get_or, set, swap, flat_map, subst, arith, append_assoc, IsPermutation}
use Rattle.std.proofs.lemmas.List.Sorted.{IsPermutation-append_comm, IsPermutation-append_left, IsPermutation-append_right, IsPermutation-keeps, IsPermutation-refl, IsPermutation-trans}
use Rattle.std.proofs.lemmas.List.Edits.{swap_is}

pub front_swap : {A : Type 0} (xs ys zs : List A) → IsPermutation (xs ++ (ys ++ zs)) (ys ++ (xs ++ zs))
front_swap xs ys zs =
    subst (λ (l : List _). IsPermutation l (ys ++ (xs ++ zs))) (append_assoc xs ys zs)
    (subst (λ (l : List _). IsPermutation ((xs ++ ys) ++ zs) l) (append_assoc ys xs zs)
    (IsPermutation-append_left zs (xs ++ ys) (ys ++ xs) (IsPermutation-append_comm xs ys)))

module _ {X A : Type 0} (f : X → List A) where
  -- a comes in the stead of the element at j, which comes in front
  put : (l : List X) (j : ℕ) (a d : X) → j < length l → IsPermutation (f a ++ flat_map f l) (f (get_or l j d) ++ flat_map f (set l j a))
  put [] j a d within = absurd (let no : ⊥ = omega (arith, within) in no)
  put (b ∷ l) zero a d within = front_swap (f a) (f b) (flat_map f l)
  put (c ∷ l) (suc j) a d within =
      let g = f (get_or l j d) in
      let rest = flat_map f (set l j a) in
      IsPermutation-trans (f a ++ (f c ++ flat_map f l)) (f c ++ (f a ++ flat_map f l)) (g ++ (f c ++ rest)) (front_swap (f a) (f c) (flat_map f l))
      (IsPermutation-trans (f c ++ (f a ++ flat_map f l)) (f c ++ (g ++ rest)) (g ++ (f c ++ rest))
      (IsPermutation-append_right (f c) (f a ++ flat_map f l) (g ++ rest) (put l j a d (omega (arith, within)))) (front_swap (f c) g rest))

  two : (l : List X) (i j : ℕ) (d : X) → i < length l → j < length l → IsPermutation (flat_map f l) (flat_map f (set (set l i (get_or l j d)) j (get_or l i d)))
  two [] i j d p q = absurd (let no : ⊥ = omega (arith, p) in no)
  two (a ∷ l) zero zero d p q = IsPermutation-refl (flat_map f (a ∷ l))
  two (a ∷ l) zero (suc j) d p q = put l j a d (omega (arith, q))
  two (a ∷ l) (suc i) zero d p q = put l i a d (omega (arith, p))
  two (a ∷ l) (suc i) (suc j) d p q =
      IsPermutation-append_right (f a) (flat_map f l) (flat_map f (set (set l i (get_or l j d)) j (get_or l i d))) (two l i j d (omega (arith, p)) (omega (arith, q)))

  -- a list that has an element has one
  one_of : (l : List X) (i : ℕ) → i < length l → X
  one_of [] i within = absurd (let no : ⊥ = omega (arith, within) in no)
  one_of (x ∷ l) i within = x

  pub flat_permuted : (xs ys : List X) → IsPermutation xs ys → IsPermutation (flat_map f xs) (flat_map f ys)
  flat_permuted xs ys perm = IsPermutation-keeps xs (λ l. IsPermutation (flat_map f xs) (flat_map f l)) (IsPermutation-refl (flat_map f xs)) (λ l i j p q h.
      let d : X = one_of l i p in
      IsPermutation-trans (flat_map f xs) (flat_map f l) (flat_map f (swap l i j)) h
      (subst (λ (m : List X). IsPermutation (flat_map f l) (flat_map f m)) (swap_is l i j d p q) (two l i j d p q))) ys perm
