-- Streams that are told of one behind the other.
-- It serves the clauses of `turn_all` and `turn_each`.
use Rattle.std.proofs.Common.{◌≡◌, ℕ, ◌+◌, ◌<◌, ◌≤◌, suc, List, [], ◌∷◌, ◌++◌, length, take, get_or, replicate, flat_map, ap, sym, subst, ◌∙◌, arith, take-suc, take_all, append_assoc, append-nil}
use Rattle.std.proofs.lemmas.Grind.{flat_map-append}
use Rattle.std.proofs.lemmas.List.{replicate_more}

module _ {X : Type 0} where
  -- behind so many stands one more
  pub one_more : (start before after : List X) (x : X) (n : ℕ) → before ≡ start ++ replicate n x → after ≡ before ++ x ∷ [] → after ≡ start ++ replicate (n + 1) x
  one_more start before after x n so_far more =
      more ∙ ap (λ (l : List X). l ++ x ∷ []) so_far
      ∙ append_assoc start (replicate n x) (x ∷ [])
      ∙ ap (λ (l : List X). start ++ l) (replicate_more n x)

  pub so_many : (start now : List X) (x : X) (at n : ℕ) → at ≡ n → now ≡ start ++ replicate at x → now ≡ start ++ replicate n x
  so_many start now x at n all so_far = so_far ∙ ap (λ (k : ℕ). start ++ replicate k x) all

module _ {A X : Type 0} (f : A → List X) where
  -- behind what those before a place give stands what is given there
  pub given_more : (start before after : List X) (l : List A) (i : ℕ) (one : A) → i < length l → one ≡ get_or l i one → before ≡ start ++ flat_map f (take i l) → after ≡ before ++ f one
      → after ≡ start ++ flat_map f (take (i + 1) l)
  given_more start before after l i one within at so_far more =
      let next : i + 1 ≡ suc i = omega arith in
      let longer : take (i + 1) l ≡ take i l ++ one ∷ [] =
      ap (λ (k : ℕ). take k l) next
      ∙ take-suc l i one within
      ∙ ap (λ (t : A). take i l ++ t ∷ []) (sym at) in
      let given : flat_map f (take (i + 1) l) ≡ flat_map f (take i l) ++ f one =
      ap (λ (t : List A). flat_map f t) longer
      ∙ flat_map-append f (take i l) (one ∷ [])
      ∙ ap (λ (t : List X). flat_map f (take i l) ++ t) (append-nil (f one)) in
      more ∙ ap (λ (t : List X). t ++ f one) so_far
      ∙ append_assoc start (flat_map f (take i l)) (f one)
      ∙ ap (λ (t : List X). start ++ t) (sym given)

  pub given_all : (start now : List X) (l : List A) (i : ℕ) → length l ≤ i → now ≡ start ++ flat_map f (take i l) → now ≡ start ++ flat_map f l
  given_all start now l i end so_far = so_far ∙ ap (λ (t : List A). start ++ flat_map f t) (take_all i l end)
