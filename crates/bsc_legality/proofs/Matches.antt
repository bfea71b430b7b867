-- Numbers that are matched with those of elements that pass a test, from the front.
-- It serves clauses of functions of `matching`.
use Rattle.std.proofs.Common.{◌≡◌, ℕ, zero, suc, ◌+◌, ◌<◌, ◌≤◌, ◌==◌, Bool, true, false, ◌&&◌, cond, List, [], ◌∷◌, length, get_or, drop, drop-cons, map, filter, refl, ap, sym, ◌∙◌, arith}
use Rattle.std.proofs.lemmas.List.{get_or_default}
use Rattle.bsc_legality.specs.Deciding.{begins}
use Rattle.bsc_legality.specs.Sameness.{same_numbers}

-- the numbers from a place on are those of the elements from a place on that pass
abbrev pub matches : {A : Type 0} → (A → ℕ) → (A → Bool) → List ℕ → ℕ → List A → ℕ → Bool
matches f p ks at xs i = same_numbers (drop at ks) (map f (filter p (drop i xs)))

pub record Matches {A : Type 0} (f : A → ℕ) (p : A → Bool) (ks : List ℕ) (at : ℕ) (xs : List A) (i : ℕ) : Type 0 where
  pub within : at ≤ length ks
  pub so_far : same_numbers ks (map f (filter p xs)) ≡ matches f p ks at xs i

plus_one : (i : ℕ) → suc i ≡ i + 1
plus_one i = omega arith

next : {A : Type 0} (xs : List A) (i : ℕ) (x : A) → i < length xs → x ≡ get_or xs i x → drop i xs ≡ x ∷ drop (i + 1) xs
next {A} xs i x within at = drop-cons xs i x within ∙ ap (λ (y : A). y ∷ drop (suc i) xs) (sym at) ∙ ap (λ (k : ℕ). x ∷ drop k xs) (plus_one i)

-- from the place on numbers begin with one, and go on behind it
split_suc : (at : ℕ) (ks : List ℕ) (n : ℕ) (ns : List ℕ) → same_numbers (drop at ks) (n ∷ ns) ≡ (begins n (drop at ks) && same_numbers (drop (suc at) ks) ns)
split_suc zero [] n ns = refl
split_suc zero (k ∷ ks) n ns = refl
split_suc (suc at) [] n ns = refl
split_suc (suc at) (k ∷ ks) n ns = split_suc at ks n ns

split_at : (at : ℕ) (ks : List ℕ) (n : ℕ) (ns : List ℕ) → same_numbers (drop at ks) (n ∷ ns) ≡ (begins n (drop at ks) && same_numbers (drop (at + 1) ks) ns)
split_at at ks n ns = split_suc at ks n ns ∙ ap (λ (k : ℕ). begins n (drop at ks) && same_numbers (drop k ks) ns) (plus_one at)

begins_within : (n at : ℕ) (ks : List ℕ) → begins n (drop at ks) ≡ true → at + 1 ≤ length ks
begins_within n zero [] h = cc
begins_within n zero (k ∷ ks) h = omega arith
begins_within n (suc at) [] h = cc
begins_within n (suc at) (k ∷ ks) h = let r = begins_within n at ks h in omega arith

step : {A : Type 0} (f : A → ℕ) (p : A → Bool) (ks : List ℕ) (at : ℕ) (xs : List A) (i : ℕ) (x : A) → i < length xs → x ≡ get_or xs i x → (b : Bool) → p x ≡ b
    → matches f p ks at xs i ≡ cond b (begins (f x) (drop at ks) && matches f p ks (at + 1) xs (i + 1)) (matches f p ks at xs (i + 1))
step {A} f p ks at xs i x within is b pass =
    let F = filter p (drop (i + 1) xs) in
    ap (λ (l : List A). same_numbers (drop at ks) (map f (filter p l))) (next xs i x within is)
    ∙ ap (λ (c : Bool). same_numbers (drop at ks) (map f (cond c (x ∷ F) F))) pass
    ∙ elim b as (λ b. same_numbers (drop at ks) (map f (cond b (x ∷ F) F)) ≡ cond b (begins (f x) (drop at ks) && matches f p ks (at + 1) xs (i + 1)) (matches f p ks at xs (i + 1))) [
      | true ↦ split_at at ks (f x) (map f F)
      | false ↦ refl
    ]

pub passed_over : {A : Type 0} (f : A → ℕ) (p : A → Bool) (ks : List ℕ) (at : ℕ) (xs : List A) (i : ℕ) (x : A) → i < length xs → x ≡ get_or xs i x → p x ≡ false → Matches f p ks at xs i
    → Matches f p ks at xs (i + 1)
passed_over f p ks at xs i x within is pass m = record { within = m.within; so_far = m.so_far ∙ step f p ks at xs i x within is false pass }

pub matched : {A : Type 0} (f : A → ℕ) (p : A → Bool) (ks : List ℕ) (at : ℕ) (xs : List A) (i : ℕ) (x : A) → i < length xs → x ≡ get_or xs i x → p x ≡ true → begins (f x) (drop at ks) ≡ true
    → Matches f p ks at xs i → Matches f p ks (at + 1) xs (i + 1)
matched f p ks at xs i x within is pass here m = record {
  within = begins_within (f x) at ks here;
  so_far = m.so_far ∙ step f p ks at xs i x within is true pass ∙ ap (λ (b : Bool). b && matches f p ks (at + 1) xs (i + 1)) here;
}

-- the same of what stands at the place

pub passed_over_at : {A : Type 0} (f : A → ℕ) (p : A → Bool) (ks : List ℕ) (at : ℕ) (xs : List A) (i : ℕ) (d : A) → i < length xs → p (get_or xs i d) ≡ false → Matches f p ks at xs i
    → Matches f p ks at xs (i + 1)
passed_over_at f p ks at xs i d within pass m = passed_over f p ks at xs i (get_or xs i d) within (get_or_default xs i d (get_or xs i d) within) pass m

pub matched_at : {A : Type 0} (f : A → ℕ) (p : A → Bool) (ks : List ℕ) (at : ℕ) (xs : List A) (i : ℕ) (d : A) → i < length xs → p (get_or xs i d) ≡ true
    → begins (f (get_or xs i d)) (drop at ks) ≡ true → Matches f p ks at xs i → Matches f p ks (at + 1) xs (i + 1)
matched_at f p ks at xs i d within pass here m = matched f p ks at xs i (get_or xs i d) within (get_or_default xs i d (get_or xs i d) within) pass here m

-- what stands at a place of mapped elements
pub begins_at : {A : Type 0} (f : A → ℕ) (n at : ℕ) (xs : List A) (d : A) → at < length xs → (f (get_or xs at d) == n) ≡ begins n (drop at (map f xs))
begins_at f n at [] d within = absurd (omega arith)
begins_at f n zero (x ∷ xs) d within = refl
begins_at f n (suc at) (x ∷ xs) d within = begins_at f n at xs d (omega arith)
