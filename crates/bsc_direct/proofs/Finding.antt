-- Looking through the slots that are kept finds what looking through the calls does.
-- It serves clauses of functions of `direct`, `laws` and `path`.
use Rattle.std.proofs.Common.{◌≡◌, ◌+◌, ℕ, zero, suc, Bool, true, false, cond, List, [], ◌∷◌, length, get_or, find, Option, Some, None, refl, ap, sym, ◌∙◌, arith}
use Rattle.std.specs.List.{position, range_with_len}
use Rattle.std.specs.Option.{option_map}
use Rattle.bsc_direct.specs.declared.bounds.TheConstants.{SLOTS}
use Rattle.bsc_direct.specs.Slots.{slots}
use Rattle.bsc_lemmas.proofs.Lists.{position-cons}

-- where there is no place, none passes
pub none_passes : {X : Type 0} (p : X → Bool) (d : X) (xs : List X) → p d ≡ false → position p xs ≡ None → (k : ℕ) → p (get_or xs k d) ≡ false
none_passes p d [] past h k = past
none_passes p d (x ∷ xs) past h k = by (p x) refl k (none_passes p d xs past) (sym (position-cons p x xs) ∙ h)
  where
    later : (o : Option ℕ) → option_map (λ (i : ℕ). 1 + i) o ≡ None → o ≡ None
    later None g = refl
    later (Some i) g = cc

    by : (b : Bool) → p x ≡ b → (k : ℕ) → (position p xs ≡ None → (k : ℕ) → p (get_or xs k d) ≡ false) → cond b (Some 0) (option_map (λ (i : ℕ). 1 + i) (position p xs)) ≡ None
        → p (get_or (x ∷ xs) k d) ≡ false
    by true e k rest g = cc
    by false e zero rest g = e
    by false e (suc k) rest g = rest (later (position p xs) g) k

moved : (a : ℕ) (b : Bool) (o : Option ℕ) → cond b (Some a) (option_map (λ (i : ℕ). a + 1 + i) o) ≡ option_map (λ (i : ℕ). a + i) (cond b (Some 0) (option_map (λ (i : ℕ). 1 + i) o))
moved a true o = ap Some (let q : a ≡ a + 0 = omega arith in q)
moved a false None = refl
moved a false (Some i) = ap Some (let q : a + 1 + i ≡ a + (1 + i) = omega arith in q)

searched : {X : Type 0} (p : X → Bool) (test : ℕ → Bool) (d : X) (xs : List X) (a : ℕ) → ((k : ℕ) → p (get_or xs k d) ≡ test (a + k))
    → find test (range_with_len a (length xs)) ≡ option_map (λ (i : ℕ). a + i) (position p xs)
searched p test d [] a h = refl
searched p test d (x ∷ xs) a h =
    let here : test a ≡ p x = ap test (let q : a ≡ a + 0 = omega arith in q) ∙ sym (h 0) in
    let rest = searched p test d xs (a + 1) (λ k. h (suc k) ∙ ap test (let q : a + suc k ≡ a + 1 + k = omega arith in q)) in
    ap (λ (o : Option ℕ). cond (test a) (Some a) o) rest
    ∙ ap (λ (b : Bool). cond b (Some a) (option_map (λ (i : ℕ). a + 1 + i) (position p xs))) here
    ∙ moved a (p x) (position p xs)
    ∙ ap (option_map (λ (i : ℕ). a + i)) (sym (position-cons p x xs))

unmoved : (o : Option ℕ) → option_map (λ (i : ℕ). 0 + i) o ≡ o
unmoved None = refl
unmoved (Some i) = ap Some (let q : 0 + i ≡ i = omega arith in q)

-- where a slot passes exactly where its number does
pub found_as_kept : {X : Type 0} (p : X → Bool) (test : ℕ → Bool) (d : X) (xs : List X) → length xs ≡ SLOTS → ((k : ℕ) → p (get_or xs k d) ≡ test k) → position p xs ≡ find test slots
unfolding slots
found_as_kept p test d xs len h =
    sym (unmoved (position p xs)) ∙ sym (searched p test d xs 0 (λ k. h k ∙ ap test (let q : k ≡ 0 + k = omega arith in q))) ∙ ap (λ (n : ℕ). find test (range_with_len 0 n)) len

pub none_found : (test : ℕ → Bool) (ks : List ℕ) → ((k : ℕ) → test k ≡ false) → find test ks ≡ None
none_found test [] h = refl
none_found test (k ∷ ks) h = rw (h k) (none_found test ks h)
