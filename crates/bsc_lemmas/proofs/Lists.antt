-- Lemmas on lists that the kit lacks.
-- It serves many crates above.
use Rattle.bsc_lemmas.proofs.Booleans.{above_zero}
use Rattle.bsc_lemmas.proofs.Numbers.{below_both}
use Rattle.bsc_lemmas.proofs.Options.{position_shifted as shifted, some_map, position_later as later, some_none}
use Rattle.std.proofs.Common.{add-one, ◌≡◌, ◌∷◌, ◌+◌, take, ◌++◌, ◌∙◌, length, [], List, get_or, ◌<◌, ap, ℕ, nat_eq, Option, ◌-◌, MatchOption, Some, refl, false, ◌≢◌, None, true}
use Rattle.std.proofs.Common.{sym, drop, Bool, cond, filter, not, suc, nat_lt, is_some, ◌||◌, arith, ◌≤◌, slice_get, subst, zero, set, ⊎_elim, inr, ◌⊎◌, inl, find}
use Rattle.std.proofs.Math.Seq.{take-suc}
use Rattle.std.proofs.lemmas.Bool.{false≢true, eqb-true, or_parts}
use Rattle.std.proofs.lemmas.Bool.Decides.{Decides-eqb}
use Rattle.std.proofs.lemmas.List.{append-nil}
use Rattle.std.proofs.lemmas.List.Elements.{filter_map-append}
use Rattle.std.proofs.lemmas.List.Filters.{length-filter_both}
use Rattle.std.proofs.lemmas.Option.{same_Some as same_some}
use Rattle.std.proofs.lemmas.Slice.Eq.{ends_is}
use Rattle.std.specs.Cmp.{partial_equiv_from_equiv}
use Rattle.std.specs.Cmp.Lexicographic.{pointwise, nat_list_eq_equiv}
use Rattle.std.specs.Io.KnownBytes.{Appends}
use Rattle.std.specs.List.{AllByRecursion, position_or_len, position, list_any, range_with_len}
use Rattle.std.specs.Option.{option_map, option_or}
use Rattle.std.specs.Prelude.{◌==◌, filter_map}
use denote.Ref.{Bor}
use lib.ListN.{get_elem?}
use mathlib.Core.Option.{some, some-ne-none, some-injective}

pub line_cut : (o : List ℕ) (n : ℕ) → n < length o → get_or o n 0 ≡ 10 → take (n + 1) o ≡ take n o ++ 10 ∷ []
line_cut o n h e = rw add-one (take-suc o n 0 h ∙ ap (λ (x : ℕ). take n o ++ x ∷ []) e)

pub pointwise_turned : (s p : List ℕ) → pointwise nat_eq s p ≡ pointwise nat_eq p s
pointwise_turned s p = (partial_equiv_from_equiv nat_list_eq_equiv).symm s p

pub before-end : (r : Option (Bor (List ℕ))) (s p : List ℕ) →
    MatchOption r (pointwise nat_eq (drop (length s - length p) s) p ≡ false)
    (λ x. (pointwise nat_eq (drop (length s - length p) s) p ≡ true) × (x.now ≡ take (length s - length p) s) × (length x.now + length p ≡ length s)) →
    MatchOption r ((front : List ℕ) → s ≢ front ++ p) (λ x. s ≡ x.now ++ p)
before-end None s p h = λ front e. false≢true (sym h ∙ (pointwise_turned (drop (length s - length p) s) p
    ∙ (ends_is Decides-eqb s p (pointwise nat_eq p (drop (length s - length p) s)) refl).1 front e))
before-end (Some x) s p h = (ends_is Decides-eqb s p (pointwise nat_eq p (drop (length s - length p) s)) refl).0 (pointwise_turned p (drop (length s - length p) s) ∙ h.0)
    ∙ ap (λ (y : List ℕ). y ++ p) (sym h.1)

pub all-filter : {A : Type 0} (P : A → Type 0) (q : A → Bool) (xs : List A) → AllByRecursion P xs → AllByRecursion P (filter q xs)
all-filter P q [] all = tt
all-filter P q (x ∷ xs) all = let rest = all-filter P q xs all.1 in elim (q x) as (λ b. AllByRecursion P (cond b (x ∷ filter q xs) (filter q xs))) [ true ↦ (all.0, rest) | false ↦ rest ]

pub all-push : {A : Type 0} (P : A → Type 0) (xs : List A) (y : A) → AllByRecursion P xs → P y → AllByRecursion P (xs ++ y ∷ [])
all-push P [] y all one = (one, tt)
all-push P (x ∷ xs) y all one = (all.0, all-push P xs y all.1 one)

pub position-cons : {X : Type 0} (p : X → Bool) (x : X) (xs : List X) → position p (x ∷ xs) ≡ cond (p x) (Some 0) (option_map (λ i. 1 + i) (position p xs))
position-cons p x xs =
    elim (p x) as (λ b. cond (nat_lt (cond (not b) (1 + position_or_len p xs) 0) (suc (length xs))) (Some (cond (not b) (1 + position_or_len p xs) 0)) None
    ≡ cond b (Some 0) (option_map (λ i. 1 + i) (position p xs))) [
      | true ↦ ap (λ (b : Bool). cond b (Some 0) None) (above_zero (length xs))
      | false ↦ ap (λ (b : Bool). cond b (Some (1 + position_or_len p xs)) None) (below_both (position_or_len p xs) (length xs))
          ∙ shifted (nat_lt (position_or_len p xs) (length xs)) (position_or_len p xs)
    ]

-- where there is no place, none is found
pub position-none : {A : Type 0} (p : A → Bool) (xs : List A) → position p xs ≡ None → find p xs ≡ None
position-none p [] h = refl
position-none {A} p (x ∷ xs) h = by (p x) refl (position-none p xs)
  where
    later : (position p xs ≡ None → find p xs ≡ None) → (o : Option ℕ) → position p xs ≡ o → option_map (λ n. 1 + n) o ≡ None → find p xs ≡ None
    later rec None e g = rec e
    later rec (Some n) e g = cc

    by : (b : Bool) → p x ≡ b → (position p xs ≡ None → find p xs ≡ None) → find p (x ∷ xs) ≡ None
    by true f rec = absurd (some_none 0 (sym (position-cons p x xs ∙ ap (λ (b : Bool). cond b (Some 0) (option_map (λ n. 1 + n) (position p xs))) f) ∙ h))
    by false f rec = ap (λ (b : Bool). cond b (Some x) (find p xs)) f ∙ later rec (position p xs) refl
        (sym (position-cons p x xs ∙ ap (λ (b : Bool). cond b (Some 0) (option_map (λ n. 1 + n) (position p xs))) f) ∙ h)

pub position_any : {X : Type 0} (p : X → Bool) (xs : List X) → is_some (position p xs) ≡ list_any p xs
position_any p [] = refl
position_any p (x ∷ xs) =
    ap is_some (position-cons p x xs) ∙ elim (p x) as (λ b. is_some (cond b (Some 0) (option_map (λ i. 1 + i) (position p xs))) ≡ (b || list_any p xs)) [
      | true ↦ refl
      | false ↦ some_map (λ (i : ℕ). 1 + i) (position p xs) ∙ position_any p xs
    ]

pub position_one : {X : Type 0} (p : X → Bool) (y : X) → position p (y ∷ []) ≡ cond (p y) (Some 0) None
position_one p y = position-cons p y [] ∙ elim (p y) as (λ b. cond b (Some 0) (option_map (λ i. 1 + i) None) ≡ cond b (Some 0) None) [ true ↦ refl | false ↦ refl ]

pub position_more : {X : Type 0} (p : X → Bool) (xs : List X) (y : X) → position p (xs ++ y ∷ []) ≡ option_or (position p xs) (cond (p y) (Some (length xs)) None)
position_more p [] y = position_one p y
position_more p (x ∷ xs) y =
    let rest = position_more p xs y in
    position-cons p x (xs ++ y ∷ []) ∙ elim (p x) as (λ b. cond b (Some 0) (option_map (λ i. 1 + i) (position p (xs ++ y ∷ [])))
    ≡ option_or (cond b (Some 0) (option_map (λ i. 1 + i) (position p xs))) (cond (p y) (Some (suc (length xs))) None)) [
      | true ↦ refl
      | false ↦ ap (option_map (λ i. 1 + i)) rest ∙ later (position p xs) (p y) (length xs)
    ]
    ∙ sym (ap (λ (o : Option ℕ). option_or o (cond (p y) (Some (suc (length xs))) None)) (position-cons p x xs))

pub same_rest : {A : Type 0} (xs ys zs : List A) → xs ++ ys ≡ xs ++ zs → ys ≡ zs
same_rest [] ys zs h = h
same_rest {A} (x ∷ xs) ys zs h = same_rest xs ys zs (let k : xs ++ ys ≡ xs ++ zs = cc in k)

pub all_append : {A : Type 0} (P : A → Type 0) (xs ys : List A) → AllByRecursion P xs → AllByRecursion P ys → AllByRecursion P (xs ++ ys)
all_append P [] ys h k = k
all_append P (x ∷ xs) ys h k = (h.0, all_append P xs ys h.1 k)

pub filter_le : {X : Type 0} (p : X → Bool) (xs : List X) → length (filter p xs) ≤ length xs
filter_le p xs = (let k = length-filter_both p (λ x. not (p x)) (λ x. refl) xs in omega (arith, k))

pub drop_all : {A : Type 0} (l : List A) → drop (length l) l ≡ []
drop_all [] = refl
drop_all (x ∷ l) = drop_all l

pub all-at : {A : Type 0} (P : A → Type 0) (xs : List A) (i : ℕ) (x : A) → AllByRecursion P xs → slice_get xs i ≡ Some x → P x
all-at P [] i x h g = cc
all-at P (a ∷ xs) zero x h g = subst P (same_some a x g) h.0
all-at P (a ∷ xs) (suc i) x h g = all-at P xs i x h.1 g

pub get-set : {A : Type 0} (xs : List A) (i : ℕ) (x y : A) → slice_get xs i ≡ Some x → slice_get (set xs i y) i ≡ Some y
get-set [] i x y h = cc
get-set (z ∷ xs) zero x y h = refl
get-set (z ∷ xs) (suc i) x y h = get-set xs i x y h

pub got-within : {A : Type 0} (xs : List A) (i : ℕ) (x : A) → slice_get xs i ≡ Some x → i < length xs
got-within [] i x h = cc
got-within (z ∷ xs) zero x h = omega arith
got-within (z ∷ xs) (suc i) x h = (let k = got-within xs i x h in omega arith)

-- an element of the first of two lists, and the first of the second
pub got-left : {A : Type 0} (xs ys : List A) (i : ℕ) (x : A) → slice_get xs i ≡ Some x → slice_get (xs ++ ys) i ≡ Some x
got-left [] ys i x h = cc
got-left (a ∷ xs) ys zero x h = h
got-left (a ∷ xs) ys (suc i) x h = got-left xs ys i x h

pub got-split : {A : Type 0} (xs : List A) (y : A) (ys : List A) → slice_get (xs ++ y ∷ ys) (length xs) ≡ Some y
got-split [] y ys = refl
got-split (x ∷ xs) y ys = got-split xs y ys

-- of a list with one more at the end: an element of before, or the new one
pub got-more : {A : Type 0} (xs : List A) (y : A) (i : ℕ) (x : A) → slice_get (xs ++ y ∷ []) i ≡ Some x → (slice_get xs i ≡ Some x) ⊎ ((i ≡ length xs) × (y ≡ x))
got-more [] y zero x h = inr (refl, same_some y x h)
got-more [] y (suc i) x h = cc
got-more (a ∷ xs) y zero x h = inl h
got-more {A} (a ∷ xs) y (suc i) x h = by (got-more xs y i x h)
  where
    by : (slice_get xs i ≡ Some x) ⊎ ((i ≡ length xs) × (y ≡ x)) → (slice_get xs i ≡ Some x) ⊎ ((suc i ≡ suc (length xs)) × (y ≡ x))
    by (inl e) = inl e
    by (inr (e, f)) = inr (ap suc e, f)

pub all-right : {A : Type 0} (P : A → Type 0) (xs ys : List A) → AllByRecursion P (xs ++ ys) → AllByRecursion P ys
all-right P [] ys all = all
all-right P (x ∷ xs) ys all = all-right P xs ys all.1

pub range_below : (n a k : ℕ) → list_any (λ j. k == j) (range_with_len a n) ≡ true → k < a + n
range_below zero a k h = cc
range_below (suc n) a k h = by (k == a) refl h (λ g. range_below n (a + 1) k g)
  where
    by : (b : Bool) → (k == a) ≡ b → (b || list_any (λ j. k == j) (range_with_len (a + 1) n)) ≡ true → (list_any (λ j. k == j) (range_with_len (a + 1) n) ≡ true → k < a + 1 + n) → k < a + suc n
    by true e g later = let q = eqb-true k a e in omega (arith, q)
    by false e g later = let w = later g in omega (arith, w)

pub filter_map_none : {A B : Type 0} (f : A → Option B) (xs : List A) (x : A) → f x ≡ None → filter_map f (xs ++ x ∷ []) ≡ filter_map f xs
filter_map_none f xs x h = filter_map-append f xs (x ∷ []) ∙ rw h (append-nil (filter_map f xs))

pub appends_to : (before after : Option (List ℕ)) (x part : List ℕ) → before ≡ Some x → Appends before after part → after ≡ Some (x ++ part)
appends_to None after x part same h = absurd cc
appends_to (Some y) None x part same h = absurd h
appends_to (Some y) (Some z) x part same h = let is : y ≡ x = cc in ap Some (h ∙ ap (λ (w : List ℕ). w ++ part) is)

pub get_elem_below : {A : Type 0} (l : List A) (i : ℕ) (a : A) → get_elem? l i ≡ some a → i < length l
get_elem_below [] i a e = absurd (some-ne-none a (sym e))
get_elem_below (x ∷ xs) zero a e = omega arith
get_elem_below (x ∷ xs) (suc i) a e = let h = get_elem_below xs i a e in omega arith

pub get_of_one : {A : Type 0} (x : A) (i : ℕ) (y : A) → get_elem? (x ∷ []) i ≡ some y → (i ≡ 0) × (x ≡ y)
get_of_one x zero y e = (refl, some-injective x y e)
get_of_one x (suc i) y e = absurd (some-ne-none y (sym e))

pub get_of_pushed : {A : Type 0} (l : List A) (a b : A) (j : ℕ) → get_elem? (l ++ a ∷ []) j ≡ some b → (get_elem? l j ≡ some b) ⊎ ((j ≡ length l) × (a ≡ b))
get_of_pushed [] a b zero e = inr (refl, some-injective a b e)
get_of_pushed [] a b (suc j) e = absurd (some-ne-none b (sym e))
get_of_pushed (x ∷ xs) a b zero e = inl e
get_of_pushed (x ∷ xs) a b (suc j) e = ⊎_elim (λ h. inl h) (λ h. inr (ap suc h.0, h.1)) (get_of_pushed xs a b j e)

pub got-at : {A : Type 0} (xs : List A) (i : ℕ) → i < length xs → (x : A) × (slice_get xs i ≡ Some x)
got-at [] i h = absurd (omega arith)
got-at (a ∷ xs) zero h = (a, refl)
got-at (a ∷ xs) (suc i) h = got-at xs i (omega arith)

pub none_of : {A : Type 0} (p : A → Bool) (xs : List A) → list_any p xs ≡ false → find p xs ≡ None
none_of p [] h = refl
none_of {A} p (x ∷ xs) h =
    let two = or_parts (p x) (list_any p xs) h in
    ap (λ (b : Bool). cond b (Some x) (find p xs)) two.0 ∙ none_of p xs two.1

pub get-drop : {A : Type 0} (n : ℕ) (xs : List A) → slice_get (drop n xs) 0 ≡ slice_get xs n
get-drop zero [] = refl
get-drop zero (x ∷ xs) = refl
get-drop (suc n) [] = refl
get-drop (suc n) (x ∷ xs) = get-drop n xs

pub get_beyond : {A : Type 0} (xs : List A) (i : ℕ) → length xs ≤ i → slice_get xs i ≡ None
get_beyond [] i h = refl
get_beyond (x ∷ xs) zero h = absurd (omega arith)
get_beyond (x ∷ xs) (suc i) h = get_beyond xs i (omega arith)
