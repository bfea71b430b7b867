-- Elements at an index: of a part of a list, and of what a list gives.
-- It serves clauses of functions of `laws`.
use Rattle.std.proofs.Common.{◌≡◌, ◌⊎◌, inl, inr, ℕ, zero, suc, Bool, true, false, cond, List, [], ◌∷◌, ◌++◌, length, filter, take, Some, refl, ap, sym, subst, ◌∙◌, arith, length-append}
use Rattle.std.specs.Prelude.{flat_map, map, slice_get}
use Rattle.std.proofs.lemmas.Option.{same_Some}
use Rattle.bsc_lemmas.proofs.Numbers.{same_suc}

never : (n : ℕ) → zero ≡ suc n → ⊥
never n h = cc

-- ---- at an index

pub nothing_got : (i : ℕ) (o : List ℕ) → slice_get [] i ≡ Some o → ⊥
nothing_got i o h = cc

pub got-taken : {A : Type 0} (n : ℕ) (xs : List A) (i : ℕ) (x : A) → slice_get (take n xs) i ≡ Some x → slice_get xs i ≡ Some x
got-taken zero xs i x h = cc
got-taken (suc n) [] i x h = cc
got-taken (suc n) (a ∷ xs) zero x h = h
got-taken (suc n) (a ∷ xs) (suc i) x h = got-taken n xs i x h

pub take-taken : {A : Type 0} (n : ℕ) (xs : List A) (i : ℕ) (x : A) → slice_get (take n xs) i ≡ Some x → take i (take n xs) ≡ take i xs
take-taken zero xs i x h = cc
take-taken (suc n) [] i x h = cc
take-taken (suc n) (a ∷ xs) zero x h = refl
take-taken {A} (suc n) (a ∷ xs) (suc i) x h = ap (λ (l : List A). a ∷ l) (take-taken n xs i x h)

pub take-split : {A : Type 0} (xs ys : List A) → take (length xs) (xs ++ ys) ≡ xs
take-split [] ys = refl
take-split {A} (x ∷ xs) ys = ap (λ (l : List A). x ∷ l) (take-split xs ys)

-- what f makes of an element that is mapped
pub got-mapped : {A B : Type 0} (f : A → B) (xs : List A) (i : ℕ) (x : A) → slice_get xs i ≡ Some x → slice_get (map f xs) i ≡ Some (f x)
got-mapped f [] i x h = cc
got-mapped f (a ∷ xs) zero x h = ap Some (ap f (same_Some a x h))
got-mapped f (a ∷ xs) (suc i) x h = got-mapped f xs i x h

-- ---- what passes a test

-- The n-th of those that pass stands at this index.
pub record Kept {A : Type 0} (p : A → Bool) (xs : List A) (n : ℕ) (x : A) : Type 0 where
  pub index : ℕ
  pub at : slice_get xs index ≡ Some x
  pub passes : p x ≡ true
  pub before : length (filter p (take index xs)) ≡ n

pub got-filter : {A : Type 0} (p : A → Bool) (xs : List A) (n : ℕ) (x : A) → slice_get (filter p xs) n ≡ Some x → Kept p xs n x
got-filter p [] n x h = cc
got-filter {A} p (y ∷ ys) n x h = by (λ m g. got-filter p ys m x g) (p y) refl n h
  where
    on : (m k : ℕ) (r : Kept p ys m x) (b : Bool) → p y ≡ b → length (cond b (y ∷ filter p (take r.index ys)) (filter p (take r.index ys))) ≡ k → Kept p (y ∷ ys) k x
    on m k r b is e = record {
      index = suc r.index;
      at = r.at;
      passes = r.passes;
      before = ap (λ (t : Bool). length (cond t (y ∷ filter p (take r.index ys)) (filter p (take r.index ys)))) is ∙ e;
    }

    by : ((m : ℕ) → slice_get (filter p ys) m ≡ Some x → Kept p ys m x) → (b : Bool) → p y ≡ b → (n : ℕ) → slice_get (cond b (y ∷ filter p ys) (filter p ys)) n ≡ Some x → Kept p (y ∷ ys) n x
    by rec true is zero h = record { index = 0; at = h; passes = ap p (sym (same_Some y x h)) ∙ is; before = refl }
    by rec true is (suc n) h = (let r = rec n h in on n (suc n) r true is (ap suc r.before))
    by rec false is n h = (let r = rec n h in on n n r false is r.before)

-- Two that pass, with as many before them, stand at one index.
pub same-kept : {A : Type 0} (p : A → Bool) (xs : List A) (i j : ℕ) (x y : A) → slice_get xs i ≡ Some x → p x ≡ true → slice_get xs j ≡ Some y → p y ≡ true
    → length (filter p (take i xs)) ≡ length (filter p (take j xs)) → i ≡ j
same-kept p [] i j x y a q b r e = cc
same-kept p (z ∷ zs) zero zero x y a q b r e = refl
same-kept {A} p (z ∷ zs) zero (suc j) x y a q b r e =
    let here : p z ≡ true = ap p (same_Some z x a) ∙ q in
    absurd (never (length (filter p (take j zs))) (e ∙ ap (λ (t : Bool). length (cond t (z ∷ filter p (take j zs)) (filter p (take j zs)))) here))
same-kept {A} p (z ∷ zs) (suc i) zero x y a q b r e =
    let here : p z ≡ true = ap p (same_Some z y b) ∙ r in
    absurd (never (length (filter p (take i zs))) (sym e ∙ ap (λ (t : Bool). length (cond t (z ∷ filter p (take i zs)) (filter p (take i zs)))) here))
same-kept {A} p (z ∷ zs) (suc i) (suc j) x y a q b r e = ap suc (same-kept p zs i j x y a q b r (by (p z) e))
  where
    I : List A
    I = filter p (take i zs)

    J : List A
    J = filter p (take j zs)

    by : (t : Bool) → length (cond t (z ∷ I) I) ≡ length (cond t (z ∷ J) J) → length I ≡ length J
    by true h = same_suc (length I) (length J) h
    by false h = h

-- ---- what each gives, at most one

abbrev pub AtMostOne : {A B : Type 0} → (A → List B) → Type 0
AtMostOne {A} {B} f = (x : A) → (f x ≡ []) ⊎ ((y : B) × (f x ≡ y ∷ []))

-- The n-th that is given is what the element at this index gives.
pub record Given {A B : Type 0} (f : A → List B) (xs : List A) (n : ℕ) (y : B) : Type 0 where
  pub index : ℕ
  pub from : A
  pub at : slice_get xs index ≡ Some from
  pub gives : f from ≡ y ∷ []
  pub before : length (flat_map f (take index xs)) ≡ n

pub got-given : {A B : Type 0} (f : A → List B) → AtMostOne f → (xs : List A) (n : ℕ) (y : B) → slice_get (flat_map f xs) n ≡ Some y → Given f xs n y
got-given f one [] n y h = cc
got-given {A} {B} f one (x ∷ xs) n y h = by (λ m g. got-given f one xs m y g) (one x)
  where
    on : (m k : ℕ) (r : Given f xs m y) → length (f x ++ flat_map f (take r.index xs)) ≡ k → Given f (x ∷ xs) k y
    on m k r e = record { index = suc r.index; from = r.from; at = r.at; gives = r.gives; before = e }

    first : ((m : ℕ) → slice_get (flat_map f xs) m ≡ Some y → Given f xs m y) → (z : B) → f x ≡ z ∷ [] → (n : ℕ) → slice_get (z ∷ flat_map f xs) n ≡ Some y → Given f (x ∷ xs) n y
    first rec z is zero g = record { index = 0; from = x; at = refl; gives = is ∙ ap (λ (w : B). w ∷ []) (same_Some z y g); before = refl }
    first rec z is (suc m) g = (let r = rec m g in on m (suc m) r (ap (λ (l : List B). length (l ++ flat_map f (take r.index xs))) is ∙ ap suc r.before))

    by : ((m : ℕ) → slice_get (flat_map f xs) m ≡ Some y → Given f xs m y) → (f x ≡ []) ⊎ ((z : B) × (f x ≡ z ∷ [])) → Given f (x ∷ xs) n y
    by rec (inl none) = (let r = rec n (subst (λ (l : List B). slice_get (l ++ flat_map f xs) n ≡ Some y) none h) in
        on n n r (ap (λ (l : List B). length (l ++ flat_map f (take r.index xs))) none ∙ r.before))
    by rec (inr (z, is)) = first rec z is n (subst (λ (l : List B). slice_get (l ++ flat_map f xs) n ≡ Some y) is h)

-- Where a list splits twice at an element that gives one, with as many given before, it splits at one place.
pub same-split : {A B : Type 0} (f : A → List B) (b c : List A) (x y : A) (l m : List A) (z w : B) → f x ≡ z ∷ [] → f y ≡ w ∷ [] → b ++ x ∷ l ≡ c ++ y ∷ m
    → length (flat_map f b) ≡ length (flat_map f c) → b ≡ c
same-split f [] [] x y l m z w gx gy e h = refl
same-split {A} {B} f [] (a ∷ c) x y l m z w gx gy e h =
    let same : x ≡ a = cc in
    absurd (never (length (flat_map f c)) (h ∙ ap (λ (k : List B). length (k ++ flat_map f c)) (sym (ap f same) ∙ gx)))
same-split {A} {B} f (a ∷ b) [] x y l m z w gx gy e h =
    let same : a ≡ y = cc in
    absurd (never (length (flat_map f b)) (sym h ∙ ap (λ (k : List B). length (k ++ flat_map f b)) (ap f same ∙ gy)))
same-split {A} {B} f (a ∷ b) (d ∷ c) x y l m z w gx gy e h =
    let first : a ≡ d = cc in
    let rest : b ++ x ∷ l ≡ c ++ y ∷ m = cc in
    let left = length-append (f a) (flat_map f b) in
    let right = length-append (f d) (flat_map f c) in
    let all : length (f a ++ flat_map f b) ≡ length (f d ++ flat_map f c) = h in
    let here : length (f a) ≡ length (f d) = ap (λ (k : A). length (f k)) first in
    let less : length (flat_map f b) ≡ length (flat_map f c) = omega arith in
    ap (λ (k : A). k ∷ b) first ∙ ap (λ (k : List A). d ∷ k) (same-split f b c x y l m z w gx gy rest less)

-- One that passes stands, among those that do, behind as many as pass before it.
pub kept-here : {A : Type 0} (p : A → Bool) (xs : List A) (i : ℕ) (x : A) → slice_get xs i ≡ Some x → p x ≡ true → slice_get (filter p xs) (length (filter p (take i xs))) ≡ Some x
kept-here p [] i x h is = cc
kept-here {A} p (y ∷ ys) zero x h is =
    let here : p y ≡ true = ap p (same_Some y x h) ∙ is in
    ap (λ (b : Bool). slice_get (cond b (y ∷ filter p ys) (filter p ys)) 0) here ∙ h
kept-here {A} p (y ∷ ys) (suc i) x h is = by (p y) (kept-here p ys i x h is)
  where
    I : List A
    I = filter p (take i ys)

    by : (b : Bool) → slice_get (filter p ys) (length I) ≡ Some x → slice_get (cond b (y ∷ filter p ys) (filter p ys)) (length (cond b (y ∷ I) I)) ≡ Some x
    by true g = g
    by false g = g
