-- Members of lists, and elements that are apart.
-- It serves clauses of functions of `laws`.
use Rattle.std.proofs.Common.{◌≡◌, ◌≢◌, ◌⊎◌, inl, inr, Bool, true, false, cond, List, [], ◌∷◌, ◌++◌, filter, find, Option, Some, None, MatchOption, option_to_list, refl, ap, sym, ◌∙◌, subst}
use Rattle.std.specs.List.{list_any, AllByRecursion}
use Rattle.std.proofs.lemmas.Bool.{false_from_ne_true, or_cases, or_left, or_right}
use Rattle.bsc_history.specs.Laws.{Apart}

abbrev pub In : {A : Type 0} → A → List A → Type 0
In x [] = ⊥
In x (y ∷ ys) = (y ≡ x) ⊎ In x ys

pub In-append : {A : Type 0} (x : A) (xs ys : List A) → In x (xs ++ ys) → In x xs ⊎ In x ys
In-append x [] ys h = inr h
In-append x (y ∷ xs) ys (inl e) = inl (inl e)
In-append x (y ∷ xs) ys (inr h) = elim (In-append x xs ys h) [ inl m ↦ inl (inr m) | inr m ↦ inr m ]

-- who is in one of two lists is in both together
pub In-left : {A : Type 0} (x : A) (xs ys : List A) → In x xs → In x (xs ++ ys)
In-left x [] ys h = absurd h
In-left x (y ∷ xs) ys (inl e) = inl e
In-left x (y ∷ xs) ys (inr h) = inr (In-left x xs ys h)

pub In-right : {A : Type 0} (x : A) (xs ys : List A) → In x ys → In x (xs ++ ys)
In-right x [] ys h = h
In-right x (y ∷ xs) ys h = inr (In-right x xs ys h)

pub In-option : {A : Type 0} (x : A) (o : Option A) → In x (option_to_list o) → o ≡ Some x
In-option x None h = absurd h
In-option x (Some y) (inl e) = ap Some e
In-option x (Some y) (inr h) = absurd h

pub In-filter : {A : Type 0} (p : A → Bool) (x : A) (xs : List A) → In x (filter p xs) → In x xs × (p x ≡ true)
In-filter {A} p x [] h = absurd h
In-filter {A} p x (y ∷ ys) h =
    let by : (b : Bool) → p y ≡ b → In x (cond b (y ∷ filter p ys) (filter p ys)) → In x (y ∷ ys)
    × (p x ≡ true) = λ b. elim b as (λ b. p y ≡ b → In x (cond b (y ∷ filter p ys) (filter p ys)) → In x (y ∷ ys) × (p x ≡ true)) [
      | true ↦ λ e m. elim m [ inl same ↦ (inl same, subst (λ z. p z ≡ true) same e) | inr n ↦ (let r = In-filter p x ys n in (inr r.0, r.1)) ]
      | false ↦ λ e m. (let r = In-filter p x ys m in (inr r.0, r.1))
    ] in
    by (p y) refl h

-- what a search says, found or not
pub find_says : {A : Type 0} (p : A → Bool) (xs : List A) → MatchOption (find p xs) ((x : A) → In x xs → p x ≡ false) (λ x. In x xs × (p x ≡ true))
find_says p [] = λ x h. absurd h
find_says {A} p (y ∷ ys) =
    let none = (x : A) → In x (y ∷ ys) → p x ≡ false in
    let some = λ (x : A). In x (y ∷ ys) × (p x ≡ true) in
    let on : p y ≡ false → (o : Option A) → MatchOption o ((x : A) → In x ys → p x ≡ false) (λ x. In x ys × (p x ≡ true))
    → MatchOption o none some = λ e o. elim o as (λ o. MatchOption o ((x : A) → In x ys → p x ≡ false) (λ x. In x ys × (p x ≡ true)) → MatchOption o none some) [
      | None ↦ λ f x m. elim m [ inl same ↦ subst (λ z. p z ≡ false) same e | inr n ↦ f x n ]
      | Some z ↦ λ r. (inr r.0, r.1)
    ] in
    let by : (b : Bool) → p y ≡ b → MatchOption (cond b (Some y) (find p ys)) none some = λ b. elim b as (λ b. p y ≡ b → MatchOption (cond b (Some y) (find p ys)) none some) [
      | true ↦ λ e. (inl refl, e)
      | false ↦ λ e. on e (find p ys) (find_says p ys)
    ] in
    by (p y) refl

pub all_from_In : {A : Type 0} (P : A → Type 0) (xs : List A) → ((x : A) → In x xs → P x) → AllByRecursion P xs
all_from_In P [] f = tt
all_from_In P (x ∷ xs) f = (f x (inl refl), all_from_In P xs (λ y h. f y (inr h)))

pub In_from_all : {A : Type 0} (P : A → Type 0) (x : A) (xs : List A) → AllByRecursion P xs → In x xs → P x
In_from_all P x [] f h = absurd h
In_from_all P x (y ∷ ys) f (inl e) = subst P e f.0
In_from_all P x (y ∷ ys) f (inr h) = In_from_all P x ys f.1 h

pub any_gives : {A : Type 0} (t : A → Bool) (xs : List A) → list_any t xs ≡ true → (x : A) × In x xs × (t x ≡ true)
any_gives t [] h = cc
any_gives t (x ∷ xs) h = elim (or_cases (t x) (list_any t xs) h) [ inl here ↦ (x, inl refl, here) | inr later ↦ (let r = any_gives t xs later in (r.0, inr r.1, r.2)) ]

pub any_In : {A : Type 0} (t : A → Bool) (x : A) (xs : List A) → In x xs → t x ≡ true → list_any t xs ≡ true
any_In t x [] m h = absurd m
any_In t x (y ∷ ys) (inl e) h = or_left (t y) (list_any t ys) (subst (λ z. t z ≡ true) (sym e) h)
any_In t x (y ∷ ys) (inr m) h = or_right (t y) (list_any t ys) (any_In t x ys m h)

pub In_kept : {A : Type 0} (q : A → Bool) (x : A) (xs : List A) → In x xs → q x ≡ true → In x (filter q xs)
In_kept q x [] m h = absurd m
In_kept q x (y ∷ ys) (inl e) h = (let k : q y ≡ true = subst (λ z. q z ≡ true) (sym e) h in subst (λ b. In x (cond b (y ∷ filter q ys) (filter q ys))) (sym k) (inl e))
In_kept q x (y ∷ ys) (inr m) h =
    let rest = In_kept q x ys m h in
    elim (q y) as (λ b. In x (cond b (y ∷ filter q ys) (filter q ys))) [ true ↦ inr rest | false ↦ rest ]

pub none_passes : {A : Type 0} (p : A → Bool) (xs : List A) → ((x : A) → In x xs → p x ≡ false) → list_any p xs ≡ false
none_passes p [] f = refl
none_passes p (x ∷ xs) f = rw (f x (inl refl)) (none_passes p xs (λ y h. f y (inr h)))

pub Apart-filter : {A B : Type 0} (f : A → B) (q : A → Bool) (xs : List A) → Apart f xs → Apart f (filter q xs)
Apart-filter f q [] h = tt
Apart-filter f q (x ∷ xs) h =
    let rest = Apart-filter f q xs h.1 in
    elim (q x) as (λ b. Apart f (cond b (x ∷ filter q xs) (filter q xs))) [
      | true ↦ (all_from_In (λ y. f x ≢ f y) (filter q xs) (λ y m. In_from_all (λ z. f x ≢ f z) y xs h.0 (In-filter q y xs m).0), rest)
      | false ↦ rest
    ]

pub Apart-push : {A B : Type 0} (f : A → B) (xs : List A) (o : Option A) → Apart f xs → ((x y : A) → In x xs → o ≡ Some y → f x ≢ f y) → Apart f (xs ++ option_to_list o)
Apart-push f [] None h new = tt
Apart-push f [] (Some y) h new = (tt, tt)
Apart-push f (x ∷ xs) o h new = (
  all_from_In (λ z. f x ≢ f z) (xs ++ option_to_list o) (λ z m. elim (In-append z xs (option_to_list o) m) [
    | inl n ↦ In_from_all (λ w. f x ≢ f w) z xs h.0 n
    | inr n ↦ new x z (inl refl)
        (In-option z o n)
  ]),
  Apart-push f xs o h.1 (λ z y m e. new z y (inr m) e),
)

-- of elements that are apart, two that agree are one
pub same_one : {A B : Type 0} (f : A → B) (x y : A) (xs : List A) → Apart f xs → In x xs → In y xs → f x ≡ f y → x ≡ y
same_one f x y [] h m n e = absurd m
same_one f x y (z ∷ zs) h (inl p) (inl q) e = sym p ∙ q
same_one f x y (z ∷ zs) h (inl p) (inr n) e = absurd (In_from_all (λ w. f z ≢ f w) y zs h.0 n (ap f p ∙ e))
same_one f x y (z ∷ zs) h (inr m) (inl q) e = absurd (In_from_all (λ w. f z ≢ f w) x zs h.0 m (ap f q ∙ sym e))
same_one f x y (z ∷ zs) h (inr m) (inr n) e = same_one f x y zs h.1 m n e

pub none_found : {A : Type 0} (p : A → Bool) (xs : List A) → ((x : A) → In x xs → p x ≡ false) → find p xs ≡ None
none_found p [] f = refl
none_found p (x ∷ xs) f = rw (f x (inl refl)) (none_found p xs (λ y h. f y (inr h)))

pub none_filtered : {A : Type 0} (p : A → Bool) (xs : List A) → ((x : A) → In x xs → p x ≡ false) → filter p xs ≡ []
none_filtered p [] f = refl
none_filtered p (x ∷ xs) f = rw (f x (inl refl)) (none_filtered p xs (λ y h. f y (inr h)))

-- of elements that are apart, those that pass are the one found
pub filter-find : {A B : Type 0} (f : A → B) (p : A → Bool) (xs : List A) → Apart f xs → ((x y : A) → p x ≡ true → p y ≡ true → f x ≡ f y) → filter p xs ≡ option_to_list (find p xs)
filter-find f p [] h agree = refl
filter-find {A} f p (x ∷ xs) h agree =
    let by : (b : Bool) → p x ≡ b → cond b (x ∷ filter p xs) (filter p xs) ≡ option_to_list (cond b (Some x) (find p xs)) =
    λ b. elim b as (λ b. p x ≡ b → cond b (x ∷ filter p xs) (filter p xs) ≡ option_to_list (cond b (Some x) (find p xs))) [
      | true ↦ λ e. ap (λ (l : List A). x ∷ l) (none_filtered p xs (λ y m. false_from_ne_true (p y) (λ g. In_from_all (λ w. f x ≢ f w) y xs h.0 m (agree x y e g))))
      | false ↦ λ e. filter-find f p xs h.1 agree
    ] in
    by (p x) refl
