-- A list one element of which is changed: the other elements, and what all of them have in common.
-- It serves bsc_network_laws and bsc_world.
use Rattle.std.proofs.Common.{◌≡◌, ◌≢◌, ◌⊎◌, inl, inr, ℕ, set, zero, suc, Bool, true, false, List, [], ◌∷◌, ◌++◌, Option, Some, None, refl, ap, sym, subst}
use Rattle.std.specs.Prelude.{length, slice_get, find, cond, reverse}
use Rattle.std.proofs.lemmas.List.{reverse-append}
use Rattle.std.specs.Option.{option_map}
use Rattle.std.specs.List.{AllByRecursion}
use Rattle.bsc_network.specs.Changes.{changed_at}
use Rattle.bsc_lemmas.proofs.Lists.{all_append as all-joined}
use Rattle.bsc_lemmas.proofs.Numbers.{same_suc}
use Rattle.std.proofs.lemmas.Option.{same_Some as some_same}

-- What a change keeps of each element, it keeps of the list.
pub kept-at : {A B : Type 0} (g : A → B) (i : ℕ) (f : A → A) → ((x : A) → g (f x) ≡ g x) → (xs : List A) (j : ℕ) → option_map g (slice_get (changed_at i f xs) j) ≡ option_map g (slice_get xs j)
kept-at g i f keeps [] j = refl
kept-at g zero f keeps (x ∷ xs) zero = ap Some (keeps x)
kept-at g zero f keeps (x ∷ xs) (suc j) = refl
kept-at g (suc i) f keeps (x ∷ xs) zero = refl
kept-at g (suc i) f keeps (x ∷ xs) (suc j) = kept-at g i f keeps xs j

pub get-changed : {A : Type 0} (i : ℕ) (f : A → A) (xs : List A) → slice_get (changed_at i f xs) i ≡ option_map f (slice_get xs i)
get-changed i f [] = refl
get-changed zero f (x ∷ xs) = refl
get-changed (suc i) f (x ∷ xs) = get-changed i f xs

pub get-other : {A : Type 0} (i : ℕ) (f : A → A) (xs : List A) (j : ℕ) → i ≢ j → slice_get (changed_at i f xs) j ≡ slice_get xs j
get-other i f [] j apart = refl
get-other zero f (x ∷ xs) zero apart = absurd (apart refl)
get-other zero f (x ∷ xs) (suc j) apart = refl
get-other (suc i) f (x ∷ xs) zero apart = refl
get-other (suc i) f (x ∷ xs) (suc j) apart = get-other i f xs j (λ same. apart (ap suc same))

pub length-changed : {A : Type 0} (i : ℕ) (f : A → A) (xs : List A) → length (changed_at i f xs) ≡ length xs
length-changed i f [] = refl
length-changed zero f (x ∷ xs) = refl
length-changed (suc i) f (x ∷ xs) = ap suc (length-changed i f xs)

-- What held of each element holds of each after the change, where it does of the one that is changed.
pub all-changed : {A : Type 0} (P : A → Type 0) (i : ℕ) (f : A → A) → ((x : A) → P x → P (f x)) → (xs : List A) → AllByRecursion P xs → AllByRecursion P (changed_at i f xs)
all-changed P i f keeps [] all = tt
all-changed P zero f keeps (x ∷ xs) all = (keeps x all.0, all.1)
all-changed P (suc i) f keeps (x ∷ xs) all = (all.0, all-changed P i f keeps xs all.1)

-- The same, where the change is known to be of an element of the list.
pub all-changed_here : {A : Type 0} (P : A → Type 0) (i : ℕ) (f : A → A) (xs : List A) → ((x : A) → slice_get xs i ≡ Some x → P x → P (f x)) → AllByRecursion P xs
    → AllByRecursion P (changed_at i f xs)
all-changed_here P i f [] keeps all = tt
all-changed_here P zero f (x ∷ xs) keeps all = (keeps x refl all.0, all.1)
all-changed_here P (suc i) f (x ∷ xs) keeps all = (all.0, all-changed_here P i f xs keeps all.1)

pub all-mapped : {A : Type 0} (P Q : A → Type 0) → ((x : A) → P x → Q x) → (xs : List A) → AllByRecursion P xs → AllByRecursion Q xs
all-mapped P Q f [] all = tt
all-mapped P Q f (x ∷ xs) all = (f x all.0, all-mapped P Q f xs all.1)

-- An element after the change is one from before, or the one that was changed.
pub got-changed : {A : Type 0} (i : ℕ) (f : A → A) (xs : List A) (j : ℕ) (y : A) → slice_get (changed_at i f xs) j ≡ Some y
    → (slice_get xs j ≡ Some y) ⊎ ((x : A) × (i ≡ j) × (slice_get xs j ≡ Some x) × (y ≡ f x))
got-changed i f [] j y h = inl h
got-changed zero f (x ∷ xs) zero y h = inr (x, refl, refl, some_same y (f x) (sym h))
got-changed zero f (x ∷ xs) (suc j) y h = inl h
got-changed (suc i) f (x ∷ xs) zero y h = inl h
got-changed (suc i) f (x ∷ xs) (suc j) y h = next (got-changed i f xs j y h)
  where
    next : (slice_get xs j ≡ Some y) ⊎ ((z : _) × (i ≡ j) × (slice_get xs j ≡ Some z) × (y ≡ f z)) → (slice_get xs j ≡ Some y) ⊎ ((z : _) × (suc i ≡ suc j) × (slice_get xs j ≡ Some z) × (y ≡ f z))
    next (inl g) = inl g
    next (inr (z, same, at, is)) = inr (z, ap suc same, at, is)

-- an element stays where it is when others come behind it
pub got-last : {A : Type 0} (xs : List A) (x : A) → slice_get (xs ++ x ∷ []) (length xs) ≡ Some x
got-last [] x = refl
got-last (y ∷ xs) x = got-last xs x

found_by : {A : Type 0} (P : A → Type 0) (b : Bool) (y : A) (o : Option A) (x : A) → P y → (o ≡ Some x → P x) → cond b (Some y) o ≡ Some x → P x
found_by P true y o x here later h = subst P (some_same y x h) here
found_by P false y o x here later h = later h

-- what is found among elements of which all are so is so
pub all-found : {A : Type 0} (P : A → Type 0) (test : A → Bool) (xs : List A) (x : A) → AllByRecursion P xs → find test xs ≡ Some x → P x
all-found P test [] x all h = cc
all-found P test (y ∷ xs) x all h = found_by P (test y) y (find test xs) x all.0 (λ g. all-found P test xs x all.1 g) h

pub all-reversed : {A : Type 0} (P : A → Type 0) (xs : List A) → AllByRecursion P xs → AllByRecursion P (reverse xs)
all-reversed P [] all = tt
all-reversed P (x ∷ xs) all = subst (AllByRecursion P) (sym (reverse-append (x ∷ []) xs)) (all-joined P (reverse xs) (x ∷ []) (all-reversed P xs all.1) (all.0, tt))

-- of an option, what is found in it
pub found-in : {A B : Type 0} (g : A → B) (o : Option A) (y : B) → option_map g o ≡ Some y → (x : A) × (o ≡ Some x) × (g x ≡ y)
found-in g None y h = cc
found-in g (Some x) y h = (x, refl, some_same (g x) y h)

-- two changes of one element are one
pub changed-twice : {A : Type 0} (i : ℕ) (f g : A → A) (xs : List A) → changed_at i g (changed_at i f xs) ≡ changed_at i (λ x. g (f x)) xs
changed-twice i f g [] = refl
changed-twice zero f g (x ∷ xs) = refl
changed-twice (suc i) f g (x ∷ xs) = ap (λ ys. x ∷ ys) (changed-twice i f g xs)

-- two numbers are one or two
pub one_or_two : (m n : ℕ) → (m ≡ n) ⊎ (m ≢ n)
one_or_two zero zero = inl refl
one_or_two zero (suc n) = inr (λ e. cc)
one_or_two (suc m) zero = inr (λ e. cc)
one_or_two (suc m) (suc n) = elim (one_or_two m n) [ inl e ↦ inl (ap suc e) | inr other ↦ inr (λ e. other (same_suc m n e)) ]

pub get-set_other : {A : Type 0} (xs : List A) (i j : ℕ) (y : A) → i ≢ j → slice_get (set xs i y) j ≡ slice_get xs j
get-set_other [] i j y apart = refl
get-set_other (x ∷ xs) zero zero y apart = absurd (apart refl)
get-set_other (x ∷ xs) zero (suc j) y apart = refl
get-set_other (x ∷ xs) (suc i) zero y apart = refl
get-set_other (x ∷ xs) (suc i) (suc j) y apart = get-set_other xs i j y (λ same. apart (ap suc same))

-- a list that is as long has an element where the other has one
pub got-beside : {A B : Type 0} (xs : List A) (ys : List B) (i : ℕ) (x : A) → length ys ≡ length xs → slice_get xs i ≡ Some x → (y : B) × (slice_get ys i ≡ Some y)
got-beside [] ys i x e h = cc
got-beside (z ∷ xs) [] i x e h = cc
got-beside (z ∷ xs) (y ∷ ys) zero x e h = (y, refl)
got-beside (z ∷ xs) (y ∷ ys) (suc i) x e h = got-beside xs ys i x (less e) h
  where
    less : suc (length ys) ≡ suc (length xs) → length ys ≡ length xs
    less e = cc

pub got-last_of : {A : Type 0} (xs : List A) (x : A) (i : ℕ) (y : A) → slice_get (xs ++ x ∷ []) i ≡ Some y → (slice_get xs i ≡ Some y) ⊎ ((i ≡ length xs) × (y ≡ x))
got-last_of [] x zero y h = inr (refl, some_same y x (sym h))
got-last_of [] x (suc i) y h = cc
got-last_of (z ∷ xs) x zero y h = inl h
got-last_of (z ∷ xs) x (suc i) y h = elim (got-last_of xs x i y h) [ inl g ↦ inl g | inr p ↦ inr (ap suc p.0, p.1) ]
