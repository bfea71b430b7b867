-- Lists whose elements belong together, one by one, and lists with one element put in place of another, or taken out.
-- It serves clauses of functions of `emptying` and `script_hub`.
use Rattle.std.proofs.Common.{◌≡◌, ◌≢◌, inl, inr, ℕ, zero, suc, ◌+◌, nat_lt, Bool, true, false, not, cond, List, [], ◌∷◌, ◌++◌, length, map, set, take, drop, remove, find}
use Rattle.std.proofs.Common.{position, slice_get, Option, Some, None, option_map, refl, ap, sym, ◌∙◌, subst, arith}
use Rattle.std.specs.List.{AllByRecursion, prefix_len, position_or_len}
use Rattle.bsc_history.specs.Laws.{Apart}
use Rattle.bsc_history.proofs.Lists.{In, In_from_all}
use Rattle.bsc_script.specs.declared.peer.Peer.{Peer as KeptPeer}
use Rattle.bsc_script.specs.States.{Peer}
use Rattle.bsc_script.specs.Holding.{ConnsApart, Pairs}
use Rattle.bsc_lemmas.proofs.Lists.{all_append as all-push, position-cons}
use Rattle.std.proofs.lemmas.Option.{same_Some as same_some}

-- ---- pairs

pub pair_at : {A B : Type 0} (R : A → B → Type 0) (xs : List A) (ys : List B) (i : ℕ) (x : A) (y : B) → Pairs R xs ys → slice_get xs i ≡ Some x → slice_get ys i ≡ Some y → R x y
pair_at R [] ys i x y p h g = cc
pair_at R (a ∷ xs) [] i x y p h g = absurd p
pair_at R (a ∷ xs) (b ∷ ys) zero x y p h g = subst (λ v. R x v) (same_some b y g) (subst (λ u. R u b) (same_some a x h) p.0)
pair_at R (a ∷ xs) (b ∷ ys) (suc i) x y p h g = pair_at R xs ys i x y p.1 h g

-- each has its partner
pub partner_of : {A B : Type 0} (R : A → B → Type 0) (xs : List A) (ys : List B) (i : ℕ) (x : A) → Pairs R xs ys → slice_get xs i ≡ Some x → (y : B) × (slice_get ys i ≡ Some y) × R x y
partner_of R [] ys i x p h = cc
partner_of R (a ∷ xs) [] i x p h = absurd p
partner_of R (a ∷ xs) (b ∷ ys) zero x p h = (b, refl, subst (λ u. R u b) (same_some a x h) p.0)
partner_of R (a ∷ xs) (b ∷ ys) (suc i) x p h = partner_of R xs ys i x p.1 h

pub partner_to : {A B : Type 0} (R : A → B → Type 0) (xs : List A) (ys : List B) (i : ℕ) (y : B) → Pairs R xs ys → slice_get ys i ≡ Some y → (x : A) × (slice_get xs i ≡ Some x) × R x y
partner_to R xs [] i y p h = cc
partner_to R [] (b ∷ ys) i y p h = absurd p
partner_to R (a ∷ xs) (b ∷ ys) zero y p h = (a, refl, subst (λ v. R a v) (same_some b y h) p.0)
partner_to R (a ∷ xs) (b ∷ ys) (suc i) y p h = partner_to R xs ys i y p.1 h

pub Pairs-length : {A B : Type 0} (R : A → B → Type 0) (xs : List A) (ys : List B) → Pairs R xs ys → length xs ≡ length ys
Pairs-length R [] [] p = refl
Pairs-length R [] (b ∷ ys) p = absurd p
Pairs-length R (a ∷ xs) [] p = absurd p
Pairs-length R (a ∷ xs) (b ∷ ys) p = ap suc (Pairs-length R xs ys p.1)

pub Pairs-weaker : {A B : Type 0} (R Q : A → B → Type 0) (xs : List A) (ys : List B) → ((x : A) (y : B) → In x xs → R x y → Q x y) → Pairs R xs ys → Pairs Q xs ys
Pairs-weaker R Q [] [] f p = tt
Pairs-weaker R Q [] (b ∷ ys) f p = absurd p
Pairs-weaker R Q (a ∷ xs) [] f p = absurd p
Pairs-weaker R Q (a ∷ xs) (b ∷ ys) f p = (f a b (inl refl) p.0, Pairs-weaker R Q xs ys (λ x y m. f x y (inr m)) p.1)

-- what holds of each that has a partner
pub Pairs-all : {A B : Type 0} (R : A → B → Type 0) (P : A → Type 0) (xs : List A) (ys : List B) → ((x : A) (y : B) → R x y → P x) → Pairs R xs ys → AllByRecursion P xs
Pairs-all R P [] [] f p = tt
Pairs-all R P [] (b ∷ ys) f p = absurd p
Pairs-all R P (a ∷ xs) [] f p = absurd p
Pairs-all R P (a ∷ xs) (b ∷ ys) f p = (f a b p.0, Pairs-all R P xs ys f p.1)

pub Pairs-set : {A B : Type 0} (R : A → B → Type 0) (xs : List A) (ys : List B) (i : ℕ) (x : A) (y : B) → Pairs R xs ys → R x y → Pairs R (set xs i x) (set ys i y)
Pairs-set R [] [] i x y p h = tt
Pairs-set R [] (b ∷ ys) i x y p h = absurd p
Pairs-set R (a ∷ xs) [] i x y p h = absurd p
Pairs-set R (a ∷ xs) (b ∷ ys) zero x y p h = (h, p.1)
Pairs-set R (a ∷ xs) (b ∷ ys) (suc i) x y p h = (p.0, Pairs-set R xs ys i x y p.1 h)

pub Pairs-remove : {A B : Type 0} (R : A → B → Type 0) (xs : List A) (ys : List B) (i : ℕ) → Pairs R xs ys → Pairs R (remove xs i) (remove ys i)
Pairs-remove R [] [] zero p = tt
Pairs-remove R [] [] (suc i) p = tt
Pairs-remove R [] (b ∷ ys) i p = absurd p
Pairs-remove R (a ∷ xs) [] i p = absurd p
Pairs-remove R (a ∷ xs) (b ∷ ys) zero p = p.1
Pairs-remove R (a ∷ xs) (b ∷ ys) (suc i) p = (p.0, Pairs-remove R xs ys i p.1)

pub Pairs-push : {A B : Type 0} (R : A → B → Type 0) (xs : List A) (ys : List B) (x : A) (y : B) → Pairs R xs ys → R x y → Pairs R (xs ++ x ∷ []) (ys ++ y ∷ [])
Pairs-push R [] [] x y p h = (h, tt)
Pairs-push R [] (b ∷ ys) x y p h = absurd p
Pairs-push R (a ∷ xs) [] x y p h = absurd p
Pairs-push R (a ∷ xs) (b ∷ ys) x y p h = (p.0, Pairs-push R xs ys x y p.1 h)

-- what belongs together has the same image
pub Pairs-map : {A B C : Type 0} (R : A → B → Type 0) (f : A → C) (g : B → C) (xs : List A) (ys : List B) → ((x : A) (y : B) → R x y → f x ≡ g y) → Pairs R xs ys → map f xs ≡ map g ys
Pairs-map R f g [] [] same p = refl
Pairs-map R f g [] (b ∷ ys) same p = absurd p
Pairs-map R f g (a ∷ xs) [] same p = absurd p
Pairs-map {C = C} R f g (a ∷ xs) (b ∷ ys) same p = ap (λ (l : List C). f a ∷ l) (Pairs-map R f g xs ys same p.1) ∙ ap (λ (c : C). c ∷ map g ys) (same a b p.0)

-- ---- one element

pub take-set : {A : Type 0} (xs : List A) (i : ℕ) (y : A) → take i (set xs i y) ≡ take i xs
take-set [] i y = refl
take-set (a ∷ xs) zero y = refl
take-set {A} (a ∷ xs) (suc i) y = ap (λ (l : List A). a ∷ l) (take-set xs i y)

pub drop-set : {A : Type 0} (xs : List A) (i : ℕ) (y : A) → drop (suc i) (set xs i y) ≡ drop (suc i) xs
drop-set [] i y = refl
drop-set (a ∷ xs) zero y = refl
drop-set (a ∷ xs) (suc i) y = drop-set xs i y

pub set-twice : {A : Type 0} (xs : List A) (i : ℕ) (x y : A) → set (set xs i x) i y ≡ set xs i y
set-twice [] i x y = refl
set-twice (a ∷ xs) zero x y = refl
set-twice {A} (a ∷ xs) (suc i) x y = ap (λ (l : List A). a ∷ l) (set-twice xs i x y)

pub map-set : {A B : Type 0} (f : A → B) (xs : List A) (i : ℕ) (x y : A) → slice_get xs i ≡ Some x → f y ≡ f x → map f (set xs i y) ≡ map f xs
map-set f [] i x y h e = refl
map-set {B = B} f (a ∷ xs) zero x y h e = ap (λ (b : B). b ∷ map f xs) (e ∙ ap f (sym (same_some a x h)))
map-set {B = B} f (a ∷ xs) (suc i) x y h e = ap (λ (l : List B). f a ∷ l) (map-set f xs i x y h e)

pub get-map : {A B : Type 0} (f : A → B) (xs : List A) (i : ℕ) (x : A) → slice_get xs i ≡ Some x → slice_get (map f xs) i ≡ Some (f x)
get-map f [] i x h = cc
get-map f (a ∷ xs) zero x h = ap (λ y. Some (f y)) (same_some a x h)
get-map f (a ∷ xs) (suc i) x h = get-map f xs i x h

pub map-remove : {A B : Type 0} (f : A → B) (xs : List A) (i : ℕ) → map f (remove xs i) ≡ remove (map f xs) i
map-remove f [] zero = refl
map-remove f [] (suc i) = refl
map-remove f (a ∷ xs) zero = refl
map-remove {B = B} f (a ∷ xs) (suc i) = ap (λ (l : List B). f a ∷ l) (map-remove f xs i)

pub map-push : {A B : Type 0} (f : A → B) (xs : List A) (y : A) → map f (xs ++ y ∷ []) ≡ map f xs ++ f y ∷ []
map-push f [] y = refl
map-push {B = B} f (a ∷ xs) y = ap (λ (l : List B). f a ∷ l) (map-push f xs y)

pub In-at : {A : Type 0} (xs : List A) (i : ℕ) (x : A) → slice_get xs i ≡ Some x → In x xs
In-at [] i x h = cc
In-at (a ∷ xs) zero x h = inl (same_some a x h)
In-at (a ∷ xs) (suc i) x h = inr (In-at xs i x h)

-- ---- what holds of each

pub all-take : {A : Type 0} (P : A → Type 0) (xs : List A) (i : ℕ) → AllByRecursion P xs → AllByRecursion P (take i xs)
all-take P xs zero h = tt
all-take P [] (suc i) h = tt
all-take P (x ∷ xs) (suc i) h = (h.0, all-take P xs i h.1)

pub all-drop : {A : Type 0} (P : A → Type 0) (xs : List A) (i : ℕ) → AllByRecursion P xs → AllByRecursion P (drop i xs)
all-drop P xs zero h = h
all-drop P [] (suc i) h = tt
all-drop P (x ∷ xs) (suc i) h = all-drop P xs i h.1

pub all-join : {A : Type 0} (P : A → Type 0) (xs : List A) (i : ℕ) (x : A) → slice_get xs i ≡ Some x → AllByRecursion P (take i xs) → AllByRecursion P (drop (suc i) xs) → P x → AllByRecursion P xs
all-join P [] i x e b d h = tt
all-join P (a ∷ xs) zero x e b d h = (subst P (sym (same_some a x e)) h, d)
all-join P (a ∷ xs) (suc i) x e b d h = (b.0, all-join P xs i x e b.1 d h)

pub all-remove : {A : Type 0} (P : A → Type 0) (xs : List A) (i : ℕ) → AllByRecursion P (take i xs) → AllByRecursion P (drop (suc i) xs) → AllByRecursion P (remove xs i)
all-remove P xs i b d = all-push P (take i xs) (drop (suc i) xs) b d

-- ---- elements that are apart

pub Apart-same : {A C B : Type 0} (f : A → B) (g : C → B) (xs : List A) (ys : List C) → map f xs ≡ map g ys → Apart f xs → Apart g ys
Apart-same f g xs [] e h = tt
Apart-same f g [] (y ∷ ys) e h = cc
Apart-same {A} {C} {B} f g (x ∷ xs) (y ∷ ys) e h =
    let here : f x ≡ g y = cc in
    let rest : map f xs ≡ map g ys = cc in
    (unlike (f x) (g y) xs ys here rest h.0, Apart-same f g xs ys rest h.1)
  where
    unlike : (a b : B) (us : List A) (vs : List C) → a ≡ b → map f us ≡ map g vs → AllByRecursion (λ u. a ≢ f u) us → AllByRecursion (λ v. b ≢ g v) vs
    unlike a b us [] s r k = tt
    unlike a b [] (v ∷ vs) s r k = cc
    unlike a b (u ∷ us) (v ∷ vs) s r k =
        let here : f u ≡ g v = cc in
        let rest : map f us ≡ map g vs = cc in
        ((λ q. k.0 (s ∙ q ∙ sym here)), unlike a b us vs s rest k.1)

-- ---- positions

prefix-same : {A B : Type 0} (p : A → Bool) (q : B → Bool) (xs : List A) (ys : List B) → map p xs ≡ map q ys → prefix_len p xs ≡ prefix_len q ys
prefix-same p q [] [] e = refl
prefix-same p q [] (y ∷ ys) e = cc
prefix-same p q (x ∷ xs) [] e = cc
prefix-same p q (x ∷ xs) (y ∷ ys) e =
    let here : p x ≡ q y = cc in
    let rest : map p xs ≡ map q ys = cc in
    ap (λ (b : Bool). cond b (1 + prefix_len p xs) 0) here ∙ ap (λ (n : ℕ). cond (q y) (1 + n) 0) (prefix-same p q xs ys rest)

negated : {A B : Type 0} (p : A → Bool) (q : B → Bool) (xs : List A) (ys : List B) → map p xs ≡ map q ys → map (λ x. not (p x)) xs ≡ map (λ y. not (q y)) ys
negated p q [] [] e = refl
negated p q [] (y ∷ ys) e = cc
negated p q (x ∷ xs) [] e = cc
negated p q (x ∷ xs) (y ∷ ys) e =
    let here : p x ≡ q y = cc in
    let rest : map p xs ≡ map q ys = cc in
    ap (λ (b : Bool). not b ∷ map (λ x. not (p x)) xs) here ∙ ap (λ (l : List Bool). not (q y) ∷ l) (negated p q xs ys rest)

pub same_length : {A B C : Type 0} (p : A → C) (q : B → C) (xs : List A) (ys : List B) → map p xs ≡ map q ys → length xs ≡ length ys
same_length p q [] [] e = refl
same_length p q [] (y ∷ ys) e = cc
same_length p q (x ∷ xs) [] e = cc
same_length p q (x ∷ xs) (y ∷ ys) e = let rest : map p xs ≡ map q ys = cc in ap suc (same_length p q xs ys rest)

-- what the tests say of two lists alike, they find at the same place
pub position-same : {A B : Type 0} (p : A → Bool) (q : B → Bool) (xs : List A) (ys : List B) → map p xs ≡ map q ys → position p xs ≡ position q ys
position-same p q xs ys e =
    let at : position_or_len p xs ≡ position_or_len q ys = prefix-same (λ x. not (p x)) (λ y. not (q y)) xs ys (negated p q xs ys e) in
    ap (λ (n : ℕ). cond (nat_lt (position_or_len p xs) n) (Some (position_or_len p xs)) None) (same_length p q xs ys e)
    ∙ ap (λ (n : ℕ). cond (nat_lt n (length ys)) (Some n) None) at

-- what stands at the place that is found is what a search finds
pub position-gives : {A : Type 0} (p : A → Bool) (xs : List A) (i : ℕ) → position p xs ≡ Some i → (x : A) × (slice_get xs i ≡ Some x) × (p x ≡ true) × (find p xs ≡ Some x)
position-gives p [] i h = cc
position-gives {A} p (x ∷ xs) i h = by (p x) refl (λ n e. position-gives p xs n e)
  where
    Rec : Type 0
    Rec = (n : ℕ) → position p xs ≡ Some n → (y : A) × (slice_get xs n ≡ Some y) × (p y ≡ true) × (find p xs ≡ Some y)

    later : Rec → (o : Option ℕ) → position p xs ≡ o → option_map (λ n. 1 + n) o ≡ Some i → p x ≡ false → (y : A) × (slice_get (x ∷ xs) i ≡ Some y) × (p y ≡ true) × (find p (x ∷ xs) ≡ Some y)
    later rec None e g f = cc
    later rec (Some n) e g f =
        let r = rec n e in
        let same : 1 + n ≡ i = same_some (1 + n) i g in
        let next : suc n ≡ i = omega arith in
        (r.0, subst (λ m. slice_get (x ∷ xs) m ≡ Some r.0) next r.1, r.2, ap (λ (b : Bool). cond b (Some x) (find p xs)) f ∙ r.3)

    by : (b : Bool) → p x ≡ b → Rec → (y : A) × (slice_get (x ∷ xs) i ≡ Some y) × (p y ≡ true) × (find p (x ∷ xs) ≡ Some y)
    by true f rec =
        let first : Some 0 ≡ Some i = sym (position-cons p x xs ∙ ap (λ (b : Bool). cond b (Some 0) (option_map (λ n. 1 + n) (position p xs))) f) ∙ h in
        (x, subst (λ m. slice_get (x ∷ xs) m ≡ Some x) (same_some 0 i first) refl, f, ap (λ (b : Bool). cond b (Some x) (find p xs)) f)
    by false f rec = later rec (position p xs) refl (sym (position-cons p x xs ∙ ap (λ (b : Bool). cond b (Some 0) (option_map (λ n. 1 + n) (position p xs))) f) ∙ h) f

-- Of peers with connections that are apart, all but the one with c are paired, and the changed one is paired at its place.
pub but_one : (Q : Peer → (List ℕ × KeptPeer) → Type 0) (c : ℕ) (ks : List Peer) (es : List (List ℕ × KeptPeer)) (at : ℕ) (k j : Peer) (e : List ℕ × KeptPeer) → ConnsApart ks
    → Pairs (λ p x. (p.conn ≡ Some c → ⊥) → Q p x) ks es → slice_get ks at ≡ Some k → k.conn ≡ Some c → slice_get es at ≡ Some e → Q j e → Pairs Q (set ks at j) es
but_one Q c [] es at k j e apart h g own there new = cc
but_one Q c (p ∷ ks) [] at k j e apart h g own there new = absurd h
but_one Q c (p ∷ ks) (x ∷ es) zero k j e apart h g own there new =
    (subst (Q j) (sym (same_some x e there)) new, rest ks es h.1 apart.0 (ap (λ (r : Peer). r.conn) (same_some p k g) ∙ own))
  where
    rest : (js : List Peer) (xs : List (List ℕ × KeptPeer)) → Pairs (λ r y. (r.conn ≡ Some c → ⊥) → Q r y) js xs
        → AllByRecursion (λ (j : Peer). (d : ℕ) → p.conn ≡ Some d → j.conn ≡ Some d → ⊥) js → p.conn ≡ Some c → Pairs Q js xs
    rest [] [] f a s = tt
    rest [] (y ∷ xs) f a s = absurd f
    rest (j ∷ js) [] f a s = absurd f
    rest (j ∷ js) (y ∷ xs) f a s = (f.0 (a.0 c s), rest js xs f.1 a.1 s)
but_one Q c (p ∷ ks) (x ∷ es) (suc at) k j e apart h g own there new = (
  h.0 (λ mine. In_from_all (λ (j : Peer). (d : ℕ) → p.conn ≡ Some d → j.conn ≡ Some d → ⊥) k ks apart.0 (In-at ks at k g) c mine own),
  but_one Q c ks es at k j e apart.1 h.1 g own there new,
)
