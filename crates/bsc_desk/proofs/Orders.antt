-- Lists in an order, and the order of octets.
-- It serves clauses of most source files here.
use Rattle.std.proofs.Common.{◌≡◌, ◌<◌, ℕ, zero, suc, Bool, true, false, cond, List, [], ◌∷◌, ◌++◌, length, map, filter, get_or, refl, ap, sym, ◌∙◌, arith}
use Rattle.std.specs.Bool.{⊤}
use Rattle.std.specs.List.{AllByRecursion, list_all}
use Rattle.std.specs.Cmp.Lexicographic.{slice_cmp}
use Rattle.std.specs.declared.cmp.Ordering.{Ordering}
use Rattle.std.specs.declared.cmp.Ordering.TheVariants.{Less, Equal, Greater}
use Rattle.std.specs.Ordering.{is_le, is_gt, nat_cmp, ordering_reverse}
use Rattle.std.proofs.lemmas.Cmp.{nat_list_cmp_total, upto, tied_itself}
use Rattle.std.proofs.lemmas.Map.Lookups.{exact_bytes}
use Rattle.std.proofs.lemmas.Bool.{and_parts, and_from}
use Rattle.bsc_desk.specs.Orders.{in_order, at_most}
use Rattle.bsc_lemmas.proofs.Lists.{all-filter, all-push}

-- what holds of each element holds of those that are kept, and of each but one that is put in

pub all-weaker : {A : Type 0} (P Q : A → Type 0) (xs : List A) → ((x : A) → P x → Q x) → AllByRecursion P xs → AllByRecursion Q xs
all-weaker P Q [] each all = tt
all-weaker P Q (x ∷ xs) each all = (each x all.0, all-weaker P Q xs each all.1)

pub all-map : {A B : Type 0} (P : A → Type 0) (Q : B → Type 0) (f : A → B) (xs : List A) → ((x : A) → P x → Q (f x)) → AllByRecursion P xs → AllByRecursion Q (map f xs)
all-map P Q f [] each all = tt
all-map P Q f (x ∷ xs) each all = (each x all.0, all-map P Q f xs each all.1)

all-at : {A : Type 0} (P : A → Type 0) (xs : List A) (i : ℕ) (d : A) → AllByRecursion P xs → i < length xs → P (get_or xs i d)
all-at P [] i d all within = absurd (omega arith)
all-at P (x ∷ xs) zero d all within = all.0
all-at P (x ∷ xs) (suc i) d all within = all-at P xs i d all.1 (omega arith)

pub all_true : {A : Type 0} (p : A → Bool) (xs : List A) → list_all p xs ≡ true → AllByRecursion (λ x. p x ≡ true) xs
all_true p [] h = tt
all_true p (x ∷ xs) h = let two = and_parts (p x) (list_all p xs) h in (two.0, all_true p xs two.1)

pub true_all : {A : Type 0} (p : A → Bool) (xs : List A) → AllByRecursion (λ x. p x ≡ true) xs → list_all p xs ≡ true
true_all p [] h = refl
true_all p (x ∷ xs) h = and_from (p x) (list_all p xs) h.0 (true_all p xs h.1)

-- orders

-- R holds of each element and each after it
abbrev pub InOrder : {A : Type 0} → (A → A → Type 0) → List A → Type 0
InOrder R [] = ⊤
InOrder R (x ∷ xs) = AllByRecursion (R x) xs × InOrder R xs

pub order_true : {A : Type 0} (r : A → A → Bool) (xs : List A) → in_order r xs ≡ true → InOrder (λ x y. r x y ≡ true) xs
order_true r [] h = tt
order_true r (x ∷ xs) h = let two = and_parts (list_all (r x) xs) (in_order r xs) h in (all_true (r x) xs two.0, order_true r xs two.1)

pub true_order : {A : Type 0} (r : A → A → Bool) (xs : List A) → InOrder (λ x y. r x y ≡ true) xs → in_order r xs ≡ true
true_order r [] h = refl
true_order r (x ∷ xs) h = and_from (list_all (r x) xs) (in_order r xs) (true_all (r x) xs h.0) (true_order r xs h.1)

pub order-filter : {A : Type 0} (R : A → A → Type 0) (q : A → Bool) (xs : List A) → InOrder R xs → InOrder R (filter q xs)
order-filter R q [] order = tt
order-filter R q (x ∷ xs) order = let rest = order-filter R q xs order.1 in
    elim (q x) as (λ b. InOrder R (cond b (x ∷ filter q xs) (filter q xs))) [ true ↦ (all-filter (R x) q xs order.0, rest) | false ↦ rest ]

pub order-push : {A : Type 0} (R : A → A → Type 0) (xs : List A) (y : A) → InOrder R xs → AllByRecursion (λ x. R x y) xs → InOrder R (xs ++ y ∷ [])
order-push R [] y order all = (tt, tt)
order-push R (x ∷ xs) y order all = (all-push (R x) xs y order.0 all.0, order-push R xs y order.1 all.1)

pub order-at : {A : Type 0} (R : A → A → Type 0) (xs : List A) (i j : ℕ) (d : A) → InOrder R xs → i < j → j < length xs → R (get_or xs i d) (get_or xs j d)
order-at R [] i j d order before within = absurd (omega arith)
order-at R (x ∷ xs) i zero d order before within = absurd (omega arith)
order-at R (x ∷ xs) zero (suc j) d order before within = all-at (R x) xs j d order.0 (omega arith)
order-at R (x ∷ xs) (suc i) (suc j) d order before within = order-at R xs i j d order.1 (omega arith) (omega arith)

pub tests-filter : {A : Type 0} (r : A → A → Bool) (q : A → Bool) (xs : List A) → in_order r xs ≡ true → in_order r (filter q xs) ≡ true
tests-filter r q xs h = true_order r (filter q xs) (order-filter (λ x y. r x y ≡ true) q xs (order_true r xs h))

-- octets

not_above : (o : Ordering) → is_le o ≡ true → is_gt o ≡ false
not_above Less h = refl
not_above Equal h = refl
not_above Greater h = cc

no_more : (o : Ordering) → is_gt o ≡ false → is_le o ≡ true
no_more Less h = refl
no_more Equal h = refl
no_more Greater h = cc

turned_below : (o : Ordering) → is_le (ordering_reverse o) ≡ false → is_le o ≡ true
turned_below Less h = cc
turned_below Equal h = refl
turned_below Greater h = cc

turned_equal : (o : Ordering) → is_le o ≡ true → is_le (ordering_reverse o) ≡ true → o ≡ Equal
turned_equal Less h k = cc
turned_equal Equal h k = refl
turned_equal Greater h k = cc

pub at_most-chain : (k l m : List ℕ) → at_most k l ≡ true → at_most l m ≡ true → at_most k m ≡ true
at_most-chain k l m h g = no_more (slice_cmp nat_cmp k m) (upto nat_list_cmp_total k l m (not_above (slice_cmp nat_cmp k l) h) (not_above (slice_cmp nat_cmp l m) g))

pub at_most-other : (k l : List ℕ) → at_most k l ≡ false → at_most l k ≡ true
at_most-other k l h = turned_below (slice_cmp nat_cmp l k) (ap is_le (sym (nat_list_cmp_total.antisymm k l)) ∙ h)

pub at_most-itself : (k l : List ℕ) → k ≡ l → at_most k l ≡ true
at_most-itself k l same = ap (λ (m : List ℕ). is_le (slice_cmp nat_cmp k m)) (sym same) ∙ ap is_le (tied_itself nat_list_cmp_total k)

pub at_most-both : (k l : List ℕ) → at_most k l ≡ true → at_most l k ≡ true → k ≡ l
at_most-both k l h g = exact_bytes k l (turned_equal (slice_cmp nat_cmp k l) h (ap is_le (sym (nat_list_cmp_total.antisymm l k)) ∙ g))
