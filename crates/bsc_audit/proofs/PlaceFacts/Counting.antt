-- How often a place stands among some.
-- It serves clauses of functions of `auditing`, `files`, `judging` and `places`.
use Rattle.std.proofs.Common.{◌≡◌, ℕ, ◌+◌, ◌<◌, ◌≤◌, ◌==◌, Bool, true, false, ◌||◌, cond, List, [], ◌∷◌, refl, ap, ◌∙◌, arith}
use Rattle.std.specs.List.{AllByRecursion, count_by}
use Rattle.std.proofs.lemmas.Bool.{eqb-false, eqb-true, ne_eqb, eq-eqb}
use Rattle.std.proofs.lemmas.List.Sums.{sum_by-cons}
use Rattle.bsc_audit.specs.Places.Places.{stands}

-- how often k stands among some
abbrev pub often : ℕ → List ℕ → ℕ
often k xs = count_by (λ q. q == k) xs

-- one where a test passes
abbrev pub one_if : Bool → ℕ
one_if b = cond b 1 0

-- one place more
often_cons : (k x : ℕ) (xs : List ℕ) → often k (x ∷ xs) ≡ one_if (x == k) + often k xs
often_cons k x xs = sum_by-cons (λ q. cond (q == k) 1 0) x xs

pub often_here : (k x : ℕ) (xs : List ℕ) → x ≡ k → often k (x ∷ xs) ≡ often k xs + 1
often_here k x xs e =
    let one : one_if (x == k) ≡ 1 = ap one_if (eq-eqb x k e) in
    omega (arith, often_cons k x xs, one)

pub often_there : (k x : ℕ) (xs : List ℕ) → (x ≡ k → ⊥) → often k (x ∷ xs) ≡ often k xs
often_there k x xs n =
    let none : one_if (x == k) ≡ 0 = ap one_if (ne_eqb x k n) in
    omega (arith, often_cons k x xs, none)

-- a place more is no less often there
pub often_more : (k x : ℕ) (xs : List ℕ) → often k xs ≤ often k (x ∷ xs)
often_more k x xs = omega (arith, often_cons k x xs)

-- no place stands in front of all of them
pub none_below : (k : ℕ) (xs : List ℕ) → AllByRecursion (λ y. k < y) xs → often k xs ≡ 0
none_below k [] above = refl
none_below k (x ∷ xs) above = often_there k x xs (λ e. (let less = above.0 in omega (arith, e, less))) ∙ none_below k xs above.1

-- a place stands among some exactly where it stands there some times
by_test : (b : Bool) (k x : ℕ) (xs : List ℕ) → (x == k) ≡ b → 0 < often k (x ∷ xs) → (0 < often k xs → stands k xs ≡ true) → (b || stands k xs) ≡ true
by_test true k x xs e some more = refl
by_test false k x xs e some more = more (let none = often_there k x xs (eqb-false x k e) in omega (arith, some, none))

pub stands_often : (k : ℕ) (xs : List ℕ) → 0 < often k xs → stands k xs ≡ true
stands_often k [] some = let no : ⊥ = omega (arith, some) in absurd no
stands_often k (x ∷ xs) some = by_test (x == k) k x xs refl some (stands_often k xs)

by_never : (b : Bool) (k x : ℕ) (xs : List ℕ) → (x == k) ≡ b → often k (x ∷ xs) ≡ 0 → (often k xs ≡ 0 → stands k xs ≡ false) → (b || stands k xs) ≡ false
by_never true k x xs e none more = let one = often_here k x xs (eqb-true x k e) in let no : ⊥ = omega (arith, one, none) in absurd no
by_never false k x xs e none more = more (let also = often_more k x xs in omega (arith, none, also))

pub stands_never : (k : ℕ) (xs : List ℕ) → often k xs ≡ 0 → stands k xs ≡ false
stands_never k [] none = refl
stands_never k (x ∷ xs) none = by_never (x == k) k x xs refl none (stands_never k xs)
