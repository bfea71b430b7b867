-- Elements at an index, and what is dropped of two lists.
-- It serves clauses of functions of `laws`.
use Rattle.std.proofs.Common.{◌≡◌, ℕ, zero, suc, ◌+◌, ◌≤◌, ◌<◌, List, [], ◌∷◌, ◌++◌, length, drop, refl, ap, arith}
use Rattle.std.specs.Prelude.{slice_get}

pub got-first : {A : Type 0} (xs ys : List A) (i : ℕ) → i < length xs → slice_get (xs ++ ys) i ≡ slice_get xs i
got-first [] ys i h = absurd (omega arith)
got-first (a ∷ xs) ys zero h = refl
got-first (a ∷ xs) ys (suc i) h = got-first xs ys i (omega arith)

-- ---- what is dropped of more

pub drop-more : {A : Type 0} (n : ℕ) (xs ys : List A) → n ≤ length xs → drop n (xs ++ ys) ≡ drop n xs ++ ys
drop-more zero xs ys h = refl
drop-more (suc n) [] ys h = absurd (omega arith)
drop-more (suc n) (x ∷ xs) ys h = drop-more n xs ys (omega arith)

pub drop-behind : {A : Type 0} (xs ys : List A) (n k : ℕ) → n ≡ length xs + k → drop n (xs ++ ys) ≡ drop k ys
drop-behind [] ys n k is = (let same : n ≡ k = omega arith in ap (λ (i : ℕ). drop i ys) same)
drop-behind (x ∷ xs) ys zero k is = absurd (omega arith)
drop-behind (x ∷ xs) ys (suc n) k is = drop-behind xs ys n k (omega arith)
