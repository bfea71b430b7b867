-- Places that are all those from one on, so many of them.
-- It serves clauses of functions of `auditing` and `files`.
use Rattle.std.proofs.Common.{◌≡◌, ℕ, zero, suc, ◌+◌, ◌<◌, ◌≤◌, nat_lt, Bool, true, false, ◌||◌, List, [], ◌∷◌, refl, ◌∙◌, ⊎_elim, arith}
use Rattle.std.specs.List.{list_any, range_with_len}
use Rattle.std.proofs.lemmas.Bool.{cases_eq, ltb-true}
use Rattle.bsc_audit.specs.Places.Places.{IsLeastMissing, IsLeastTwice}
use Rattle.bsc_audit.proofs.PlaceFacts.Counting.{often, often_here, often_more, often_there, stands_often}
use Rattle.bsc_lemmas.proofs.Booleans.{not_both as told}

-- none is less than the first
pub from_on : (k n m : ℕ) → k < n → often k (range_with_len n m) ≡ 0
from_on k n zero less = refl
from_on k n (suc m) less = often_there k n (range_with_len (n + 1) m) (λ (e : n ≡ k). (let no : ⊥ = omega (arith, e, less) in no)) ∙ from_on k (n + 1) m (omega (arith, less))

-- each stands once at most
pub once_at_most : (k n m : ℕ) → often k (range_with_len n m) ≤ 1
once_at_most k n zero = omega arith
once_at_most k n (suc m) = ⊎_elim
    (λ (e : n ≡ k). (let here = often_here k n (range_with_len (n + 1) m) e in let none = from_on k (n + 1) m (omega (arith, e)) in omega (arith, here, none)))
    (λ (f : n ≡ k → ⊥). (let there = often_there k n (range_with_len (n + 1) m) f in let more = once_at_most k (n + 1) m in omega (arith, there, more)))
    (cases_eq n k)

-- what stands there isn't past the last
pub before_end : (k n m : ℕ) → 0 < often k (range_with_len n m) → k < n + m
before_end k n zero some = let no : ⊥ = omega (arith, some) in absurd no
before_end k n (suc m) some = ⊎_elim
    (λ (e : n ≡ k). omega (arith, e))
    (λ (f : n ≡ k → ⊥). (let there = often_there k n (range_with_len (n + 1) m) f in let more = before_end k (n + 1) m (omega (arith, there, some)) in omega (arith, more)))
    (cases_eq n k)

-- and what is before the end stands there
pub stands_there : (k n m : ℕ) → n ≤ k → k < n + m → 0 < often k (range_with_len n m)
stands_there k n zero from to = let no : ⊥ = omega (arith, from, to) in absurd no
stands_there k n (suc m) from to = ⊎_elim
    (λ (e : n ≡ k). (let here = often_here k n (range_with_len (n + 1) m) e in omega (arith, here)))
    (λ (f : n ≡ k → ⊥). (let more = stands_there k (n + 1) m (omega (arith, from, f)) (omega (arith, to)) in let also = often_more k n (range_with_len (n + 1) m) in omega (arith, more, also)))
    (cases_eq n k)

-- Places that stand as often as all those from 0 on.
abbrev pub AreAll : List ℕ → ℕ → Type 0
AreAll xs n = (k : ℕ) → often k xs ≡ often k (range_with_len 0 n)

pub none_twice : (xs : List ℕ) (n p : ℕ) → AreAll xs n → IsLeastTwice p xs → ⊥
none_twice xs n p all t = let also = all p in let once = once_at_most p 0 n in let twice = t.twice in omega (arith, also, once, twice)

-- a greater place that stands
pub record Greater (p : ℕ) (xs : List ℕ) : Type 0 where
  pub place : ℕ
  pub greater : p < place
  pub some : 0 < often place xs

by_head : (b : Bool) (p x : ℕ) (xs : List ℕ) → nat_lt p x ≡ b → (b || list_any (λ q. nat_lt p q) xs) ≡ true → (list_any (λ q. nat_lt p q) xs ≡ true → Greater p xs) → Greater p (x ∷ xs)
by_head true p x xs e h more = record { place = x; greater = ltb-true p x e; some = (let here = often_here x x xs refl in omega (arith, here)) }
by_head false p x xs e h more =
    let g = more h in
    record { place = g.place; greater = g.greater; some = (let also = often_more g.place x xs in let some = g.some in omega (arith, also, some)) }

greater_of : (p : ℕ) (xs : List ℕ) → list_any (λ q. nat_lt p q) xs ≡ true → Greater p xs
greater_of p [] h = absurd cc
greater_of p (x ∷ xs) h = by_head (nat_lt p x) p x xs refl h (greater_of p xs)

pub none_missing : (xs : List ℕ) (n p : ℕ) → AreAll xs n → IsLeastMissing p xs → ⊥
none_missing xs n p all m =
    let g = greater_of p xs m.below in
    let also = all g.place in
    let some = g.some in
    let last = before_end g.place 0 n (omega (arith, also, some)) in
    let less = g.greater in
    let there = stands_there p 0 n (omega arith) (omega (arith, last, less)) in
    let same = all p in
    told (stands_often p xs (omega (arith, there, same))) m.missing
