-- Numbers of 1 to 19 digits.
-- It serves clauses of functions of `laws`.
use Rattle.std.proofs.Common.{◌≡◌, ℕ, ◌≤◌, ◌<◌, ◌^◌, true, List, [], ◌∷◌, arith, refl}
use Rattle.std.specs.List.{AllByRecursion}
use Rattle.std.proofs.lemmas.Bool.{and_from, lt-ltb}
use Rattle.bsc_journal.specs.Saying.{are_short, is_short}

pub short_32 : (n : ℕ) → n < 2 ^ 32 → is_short n ≡ true
short_32 n h = lt-ltb n (10 ^ 19) (omega (arith, h))

pub short_63 : (n : ℕ) → n ≤ 2 ^ 63 → is_short n ≡ true
short_63 n h = lt-ltb n (10 ^ 19) (omega (arith, h))

-- each of these numbers is, where none is above such a one
pub are_short_63 : (most : ℕ) (ns : List ℕ) → most ≤ 2 ^ 63 → AllByRecursion (λ (n : ℕ). n ≤ most) ns → are_short ns ≡ true
are_short_63 most [] few h = refl
are_short_63 most (n ∷ ns) few h = and_from (is_short n) (are_short ns) (short_63 n (let k : n ≤ most = h.0 in omega (arith, k, few))) (are_short_63 most ns few h.1)
