-- The first place that some places don't go on with is the least that is missing.
-- It serves the clauses of `judge_files` and `least_missing`.
use Rattle.std.proofs.Common.{◌≡◌, ℕ, ◌+◌, ◌<◌, ◌≤◌, ◌==◌, nat_eq, nat_lt, Bool, true, false, if◌then◌else◌, List, [], ◌∷◌, length, map, Option, Some, None, MatchOption, refl, subst, ⊎_elim, arith}
use Rattle.std.specs.Prelude.{IsTrue}
use Rattle.std.specs.List.{AllByRecursion, IsDistinct, list_any, range_with_len}
use Rattle.std.specs.List.Sorted.{IsNonDecreasingBy}
use Rattle.std.proofs.lemmas.Bool.{cases_eq, eq-eqb, eqb-false, eqb-true, lt-ltb, ne_eqb, or_left, or_right}
use Rattle.std.proofs.lemmas.List.{length-map}
use Rattle.bsc_audit.specs.declared.places.spot.Spot.{Spot}
use Rattle.bsc_audit.specs.Places.Places.{IsLeastMissing, stands}
use Rattle.bsc_audit.specs.Places.Walking.{skipped}
use Rattle.bsc_audit.proofs.PlaceFacts.Counting.{none_below, stands_never}
use Rattle.bsc_audit.proofs.PlaceFacts.Rising.{Rise, above, place_of, rise}

-- each is greater than those in front of it
abbrev pub Climb : List ℕ → Type 0
Climb [] = Unit {0}
Climb (x ∷ xs) = AllByRecursion (λ y. x < y) xs × Climb xs

-- places that rise, of which none stands twice, climb
apart : (x : ℕ) (xs : List ℕ) → AllByRecursion (λ y. x ≤ y) xs → AllByRecursion (λ y. nat_eq x y ≡ false) xs → AllByRecursion (λ y. x < y) xs
apart x [] least once = tt
apart x (y ∷ ys) least once = (
  (let le = least.0 in ⊎_elim (λ (e : x ≡ y). absurd (eqb-false x y once.0 e)) (λ (n : x ≡ y → ⊥). omega (arith, le, n)) (cases_eq x y)),
  apart x ys least.1 once.1,
)

climb : (xs : List ℕ) → Rise xs → IsDistinct nat_eq xs → Climb xs
unfolding IsDistinct
climb [] up once = tt
climb (x ∷ xs) up once = (apart x xs up.0 once.0, climb xs up.1 once.1)

-- what is greater than n is at least the next
next : (n : ℕ) (xs : List ℕ) → AllByRecursion (λ y. n < y) xs → AllByRecursion (λ y. n + 1 ≤ y) xs
next n [] all = tt
next n (x ∷ xs) all = ((let less = all.0 in omega (arith, less)), next n xs all.1)

-- Place p is the least from n on that doesn't stand, and a greater one does.
pub record IsSkipped (n p : ℕ) (xs : List ℕ) : Type 0 where
  pub from : n ≤ p
  pub missing : stands p xs ≡ false
  pub below : IsTrue (list_any (λ q. nat_lt p q) xs)
  pub least : (k : ℕ) → n ≤ k → k < p → IsTrue (stands k xs)

-- what a walk from n on came to
abbrev Walked : ℕ → Option ℕ → List ℕ → Type 0
Walked n o xs = MatchOption o (xs ≡ range_with_len n (length xs)) (λ p. IsSkipped n p xs)

-- one more place in front, which is the one to go on with
gone_on : (n x : ℕ) (o : Option ℕ) (xs : List ℕ) → x ≡ n → Walked (n + 1) o xs → Walked n o (x ∷ xs)
gone_on n x None xs e w = λ i. e i ∷ w i
gone_on n x (Some p) xs e w =
    let from = w.from in
    record {
      from = omega (arith, from);
      missing = (let other : (x == p) ≡ false = ne_eqb x p (λ (f : x ≡ p). (let no : ⊥ = omega (arith, e, f, from) in no)) in rw other w.missing);
      below = or_right (nat_lt p x) (list_any (λ q. nat_lt p q) xs) w.below;
      least = λ k on less. ⊎_elim
          (λ (f : x ≡ k). or_left (x == k) (stands k xs) (eq-eqb x k f))
          (λ (f : x ≡ k → ⊥). or_right (x == k) (stands k xs) (w.least k (omega (arith, e, f, on)) less))
          (cases_eq x k);
    }

up : (x : ℕ) (xs : List ℕ) → AllByRecursion (λ y. x < y) xs → AllByRecursion (λ y. x ≤ y) xs
up x [] all = tt
up x (y ∷ ys) all = ((let less = all.0 in omega (arith, less)), up x ys all.1)

-- the place to go on with doesn't come
stopped : (n x : ℕ) (xs : List ℕ) → n ≤ x → (x ≡ n → ⊥) → AllByRecursion (λ y. x < y) xs → IsSkipped n n (x ∷ xs)
stopped n x xs from other all =
    let less : n < x = omega (arith, from, other) in
    record {
      from = omega arith;
      missing = stands_never n (x ∷ xs) (none_below n (x ∷ xs) (less, above n x xs less (up x xs all)));
      below = or_left (nat_lt n x) (list_any (λ q. nat_lt n q) xs) (lt-ltb n x less);
      least = λ k on before. (let no : ⊥ = omega (arith, on, before) in absurd no);
    }

by_test : (b : Bool) (n x : ℕ) (xs : List ℕ) → (x == n) ≡ b → n ≤ x → AllByRecursion (λ y. x < y) xs →
    (AllByRecursion (λ y. n + 1 ≤ y) xs → Walked (n + 1) (skipped (n + 1) xs) xs) → Walked n (if b then skipped (n + 1) xs else Some n) (x ∷ xs)
by_test true n x xs e from climbs more =
    let same = eqb-true x n e in
    let all : AllByRecursion (λ y. n < y) xs = subst (λ (m : ℕ). AllByRecursion (λ y. m < y) xs) same climbs in
    gone_on n x (skipped (n + 1) xs) xs same (more (next n xs all))
by_test false n x xs e from climbs more = stopped n x xs from (eqb-false x n e) climbs

walk : (n : ℕ) (xs : List ℕ) → AllByRecursion (λ y. n ≤ y) xs → Climb xs → Walked n (skipped n xs) xs
walk n [] from climbs = refl
walk n (x ∷ xs) from climbs = by_test (x == n) n x xs refl from.0 climbs.0 (λ all. walk (n + 1) xs all climbs.1)

from_zero : (xs : List ℕ) → AllByRecursion (λ y. 0 ≤ y) xs
from_zero [] = tt
from_zero (x ∷ xs) = (omega arith, from_zero xs)

told : (o : Option ℕ) (xs : List ℕ) → IsDistinct nat_eq xs → Walked 0 o xs → MatchOption o (xs ≡ range_with_len 0 (length xs)) (λ p. IsLeastMissing p xs)
told None xs once w = w
told (Some p) xs once w = record { once = once; missing = w.missing; below = w.below; least = λ k less. w.least k (omega arith) less }

-- places that rise and stand once, of which the first that isn't gone on with is the least that is missing
pub missing_of : (xs : List ℕ) → Rise xs → IsDistinct nat_eq xs → MatchOption (skipped 0 xs) (xs ≡ range_with_len 0 (length xs)) (λ p. IsLeastMissing p xs)
missing_of xs up once = told (skipped 0 xs) xs once (walk 0 xs (from_zero xs) (climb xs up once))

pub told_missing : (xs : List Spot) → IsNonDecreasingBy place_of xs → IsDistinct nat_eq (map place_of xs) →
    MatchOption (skipped 0 (map place_of xs)) (map place_of xs ≡ range_with_len 0 (length xs)) (λ p. IsLeastMissing p (map place_of xs))
told_missing xs up once =
    let places = map place_of xs in
    let w = told (skipped 0 places) places once (walk 0 places (from_zero places) (climb places (rise xs up) once)) in
    subst (λ (n : ℕ). MatchOption (skipped 0 places) (places ≡ range_with_len 0 n) (λ p. IsLeastMissing p places)) (length-map xs place_of) w
