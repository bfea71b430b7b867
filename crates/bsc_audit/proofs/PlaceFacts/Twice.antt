-- The first place that follows itself is the least that stands twice.
-- It serves the clauses of `judge_files` and `least_twice`.
use Rattle.std.proofs.Common.{◌≡◌, ℕ, ◌<◌, ◌≤◌, ◌==◌, nat_eq, Bool, true, false, if◌then◌else◌, List, [], ◌∷◌, map, Option, Some, None, MatchOption, refl, ap, sym, ⊎_elim, arith}
use Rattle.std.specs.List.{AllByRecursion, IsDistinct}
use Rattle.std.specs.List.Sorted.{IsNonDecreasingBy}
use Rattle.std.proofs.lemmas.Bool.{cases_eq, eqb-false, eqb-true, ne_eqb}
use Rattle.bsc_audit.specs.declared.places.spot.Spot.{Spot}
use Rattle.bsc_audit.specs.Places.Places.{IsLeastTwice}
use Rattle.bsc_audit.specs.Places.Walking.{repeated, repeated_after}
use Rattle.bsc_audit.proofs.PlaceFacts.Counting.{none_below, often, often_here, often_more, often_there}
use Rattle.bsc_audit.proofs.PlaceFacts.Rising.{Rise, above, place_of, rise}

-- what a walk over some places came to
abbrev pub Told : Option ℕ → List ℕ → Type 0
Told o xs = MatchOption o (IsDistinct nat_eq xs) (λ p. IsLeastTwice p xs)

told_of : (o : Option ℕ) (xs ys : List ℕ) → (IsDistinct nat_eq xs → IsDistinct nat_eq ys) → ((p : ℕ) → IsLeastTwice p xs → IsLeastTwice p ys) → Told o xs → Told o ys
told_of None xs ys none some t = none t
told_of (Some p) xs ys none some t = some p t

-- a place that is less than all is none of them
others : (x : ℕ) (xs : List ℕ) → AllByRecursion (λ y. x < y) xs → AllByRecursion (λ y. nat_eq x y ≡ false) xs
others x [] all = tt
others x (y ∷ ys) all = (ne_eqb x y (λ e. (let less = all.0 in omega (arith, e, less))), others x ys all.1)

-- x in front of places that are all greater
in_front : (x : ℕ) (xs : List ℕ) → AllByRecursion (λ y. x < y) xs → (p : ℕ) → IsLeastTwice p xs → IsLeastTwice p (x ∷ xs)
in_front x xs all p t = record {
  twice = (let more = often_more p x xs in let was = t.twice in omega (arith, more, was));
  least = λ k less. ⊎_elim
      (λ (e : x ≡ k). (
      let here = often_here k x xs e in
      let none = none_below x xs all in
      let also : often k xs ≡ often x xs = ap (λ (n : ℕ). often n xs) (sym e) in
      omega (arith, here, none, also)))
      (λ (n : x ≡ k → ⊥). (let there = often_there k x xs n in let was = t.least k less in omega (arith, there, was)))
      (cases_eq x k);
}

-- x twice in front of places that are no less
two : (x y : ℕ) (xs : List ℕ) → y ≡ x → AllByRecursion (λ z. x ≤ z) xs → IsLeastTwice x (x ∷ y ∷ xs)
two x y xs e all = record {
  twice = (let one = often_here x x (y ∷ xs) refl in let more = often_here x y xs e in omega (arith, one, more));
  least = λ k less. (
      let first = often_there k x (y ∷ xs) (λ (f : x ≡ k). (let no : ⊥ = omega (arith, f, less) in no)) in
      let second = often_there k y xs (λ (f : y ≡ k). (let no : ⊥ = omega (arith, f, e, less) in no)) in
      let none = none_below k xs (above k x xs less all) in
      omega (arith, first, second, none));
}

alone : (x : ℕ) → IsDistinct nat_eq (x ∷ [])
unfolding IsDistinct
alone x = (tt, tt)

distinct_more : (x : ℕ) (xs : List ℕ) → AllByRecursion (λ y. x < y) xs → IsDistinct nat_eq xs → IsDistinct nat_eq (x ∷ xs)
unfolding IsDistinct
distinct_more x xs all once = (others x xs all, once)

no_places : IsDistinct nat_eq []
unfolding IsDistinct
no_places = tt

below : (x y : ℕ) → x ≤ y → (y ≡ x → ⊥) → x < y
below x y least other = ⊎_elim (λ (same : y ≡ x). absurd (other same)) (λ (n : y ≡ x → ⊥). omega (arith, least, n)) (cases_eq y x)

step : (b : Bool) (x y : ℕ) (ys : List ℕ) → (y == x) ≡ b → Rise (x ∷ y ∷ ys) → Told (repeated_after y ys) (y ∷ ys) → Told (if b then Some x else repeated_after y ys) (x ∷ y ∷ ys)
step true x y ys e r more = two x y ys (eqb-true y x e) r.0.1
step false x y ys e r more =
    let less = below x y r.0.0 (eqb-false y x e) in
    let all = above x y (y ∷ ys) less ((let same : y ≤ y = omega arith in same), r.1.0) in
    told_of (repeated_after y ys) (y ∷ ys) (x ∷ y ∷ ys) (distinct_more x (y ∷ ys) all) (in_front x (y ∷ ys) all) more

after : (x : ℕ) (xs : List ℕ) → Rise (x ∷ xs) → Told (repeated_after x xs) (x ∷ xs)
after x [] r = alone x
after x (y ∷ ys) r = step (y == x) x y ys refl r (after y ys r.1)

-- places that rise, of which the first that follows itself is the least that stands twice
pub twice_of : (xs : List ℕ) → Rise xs → Told (repeated xs) xs
twice_of [] up = no_places
twice_of (x ∷ xs) up = after x xs up

pub told_twice : (xs : List Spot) → IsNonDecreasingBy place_of xs → Told (repeated (map place_of xs)) (map place_of xs)
told_twice [] up = no_places
told_twice (x ∷ xs) up = after x.place (map place_of xs) (rise (x ∷ xs) up)
