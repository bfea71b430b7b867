-- Places that rise, each with those behind it.
-- It serves clauses of functions of `files` and `places`.
use Rattle.std.proofs.Common.{ℕ, suc, ◌<◌, ◌≤◌, List, [], ◌∷◌, length, get_or, map, arith}
use Rattle.std.specs.Prelude.{⊤}
use Rattle.std.specs.List.{AllByRecursion}
use Rattle.std.specs.List.Sorted.{IsNonDecreasingBy}
use Rattle.bsc_audit.specs.declared.places.spot.Spot.{Spot}

-- none is less than one in front of it
abbrev pub Rise : List ℕ → Type 0
Rise [] = ⊤
Rise (x ∷ xs) = AllByRecursion (λ y. x ≤ y) xs × Rise xs

pub above : (k m : ℕ) (xs : List ℕ) → k < m → AllByRecursion (λ y. m ≤ y) xs → AllByRecursion (λ y. k < y) xs
above k m [] less all = tt
above k m (x ∷ xs) less all = ((let here = all.0 in omega (arith, here, less)), above k m xs less all.1)

abbrev pub place_of : Spot → ℕ
place_of s = s.place

behind : (x : Spot) (xs : List Spot) → ((j : ℕ) (d : Spot) → j < length xs → x.place ≤ (get_or xs j d).place) → AllByRecursion (λ y. x.place ≤ y) (map place_of xs)
behind x [] h = tt
behind x (y ∷ ys) h = (h 0 y (omega arith), behind x ys (λ j d l. h (suc j) d (omega (arith, l))))

pub rise : (xs : List Spot) → IsNonDecreasingBy place_of xs → Rise (map place_of xs)
rise [] h = tt
rise (x ∷ xs) h = (
  behind x xs (λ j d l. h 0 (suc j) d (omega arith) (omega (arith, l))),
  rise xs (λ i j d l k. h (suc i) (suc j) d (omega (arith, l)) (omega (arith, k))),
)
