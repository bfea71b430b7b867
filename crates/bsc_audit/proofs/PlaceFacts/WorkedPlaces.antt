-- Places in order, worked by hand.
-- No clause needs it: worked examples.
use Rattle.std.proofs.Common.{◌≡◌, [], ◌∷◌, Some, None, refl}
use Rattle.bsc_audit.specs.Places.Walking.{repeated, skipped}

none_twice : repeated (0 ∷ 1 ∷ 3 ∷ []) ≡ None
none_twice = refl

-- the least of two that stand twice
first_of_two : repeated (0 ∷ 1 ∷ 2 ∷ 2 ∷ 5 ∷ 5 ∷ []) ≡ Some 2
first_of_two = refl

none_missing : skipped 0 (0 ∷ 1 ∷ 2 ∷ []) ≡ None
none_missing = refl

-- what comes after the greatest isn't missing, and the first is, where others come
first_missing : skipped 0 (1 ∷ 2 ∷ []) ≡ Some 0
first_missing = refl

least_missing : skipped 0 (0 ∷ 1 ∷ 4 ∷ 9 ∷ []) ≡ Some 2
least_missing = refl

nothing : skipped 0 [] ≡ None
nothing = refl
