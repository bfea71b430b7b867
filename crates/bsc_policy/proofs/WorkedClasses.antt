-- Classes of groups by names written out, by computation.
-- No clause needs it: worked examples.
use Rattle.std.proofs.Common.{◌≡◌, ℕ, List, [], ◌∷◌, codes, refl}
use Rattle.bsc_policy.specs.Classes.{class_of, names_of}

-- what five rules have on a side
abbrev sides : List (List ℕ)
sides = codes "ctl" ∷ codes "ops" ∷ codes "*" ∷ codes "ctl" ∷ codes "lab" ∷ []

abbrev names : List (List ℕ)
names = names_of sides

each_once : names ≡ codes "*" ∷ codes "ctl" ∷ codes "ops" ∷ codes "lab" ∷ []
each_once = refl

no_rules : names_of [] ≡ codes "*" ∷ []
no_rules = refl

the_first_that_is_named : class_of names (codes "ctl") ≡ 1
the_first_that_is_named = refl

the_last : class_of names (codes "lab") ≡ 3
the_last = refl

one_that_no_rule_names : class_of names (codes "hall") ≡ 0
one_that_no_rule_names = refl

one_that_is_called_so : class_of names (codes "*") ≡ 0
one_that_is_called_so = refl
