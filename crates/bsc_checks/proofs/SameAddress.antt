-- Addresses that are compared octet by octet.
-- It serves the clauses of `judge` and `one_outcome`.
use Rattle.std.proofs.Common.{◌≡◌, ℕ, Bool, true, List, [], ◌∷◌, refl, sym, ap, ◌∙◌, eqb}
use Rattle.std.specs.Cmp.Lexicographic.{pointwise, same_text}
use Rattle.std.proofs.lemmas.Bool.{eq-eqb}
use Rattle.bsc_octets.specs.declared.vmac.Vmac.{Vmac}

-- octets are the same as themselves
pointwise_self : (xs : List ℕ) → pointwise eqb xs xs ≡ true
pointwise_self [] = refl
pointwise_self (x ∷ xs) = rw (eq-eqb x x refl) (pointwise_self xs)

-- what the test says
pub test_holds : (v w : Vmac) (b : Bool) → b ≡ pointwise eqb v.0 w.0 → b ≡ true → v ≡ w
test_holds v w b is same =
    let octets : v.0 ≡ w.0 = same_text v.0 w.0 (sym same ∙ is) in
    ap (λ (l : List ℕ). let x : Vmac = record { 0 = l } in x) octets

pub same_passes : (v w : Vmac) (b : Bool) → b ≡ pointwise eqb v.0 w.0 → v ≡ w → b ≡ true
same_passes v w b is same = is ∙ ap (λ (x : Vmac). pointwise eqb v.0 x.0) (sym same) ∙ pointwise_self v.0
