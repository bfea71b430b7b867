-- Lemmas on numbers and results that the kit lacks.
-- It serves many crates above.
use Rattle.std.proofs.Common.{◌≡◌, ◌==◌, sym, ◌∙◌, inr, inl, ℕ, nat_lt, ◌+◌, arith, suc, ◌<◌, Err, Ok, IfOk, Result}
use Rattle.std.proofs.lemmas.Bool.{cases_eq, ne_eqb, eq-eqb}
use Rattle.std.proofs.lemmas.Bool.Decides.{nat_tests}
use Rattle.std.specs.Prelude.{◌^◌, ◌%◌}

pub eq_turned : (a b : ℕ) → (a == b) ≡ (b == a)
eq_turned a b = elim (cases_eq a b) as (λ w. (a == b) ≡ (b == a)) [ inl e ↦ eq-eqb a b e ∙ sym (eq-eqb b a (sym e)) | inr n ↦ ne_eqb a b n ∙ sym (ne_eqb b a (λ e. n (sym e))) ]

pub below_both : (k n : ℕ) → nat_lt (1 + k) (suc n) ≡ nat_lt k n
below_both k n = grind (arith, nat_tests)

pub small_id : (n : ℕ) → n % 65536 < 2 ^ 16
small_id n = omega arith

pub same_suc : (i j : ℕ) → suc i ≡ suc j → i ≡ j
same_suc i j h = cc

pub if_ok_maps : {T E : Type 0} {P Q : T → Type 0} (r : Result T E) → ((x : T) → P x → Q x) → IfOk r P → IfOk r Q
if_ok_maps (Ok x) f p = f x p
if_ok_maps (Err e) f p = tt
