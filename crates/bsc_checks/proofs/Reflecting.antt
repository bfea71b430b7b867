-- A test that holds exactly where something is so.
-- It serves the clauses of `judge` and `one_outcome`.
use Rattle.std.proofs.Common.{◌≡◌, ◌≢◌, ℕ, ◌<◌, ◌≤◌, ◌⊎◌, inl, inr, Bool, true, false, not, ◌&&◌, ◌||◌, eqb, ltb, leb, Option, Some, None, is_some, is_none, List, refl, sym, ◌∙◌}
use Rattle.std.specs.Str.{IsUtf8, is_utf8}
use Rattle.std.proofs.lemmas.Bool.{eqb-true, eq-eqb, ltb-true, lt-ltb, leb-true, le-leb}
use Rattle.std.proofs.lemmas.Str.{IsUtf8-from_is_utf8, is_utf8-from_IsUtf8}
use Rattle.bsc_octets.specs.declared.vmac.Vmac.{Vmac}
use Rattle.bsc_octets.specs.Addresses.{same_vmac}
use Rattle.bsc_checks.proofs.SameAddress.{test_holds, same_passes}

pub record Reflects (P : Type 0) (b : Bool) : Type 0 where
  pub holds : b ≡ true → P
  pub back : P → b ≡ true

-- where the test fails, it is not so
pub fails_of : (P : Type 0) (b : Bool) → Reflects P b → b ≡ false → P → ⊥
fails_of P b r clear p = let both : true ≡ false = sym (r.back p) ∙ clear in absurd cc

-- where it is not so, the test fails
pub clear_of : (P : Type 0) (b : Bool) → Reflects P b → (P → ⊥) → b ≡ false
clear_of P true r out = absurd (out (r.holds refl))
clear_of P false r out = refl

-- ---- put together

pub also : (P Q : Type 0) (a b : Bool) → Reflects P a → Reflects Q b → Reflects (P × Q) (a && b)
also P Q true true p q = record { holds = (λ e. (p.holds refl, q.holds refl)); back = (λ h. refl) }
also P Q true false p q = record { holds = (λ e. absurd cc); back = (λ h. q.back h.1) }
also P Q false true p q = record { holds = (λ e. absurd cc); back = (λ h. p.back h.0) }
also P Q false false p q = record { holds = (λ e. absurd cc); back = (λ h. p.back h.0) }

pub three : (P Q R : Type 0) (a b c : Bool) → Reflects P a → Reflects Q b → Reflects R c → Reflects (P × Q × R) ((a && b) && c)
three P Q R a b c p q r =
    let first = also P Q a b p q in
    let all = also (P × Q) R (a && b) c first r in
    record { holds = (λ e. let h = all.holds e in (h.0.0, h.0.1, h.1)); back = (λ h. all.back ((h.0, h.1), h.2)) }

pub either : (P Q : Type 0) (a b : Bool) → Reflects P a → Reflects Q b → Reflects (P ⊎ Q) (a || b)
either P Q true true p q = record { holds = (λ e. inl (p.holds refl)); back = (λ h. refl) }
either P Q true false p q = record { holds = (λ e. inl (p.holds refl)); back = (λ h. refl) }
either P Q false true p q = record { holds = (λ e. inr (q.holds refl)); back = (λ h. refl) }
either P Q false false p q = record { holds = (λ e. absurd cc); back = (λ h. elim h [ inl x ↦ p.back x | inr y ↦ q.back y ]) }

pub never : (P : Type 0) (a : Bool) → Reflects P a → Reflects (P → ⊥) (not a)
never P true p = record { holds = (λ e. absurd cc); back = (λ h. absurd (h (p.holds refl))) }
never P false p = record { holds = (λ e x. let no : false ≡ true = p.back x in absurd cc); back = (λ h. refl) }

-- by a property that says the same
pub alike : (P Q : Type 0) (a : Bool) → (P → Q) → (Q → P) → Reflects P a → Reflects Q a
alike P Q a on back p = record { holds = (λ e. on (p.holds e)); back = (λ h. p.back (back h)) }

-- ---- what is tested

pub equal : (a b : ℕ) → Reflects (a ≡ b) (eqb a b)
equal a b = record { holds = eqb-true a b; back = eq-eqb a b }

pub less : (a b : ℕ) → Reflects (a < b) (ltb a b)
less a b = record { holds = ltb-true a b; back = lt-ltb a b }

pub at_most : (a b : ℕ) → Reflects (a ≤ b) (leb a b)
at_most a b = record { holds = leb-true a b; back = le-leb a b }

pub set : (b : Bool) → Reflects (b ≡ true) b
set b = record { holds = (λ e. e); back = (λ e. e) }

pub clear : (b : Bool) → Reflects (b ≡ false) (not b)
clear true = record { holds = (λ e. absurd cc); back = (λ h. absurd cc) }
clear false = record { holds = (λ e. refl); back = (λ h. refl) }

pub one_address : (v w : Vmac) → Reflects (v ≡ w) (same_vmac v w)
one_address v w = record { holds = test_holds v w (same_vmac v w) refl; back = same_passes v w (same_vmac v w) refl }

pub absent : (v : Option Vmac) → Reflects (v ≡ None) (is_none v)
absent None = record { holds = (λ e. refl); back = (λ h. refl) }
absent (Some v) = record { holds = (λ e. absurd cc); back = (λ h. absurd cc) }

pub present : (v : Option Vmac) → Reflects (v ≢ None) (is_some v)
present None = record { holds = (λ e. absurd cc); back = (λ h. absurd (h refl)) }
present (Some v) = record { holds = (λ e same. absurd cc); back = (λ h. refl) }

pub text : (o : List ℕ) → Reflects (IsUtf8 o) (is_utf8 o)
text o = record { holds = IsUtf8-from_is_utf8 o; back = is_utf8-from_IsUtf8 o }
