-- What an application in memory answers.
use Rattle.std.proofs.Common.{◌≡◌, ℕ, true, List, ◌∷◌, Some, refl, sym, subst}
use Rattle.bsc_application.specs.declared.planned.Planned.{Planned}
use Rattle.bsc_application.specs.Planning.{Answers, is_next}

-- The first is given, where its turn has come.
pub gives_first : (made : ℕ) (plan rest : List Planned) (p : Planned) → is_next made plan ≡ true → plan ≡ p ∷ rest
    → Answers (is_next made plan) made plan (Some p.event) made rest
gives_first made plan rest p is first = subst (λ b. Answers b made plan (Some p.event) made rest) (sym is) (p, first, refl, refl)
