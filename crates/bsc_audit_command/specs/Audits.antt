-- What the command comes to.
use Rattle.std.specs.Prelude.{◌≡◌, ℕ, ◌⊎◌, List, Option}
use Rattle.bsc_journal.specs.Journals.{Audited}
use Rattle.bsc_audit.specs.declared.audit_end.AuditEnd.{AuditEnd}
use Rattle.bsc_audit.specs.Verdicts.{AnswersOf, IsLegalOrNothing}
use Rattle.bsc_audit_command.specs.Lines.{SaysAudit}

-- The octets o that a source had were audited, of which `left` is left, and this was written of the answer, with this
-- status.
pub record RunsAudit (o : List ℕ) (left : Option (List ℕ)) (status : ℕ) (before after : Option (List ℕ)) : Type 0 where
  pub end : AuditEnd
  pub answers : AnswersOf end o left
  pub legal : (entries : ℕ) → Audited o entries → IsLegalOrNothing entries end
  pub says : SaysAudit end status before after

-- The statuses of the command.
abbrev pub IsStatus : ℕ → Type 0
IsStatus s = (s ≡ 0) ⊎ (s ≡ 2) ⊎ (s ≡ 3) ⊎ (s ≡ 4) ⊎ (s ≡ 7) ⊎ (s ≡ 10)
