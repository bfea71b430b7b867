-- What is told beside an answer.
use Rattle.std.specs.Prelude.{◌≡◌, ◌<◌, ℕ, List, ◌∷◌, ◌++◌, length, Some}
use Rattle.bsc_history.specs.declared.entry.Entry.{Entry}
use Rattle.bsc_history.specs.declared.limits.About.{About}
use Rattle.bsc_journal.specs.Journals.{Tells}
use Rattle.bsc_legality.specs.declared.breach.Breach.{Breach}
use Rattle.bsc_legality.specs.Breaches.{breach}
use Rattle.bsc_audit_diagnostics.specs.Reasons.{TellsHubs, TellsIllegal, TellsMissing, TellsTwice}
use Rattle.bsc_audit.specs.declared.audit_end.AuditEnd.{AuditEnd}
use Rattle.bsc_audit.specs.declared.audit_end.AuditEnd.TheVariants.{Legal, BadLine, Hubs, Twice, Missing, Illegal, ReadFault, NoMemory}

-- The first condition that the entry e breaks behind H is told, with the line of place p.
pub record TellsBreach (p : ℕ) (about : About) (H : List Entry) (e : Entry) (o why : List ℕ) : Type 0 where
  pub broken : Breach
  pub breaks : breach about H e ≡ Some broken
  pub tells : TellsIllegal p e broken o why

-- Of a history with the entry at place p behind those before it.
pub record TellsOfPlace (p : ℕ) (about : About) (H : List Entry) (o why : List ℕ) : Type 0 where
  pub before : List Entry
  pub entry : Entry
  pub behind : List Entry
  pub parts : H ≡ before ++ entry ∷ behind
  pub place : p ≡ length before
  pub tells : TellsBreach p about before entry o why

-- Of the entries of a history something is told where one of them isn't legal.
abbrev pub TellsOfEntry : About → List Entry → List ℕ → AuditEnd → List ℕ → Type 0
TellsOfEntry about H o (Illegal place) why = TellsOfPlace place about H o why
TellsOfEntry about H o end why = ⊥

-- What is told of octets beside an answer: which lines are hub lines, have the place, or have those around it; or of the history
-- that the octets tell, which condition the entry breaks behind those before it, and what is due in its stead.
abbrev pub Explains : List ℕ → AuditEnd → List ℕ → Type 0
Explains o (Hubs lines) why = TellsHubs o why
Explains o (Twice place) why = TellsTwice place o why
Explains o (Missing place) why = (next : ℕ) × (place < next) × TellsMissing place next o why
Explains o (Illegal place) why = (about : About) × (H : List Entry) × Tells o about H × TellsOfPlace place about H o why
Explains o (Legal entries) why = ⊥
Explains o (BadLine line) why = ⊥
Explains o ReadFault why = ⊥
Explains o NoMemory why = ⊥
