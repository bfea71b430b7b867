-- What entries in order come to. The words are those of inner functions.
use Rattle.std.specs.Prelude.{◌≡◌, ◌<◌, ◌+◌, ℕ, List, length, take, ⊤}
use Rattle.bsc_history.specs.declared.entry.Entry.{Entry}
use Rattle.bsc_history.specs.declared.limits.About.{About}
use Rattle.bsc_history.specs.Legality.{Legal}
use Rattle.bsc_audit.specs.declared.audit_end.AuditEnd.{AuditEnd}
use Rattle.bsc_audit.specs.declared.audit_end.AuditEnd.TheVariants.{Legal as IsLegal, BadLine, Hubs, Twice, Missing, Illegal, ReadFault, NoMemory}

-- The entry at place p is the first that isn't legal behind those before it.
pub record IsIllegalAt (p : ℕ) (about : About) (H : List Entry) : Type 0 where
  pub place : p < length H
  pub before : Legal about (take p H)
  pub illegal : Legal about (take (p + 1) H) → ⊥

-- The entries H are legal, so many of them.
pub record AreLegal (n : ℕ) (about : About) (H : List Entry) : Type 0 where
  pub count : n ≡ length H
  pub legal : Legal about H

-- What the history H of a hub comes to.
abbrev pub Judges : About → List Entry → AuditEnd → Type 0
Judges about H (IsLegal entries) = AreLegal entries about H
Judges about H (Illegal place) = IsIllegalAt place about H
Judges about H NoMemory = ⊤
Judges about H (BadLine line) = ⊥
Judges about H (Hubs lines) = ⊥
Judges about H (Twice place) = ⊥
Judges about H (Missing place) = ⊥
Judges about H ReadFault = ⊥

-- This isn't what becomes of a line that isn't taken, or of a read that failed.
abbrev pub IsOfWhole : AuditEnd → Type 0
IsOfWhole (IsLegal entries) = ⊤
IsOfWhole (Illegal place) = ⊤
IsOfWhole (Hubs lines) = ⊤
IsOfWhole (Twice place) = ⊤
IsOfWhole (Missing place) = ⊤
IsOfWhole NoMemory = ⊤
IsOfWhole (BadLine line) = ⊥
IsOfWhole ReadFault = ⊥
