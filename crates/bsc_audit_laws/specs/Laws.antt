-- The words of the laws.
use Rattle.std.specs.Prelude.{ℕ, ◌==◌, Bool, true, List, [], ◌∷◌, IsTrue, ⊤}
use Rattle.bsc_audit.specs.declared.audit_end.AuditEnd.{AuditEnd}
use Rattle.bsc_audit.specs.declared.audit_end.AuditEnd.TheVariants.{Legal, BadLine, Hubs, Twice, Missing, Illegal, ReadFault, NoMemory}

-- whether octets end with an LF, or are none
abbrev pub ends_with_line : List ℕ → Bool
ends_with_line [] = true
ends_with_line (c ∷ []) = c == 10
ends_with_line (c ∷ d ∷ o) = ends_with_line (d ∷ o)

-- Octets are whole lines.
abbrev pub EndsWithLine : List ℕ → Type 0
EndsWithLine o = IsTrue (ends_with_line o)

-- An answer says nothing of the octets.
abbrev pub SaysNothing : AuditEnd → Type 0
SaysNothing ReadFault = ⊤
SaysNothing NoMemory = ⊤
SaysNothing (Legal entries) = ⊥
SaysNothing (BadLine line) = ⊥
SaysNothing (Hubs lines) = ⊥
SaysNothing (Twice place) = ⊥
SaysNothing (Missing place) = ⊥
SaysNothing (Illegal place) = ⊥
