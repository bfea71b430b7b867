-- How a source is read, and why that may end before its octets do. The words are those of inner functions.
use Rattle.std.specs.Prelude.{◌≡◌, ◌<◌, ℕ, Bool, true, false, List, [], ◌∷◌, ◌++◌, length, Option, Result, Ok, Err, ⊤}
use Rattle.std.specs.Io.KnownBytes.{Consumes}
use Rattle.bsc_text.specs.Gave.{Gave}
use Rattle.bsc_player.specs.declared.language.LineFault.{LineFault}
use Rattle.bsc_player.specs.declared.language.LineFault.TheVariants.{Refused, NoMemory as LineNoMemory}
use Rattle.bsc_audit.specs.declared.audit_end.AuditEnd.{AuditEnd}
use Rattle.bsc_audit.specs.declared.audit_end.AuditEnd.TheVariants.{Legal, BadLine, Hubs, Twice, Missing, Illegal, ReadFault, NoMemory}
use Rattle.bsc_audit.specs.Hearing.{IsBadAnyhow}
use Rattle.bsc_audit.specs.Verdicts.{IsFirstBad}

-- Some octets more were read, and put behind those that were read before.
pub record ReadsMore (left left' : Option (List ℕ)) (before after : List ℕ) : Type 0 where
  pub chunk : List ℕ
  pub some : 0 < length chunk
  pub grown : after ≡ before ++ chunk
  pub read : Consumes left left' chunk

-- What an answer says of the one read that was made for it: it gave some octets, which were put behind those that were read
-- before, or it found the end, or it failed and gave nothing, or it gave some for which there was no memory.
abbrev pub ReadsOnce : Option (List (List ℕ)) → Option (List (List ℕ)) → Result Bool AuditEnd → List ℕ → List ℕ → Type 0
ReadsOnce reads reads' (Ok true) before after = (chunk : List ℕ) × (0 < length chunk) × (after ≡ before ++ chunk) × Gave reads reads' (chunk ∷ [])
ReadsOnce reads reads' (Ok false) before after = (after ≡ before) × Gave reads reads' ([] ∷ [])
ReadsOnce reads reads' (Err ReadFault) before after = Gave reads reads' []
ReadsOnce reads reads' (Err NoMemory) before after = (chunk : List ℕ) × (0 < length chunk) × Gave reads reads' (chunk ∷ [])
ReadsOnce reads reads' (Err (Legal entries)) before after = ⊥
ReadsOnce reads reads' (Err (BadLine line)) before after = ⊥
ReadsOnce reads reads' (Err (Hubs lines)) before after = ⊥
ReadsOnce reads reads' (Err (Twice place)) before after = ⊥
ReadsOnce reads reads' (Err (Missing place)) before after = ⊥
ReadsOnce reads reads' (Err (Illegal place)) before after = ⊥

-- why an audit ends at a line that isn't taken
abbrev pub end_of : LineFault → ℕ → AuditEnd
end_of Refused n = BadLine n
end_of LineNoMemory n = NoMemory

-- An audit ends within these octets: at a line that is the first that is bad, whatever follows them, or without memory.
abbrev pub StopsWithin : List ℕ → AuditEnd → Type 0
StopsWithin o (BadLine n) = IsBadAnyhow n o
StopsWithin o NoMemory = ⊤
StopsWithin o (Legal entries) = ⊥
StopsWithin o (Hubs lines) = ⊥
StopsWithin o (Twice place) = ⊥
StopsWithin o (Missing place) = ⊥
StopsWithin o (Illegal place) = ⊥
StopsWithin o ReadFault = ⊥

-- An audit ends at the last line of these octets, which is the first that is bad, or without memory.
abbrev pub StopsAtEnd : List ℕ → AuditEnd → Type 0
StopsAtEnd o (BadLine n) = IsFirstBad n o
StopsAtEnd o NoMemory = ⊤
StopsAtEnd o (Legal entries) = ⊥
StopsAtEnd o (Hubs lines) = ⊥
StopsAtEnd o (Twice place) = ⊥
StopsAtEnd o (Missing place) = ⊥
StopsAtEnd o (Illegal place) = ⊥
StopsAtEnd o ReadFault = ⊥
