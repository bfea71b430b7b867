-- What the command writes of each answer, and its status.
use Rattle.std.specs.Prelude.{ℕ, ◌⊎◌, List, ◌++◌, codes, decimal, Option}
use Rattle.bsc_player.specs.LastLines.{EndsWith, RanOut, read_line, script_line}
use Rattle.bsc_audit.specs.declared.audit_end.AuditEnd.{AuditEnd}
use Rattle.bsc_audit.specs.declared.audit_end.AuditEnd.TheVariants.{Legal, BadLine, Hubs, Twice, Missing, Illegal, ReadFault, NoMemory}

-- a word and a number
abbrev pub word_line : List ℕ → ℕ → List ℕ
word_line word n = word ++ codes " " ++ decimal n ++ codes "\n"

-- A line with its status was written, or memory ran out.
abbrev pub Ends : ℕ → ℕ → Option (List ℕ) → Option (List ℕ) → List ℕ → Type 0
Ends result status before after line = EndsWith result status before after line ⊎ RanOut result before after

-- What is written of an answer, and its status.
abbrev pub SaysAudit : AuditEnd → ℕ → Option (List ℕ) → Option (List ℕ) → Type 0
SaysAudit (Legal entries) s before after = Ends s 0 before after (word_line (codes "legal") entries)
SaysAudit (Hubs lines) s before after = Ends s 10 before after (word_line (codes "hubs") lines)
SaysAudit (Twice place) s before after = Ends s 10 before after (word_line (codes "twice") place)
SaysAudit (Missing place) s before after = Ends s 10 before after (word_line (codes "missing") place)
SaysAudit (Illegal place) s before after = Ends s 10 before after (word_line (codes "illegal") place)
SaysAudit (BadLine line) s before after = Ends s 2 before after (script_line line)
SaysAudit ReadFault s before after = EndsWith s 3 before after read_line
SaysAudit NoMemory s before after = RanOut s before after
