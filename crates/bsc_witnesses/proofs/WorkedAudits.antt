-- Runs of the command `audit`, written out: of a journal of a hub that made no entry, and of one for which memory runs out.
-- No clause needs it: worked examples.
use Rattle.std.proofs.Common.{◌≡◌, ℕ, ⊎_elim, inl, inr, List, [], ◌++◌, Option, Some, refl, lit≤}
use Rattle.std.specs.Prelude.{codes}
use Rattle.std.specs.Io.KnownBytes.{Appends}
use Rattle.uuid.proofs.OnLiterals.{uuid_on_literals}
use Rattle.bsc_history.proofs.OnLiterals.{history_on_literals}
use Rattle.bsc_script.proofs.OnLiterals.{script_on_literals}
use Rattle.bsc_outside.specs.Faults.{PutsPrefix}
use Rattle.bsc_player.specs.LastLines.{EndsWith, RanOut, memory_line, read_line, script_line}
use Rattle.bsc_journal.specs.Journals.{Audited, Tells}
use Rattle.bsc_journal.specs.Saying.{IsHubLine}
use Rattle.bsc_journal.proofs.WorkedPieces.{the_hub, hub_line}
use Rattle.bsc_audit.specs.declared.audit_end.AuditEnd.{AuditEnd}
use Rattle.bsc_audit.specs.declared.audit_end.AuditEnd.TheVariants.{Legal, BadLine, Hubs, Twice, Missing, Illegal, ReadFault, NoMemory}
use Rattle.bsc_audit.proofs.Believed.{believed}
use Rattle.bsc_audit_command.specs.Audits.{RunsAudit}
use Rattle.bsc_audit_command.specs.Lines.{Ends, SaysAudit, word_line}
use Rattle.bsc_witnesses.proofs.Pieces.{unlike}

-- A device was denied, and no entry was made. The last line may have no end.
abbrev journal : List ℕ
journal = codes "deny 0 connect 02000000000D\n" ++ hub_line

hub_says : IsHubLine hub_line the_hub
unfolding script_on_literals uuid_on_literals
hub_says = record { line = refl; words = refl }

tells : Tells journal the_hub []
tells = record {
  hub_line = hub_line;
  hub = hub_says;
  entries = tt;
  lines = record { moves = []; below = tt; is = refl };
}

audited : Audited journal 0
unfolding history_on_literals
audited = record { within = refl; about = the_hub; history = []; tells = tells; count = refl; legal = record { lawful = tt } }

legal : RunsAudit journal (Some []) 0 (Some []) (Some (word_line (codes "legal") 0))
legal = record {
  end = Legal 0;
  answers = record { comes = audited; read = refl };
  legal = λ entries is. believed (Legal 0) journal entries (Some []) (record { comes = audited; read = refl }) is;
  says = inl (inl (refl, refl));
}

runs_out : RunsAudit journal (Some journal) 7 (Some []) (Some memory_line)
runs_out = record { end = NoMemory; answers = tt; legal = λ entries is. inr (inr refl); says = (refl, (13, lit≤ tt, refl)) }

-- No run has the status 5.
not_ends : (wanted : ℕ) (before after : Option (List ℕ)) (line : List ℕ) → (5 ≡ wanted → ⊥) → EndsWith 5 wanted before after line → ⊥
not_ends wanted before after line other h =
    ⊎_elim
    (λ (x : (5 ≡ wanted) × Appends before after line). other x.0)
    (λ (y : (◌≡◌ {A = ℕ} 5 4) × PutsPrefix before after line). unlike 5 4 refl y.0)
    h

not_said : (wanted : ℕ) (before after : Option (List ℕ)) (line : List ℕ) → (5 ≡ wanted → ⊥) → Ends 5 wanted before after line → ⊥
not_said wanted before after line other h =
    ⊎_elim
    (λ (x : EndsWith 5 wanted before after line). not_ends wanted before after line other x)
    (λ (y : RanOut 5 before after). unlike 5 7 refl y.0)
    h

no_answer : (end : AuditEnd) (before after : Option (List ℕ)) → SaysAudit end 5 before after → ⊥
no_answer (Legal n) before after h = not_said 0 before after (word_line (codes "legal") n) (unlike 5 0 refl) h
no_answer (Hubs n) before after h = not_said 10 before after (word_line (codes "hubs") n) (unlike 5 10 refl) h
no_answer (Twice n) before after h = not_said 10 before after (word_line (codes "twice") n) (unlike 5 10 refl) h
no_answer (Missing n) before after h = not_said 10 before after (word_line (codes "missing") n) (unlike 5 10 refl) h
no_answer (Illegal n) before after h = not_said 10 before after (word_line (codes "illegal") n) (unlike 5 10 refl) h
no_answer (BadLine n) before after h = not_said 2 before after (script_line n) (unlike 5 2 refl) h
no_answer ReadFault before after h = not_ends 3 before after read_line (unlike 5 3 refl) h
no_answer NoMemory before after h = unlike 5 7 refl h.0

not_5 : (o : List ℕ) (left before after : Option (List ℕ)) → RunsAudit o left 5 before after → ⊥
not_5 o left before after x = no_answer x.end before after x.says
