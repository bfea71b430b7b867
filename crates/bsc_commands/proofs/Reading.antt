-- What was read of words, and what stands where memory ran out before anything was.
-- It serves the clauses of `run`.
use Rattle.std.proofs.Common.{◌≡◌, ℕ, List, [], Option, Some, None, Result, Ok, IfOk, inr, refl, subst, sym, ◌∙◌, append-nil, arith}
use Rattle.bsc_text.specs.Gave.{OfReads}
use Rattle.bsc_text.proofs.Taking.{gave_nothing}
use Rattle.bsc_outside.specs.Faults.{PutsPrefix}
use Rattle.bsc_player.specs.declared.play_end.PlayEnd.TheVariants as play_end
use Rattle.bsc_load.specs.declared.bounds.TheConstants.{WORKERS as LOAD_WORKERS}
use Rattle.bsc_cli.specs.declared.asked.Asked.{Asked}
use Rattle.bsc_cli.specs.declared.bounds.TheConstants.{WORKERS}
use Rattle.bsc_cli.specs.declared.fault.WordsFault.{WordsFault}
use Rattle.bsc_cli.specs.declared.fault.WordsFault.TheVariants.{Refused, NoMemory}
use Rattle.bsc_cli.specs.Words.{AskedOf, seen}
use Rattle.bsc_player.specs.Playing.{Played}
use Rattle.bsc_player.specs.LastLines.{RanOut}
use Rattle.bsc_player.specs.Statuses.{StatusTells}
use Rattle.bsc_player.specs.Ends.{lines_read}
use Rattle.bsc_player.proofs.Ran.{tells}
use Rattle.bsc_audit.specs.declared.audit_end.AuditEnd.TheVariants as audit_end
use Rattle.bsc_audit_command.specs.Audits.{RunsAudit}

-- words that ask for something don't ask for nothing
pub asks : (read : Option AskedOf) (a : AskedOf) → read ≡ Some a → read ≡ None → ⊥
asks read a is none = let both : Some a ≡ None = sym is ∙ none in cc

-- What was read is what the words ask for.
pub is_read : (read : Option AskedOf) (answer : Result Asked WordsFault) (a : Asked) → answer ≡ Ok a → IfOk answer (λ x. read ≡ Some (seen x)) → read ≡ Some (seen a)
is_read read answer a is ok = subst (λ (r : Result Asked WordsFault). IfOk r (λ x. read ≡ Some (seen x))) is ok

-- and it is nothing else
pub is_asked : (read : Option AskedOf) (answer : Result Asked WordsFault) (a : Asked) (b : AskedOf) → answer ≡ Ok a → IfOk answer (λ x. read ≡ Some (seen x)) → read ≡ Some b
    → seen a ≡ b
is_asked read answer a b is ok named = let both : Some (seen a) ≡ Some b = sym (is_read read answer a is ok) ∙ named in cc

-- where words weren't read that ask for something, memory ran out
pub ran_out : (fault : WordsFault) (read : Option AskedOf) (a : AskedOf) (s : ℕ) (b b' : Option (List ℕ)) → (fault ≡ Refused → read ≡ None) → (fault ≡ NoMemory → RanOut s b b')
    → read ≡ Some a → RanOut s b b'
ran_out Refused read a s b b' none ran is = absurd (asks read a is (none refl))
ran_out NoMemory read a s b b' none ran is = ran refl

-- Words may ask for as many workers as a workload has at most, and for no more.
pub as_many : WORKERS ≡ LOAD_WORKERS
as_many = refl

-- ---- memory ran out before the input was read

nothing : (before : Option (List ℕ)) (t text : List ℕ) → before ≡ Some t → PutsPrefix (Some t) before text
nothing before t text held = subst (λ (x : Option (List ℕ)). PutsPrefix (Some t) x text) (sym held) (0, omega arith, sym (append-nil t))

module _ (p : List ℕ → Played) (s : ℕ) (o t : List ℕ) (left before after : Option (List ℕ)) (f f' : ℕ) where
  pub unread : left ≡ Some o → before ≡ Some t → RanOut s before after → StatusTells p s o t left after f f'
  unread is held ran =
      tells p s o t left before after f f' play_end.NoMemory (λ h. cc)
      (record { taken = record { read = []; rest = o; parts = refl; remains = is }; written = nothing before t (p (lines_read [] o)).text held })
      ran

pub unread_of_reads : (p : List ℕ → Played) (s : ℕ) (t : List ℕ) (reads : Option (List (List ℕ))) (before after : Option (List ℕ)) (f f' : ℕ)
    → before ≡ Some t → RanOut s before after → OfReads reads reads (λ o rest. StatusTells p s o t (Some rest) after f f')
unread_of_reads p s t reads before after f f' held ran = ([], gave_nothing reads, λ rest may. unread p s rest t (Some rest) before after f f' refl held ran)

-- and before the journals were
pub unaudited : (s : ℕ) (o : List ℕ) (left before after : Option (List ℕ)) → RanOut s before after → RunsAudit o left s before after
unaudited s o left before after ran = record { end = audit_end.NoMemory; answers = tt; legal = λ n audited. inr (inr refl); says = ran }

pub unaudited_of_reads : (s : ℕ) (reads : Option (List (List ℕ))) (before after : Option (List ℕ)) → RanOut s before after
    → OfReads reads reads (λ o rest. RunsAudit o (Some rest) s before after)
unaudited_of_reads s reads before after ran = ([], gave_nothing reads, λ rest may. unaudited s rest (Some rest) before after ran)
