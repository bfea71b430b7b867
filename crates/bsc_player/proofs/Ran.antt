-- How a run ends whose input was played.
-- It serves the clauses of `out_of_memory`.
use Rattle.std.proofs.Common.{◌≡◌, ℕ, ◌⊎◌, inl, inr, ⊎_elim, List, [], ◌++◌, take, drop, refl, ap, sym, ◌∙◌, subst, append-nil, arith, Option, Some, None, Result, Ok, Err}
use Rattle.std.proofs.lemmas.List.{take-append-drop}
use Rattle.std.specs.Prelude.{⊤, OnOk, OnErr}
use Rattle.std.specs.List.{concat}
use Rattle.std.specs.Io.KnownBytes.{Appends}
use Rattle.bsc_text.specs.Gave.{OfReads}
use Rattle.bsc_outside.specs.Faults.{HasRisen, PutsPrefix}
use Rattle.bsc_outside.specs.declared.stream.Failed.{Failed}
use Rattle.bsc_player.specs.declared.play_end.PlayEnd.{PlayEnd}
use Rattle.bsc_player.specs.declared.play_end.PlayEnd.TheVariants.{Done, BadLine, ReadFault, WriteFault, NoMemory}
use Rattle.bsc_player.specs.Playing.{Played}
use Rattle.bsc_player.specs.Ends.{PlaysOut, WritesAll, WritesTo, WritesWhole, WritesSome, whole_lines, lines_read}
use Rattle.bsc_player.specs.LastLines.{script_line, read_line, memory_line, EndsWith, RanOut, EndsTo}
use Rattle.bsc_player.specs.Statuses.{IsMishap, RefusesSome, StopsReading, BreaksOff, RunsOut, StatusTells}
use Rattle.bsc_lemmas.proofs.Lists.{appends_to as appended}
use Rattle.bsc_outside.proofs.Common.{puts_all}

-- a write that was tried
pub tried : (before after : Option (List ℕ)) (octets : List ℕ) (answer : Result ⊤ Failed) → OnOk answer (Appends before after octets) → OnErr answer (PutsPrefix before after octets)
    → PutsPrefix before after octets
tried before after octets (Ok done) ok err = puts_all before after octets ok
tried before after octets (Err failed) ok err = err

-- What a status says of the input o, where t was held before.
pub data Told (p : List ℕ → Played) (status : ℕ) (o t : List ℕ) (left held : Option (List ℕ)) (faults faults' : ℕ) : Type 0 where
  told_done : status ≡ 0 → WritesAll p o t left held → Told p status o t left held faults faults'
  told_refused : status ≡ 2 → RefusesSome p o t left held → Told p status o t left held faults faults'
  told_stopped : status ≡ 3 → StopsReading p o t left held → Told p status o t left held faults faults'
  told_broken : status ≡ 4 → BreaksOff p o t left held faults faults' → Told p status o t left held faults faults'
  told_ran_out : status ≡ 7 → RunsOut p o t left held → Told p status o t left held faults faults'

module _ (p : List ℕ → Played) (status : ℕ) (o t : List ℕ) (left mid held : Option (List ℕ)) (faults faults' : ℕ) where
  -- the input was refused at line n
  ends_refused : (n : ℕ) → WritesTo p n o t left mid → EndsWith status 2 mid held (script_line n) ⊎ RanOut status mid held → Told p status o t left held faults faults'
  ends_refused n r ends = ⊎_elim
      (λ (e : EndsWith status 2 mid held (script_line n)). ⊎_elim
      (λ (h : (status ≡ 2) × Appends mid held (script_line n)). told_refused h.0 (
        n,
        record {
          refused = r.refused;
          written = appended mid held (t ++ (p o).text) (script_line n) r.written h.1;
          taken = r.taken;
          decided = r.decided;
        },
      ))
      (λ (h : (status ≡ 4) × PutsPrefix mid held (script_line n)). told_broken h.0 (inr (inl (record {
        line = n;
        refused = r.refused;
        written = subst (λ (m : Option (List ℕ)). PutsPrefix m held (script_line n)) r.written h.1;
      }))))
      e)
      (λ (e : RanOut status mid held). told_ran_out e.0 (record {
        taken = r.taken;
        text = (p o).text;
        more = [];
        first = r.in_time ∙ sym (append-nil (p o).text);
        written = subst (λ (m : Option (List ℕ)). PutsPrefix m held memory_line) r.written e.1;
      }))
      ends

  -- a read failed
  ends_stopped : HasRisen faults faults' → WritesWhole p o t left mid → EndsWith status 3 mid held read_line → Told p status o t left held faults faults'
  ends_stopped rose r ends = ⊎_elim
      (λ (h : (status ≡ 3) × Appends mid held read_line). told_stopped h.0 (record {
        taken = r.taken;
        accepted = r.accepted;
        written = appended mid held (t ++ (p (whole_lines r.taken.read)).text) read_line r.written h.1;
      }))
      (λ (h : (status ≡ 4) × PutsPrefix mid held read_line). told_broken h.0 (inr (inr (record {
        failed = rose;
        taken = r.taken;
        accepted = r.accepted;
        written = subst (λ (m : Option (List ℕ)). PutsPrefix m held read_line) r.written h.1;
      }))))
      ends

  front_of : (before : Option (List ℕ)) (text : List ℕ) → PutsPrefix (Some t) before text → (n : ℕ) × (before ≡ Some (t ++ take n text))
  front_of None text h = absurd h.2
  front_of (Some x) text h = (h.0, ap Some h.2)

  -- memory ran out
  ends_out : WritesSome p o t left mid → RanOut status mid held → Told p status o t left held faults faults'
  ends_out r ends =
      let all = (p (lines_read r.taken.read r.taken.rest)).text in
      let front = front_of mid all r.written in
      told_ran_out ends.0 (record {
        taken = r.taken;
        text = take front.0 all;
        more = drop front.0 all;
        first = sym (take-append-drop front.0 all);
        written = subst (λ (m : Option (List ℕ)). PutsPrefix m held memory_line) front.1 ends.1;
      })

  told : (end : PlayEnd) → (end ≡ ReadFault → HasRisen faults faults') → PlaysOut p end o t left mid → EndsTo end status mid held → Told p status o t left held faults faults'
  told Done rose r ends = told_done ends.0 (subst (WritesAll p o t left) (sym ends.1) r)
  told (BadLine n) rose r ends = ends_refused n r ends
  told ReadFault rose r ends = ends_stopped (rose refl) r ends
  told WriteFault rose r ends = told_broken ends.0 (inl (subst (WritesSome p o t left) (sym ends.1) r))
  told NoMemory rose r ends = ends_out r ends

module _ (p : List ℕ → Played) (status : ℕ) (o t : List ℕ) (left held : Option (List ℕ)) (faults faults' : ℕ) where
  done_of : Told p status o t left held faults faults' → status ≡ 0 → WritesAll p o t left held
  done_of (told_done is w) h = w
  done_of (told_refused is w) h = absurd (omega arith)
  done_of (told_stopped is w) h = absurd (omega arith)
  done_of (told_broken is w) h = absurd (omega arith)
  done_of (told_ran_out is w) h = absurd (omega arith)

  refused_of : Told p status o t left held faults faults' → status ≡ 2 → RefusesSome p o t left held
  refused_of (told_done is w) h = absurd (omega arith)
  refused_of (told_refused is w) h = w
  refused_of (told_stopped is w) h = absurd (omega arith)
  refused_of (told_broken is w) h = absurd (omega arith)
  refused_of (told_ran_out is w) h = absurd (omega arith)

  stopped_of : Told p status o t left held faults faults' → status ≡ 3 → StopsReading p o t left held
  stopped_of (told_done is w) h = absurd (omega arith)
  stopped_of (told_refused is w) h = absurd (omega arith)
  stopped_of (told_stopped is w) h = w
  stopped_of (told_broken is w) h = absurd (omega arith)
  stopped_of (told_ran_out is w) h = absurd (omega arith)

  broken_of : Told p status o t left held faults faults' → status ≡ 4 → BreaksOff p o t left held faults faults'
  broken_of (told_done is w) h = absurd (omega arith)
  broken_of (told_refused is w) h = absurd (omega arith)
  broken_of (told_stopped is w) h = absurd (omega arith)
  broken_of (told_broken is w) h = w
  broken_of (told_ran_out is w) h = absurd (omega arith)

  ran_out_of : Told p status o t left held faults faults' → status ≡ 7 → RunsOut p o t left held
  ran_out_of (told_done is w) h = absurd (omega arith)
  ran_out_of (told_refused is w) h = absurd (omega arith)
  ran_out_of (told_stopped is w) h = absurd (omega arith)
  ran_out_of (told_broken is w) h = absurd (omega arith)
  ran_out_of (told_ran_out is w) h = w

  -- an input with a refused line
  refuses_of : Told p status o t left held faults faults' → (n : ℕ) → (p o).refused ≡ Some n → (status ≡ 2) ⊎ IsMishap status
  refuses_of (told_done is w) n h = absurd (let none = w.accepted in cc)
  refuses_of (told_refused is w) n h = inl is
  refuses_of (told_stopped is w) n h = inr (inl is)
  refuses_of (told_broken is w) n h = inr (inr (inl is))
  refuses_of (told_ran_out is w) n h = inr (inr (inr is))

  -- and one without
  accepts_of : Told p status o t left held faults faults' → (p o).refused ≡ None → (status ≡ 0) ⊎ IsMishap status
  accepts_of (told_done is w) h = inl is
  accepts_of (told_refused is w) h = absurd (let some = w.1.refused in cc)
  accepts_of (told_stopped is w) h = inr (inl is)
  accepts_of (told_broken is w) h = inr (inr (inl is))
  accepts_of (told_ran_out is w) h = inr (inr (inr is))

  -- what the status says, whichever it is
  tells_of : Told p status o t left held faults faults' → StatusTells p status o t left held faults faults'
  tells_of it = record {
    done = done_of it;
    refused = refused_of it;
    stopped = stopped_of it;
    broken = broken_of it;
    ran_out = ran_out_of it;
    refuses = refuses_of it;
    accepts = accepts_of it;
  }

-- what the status says of an input that was played to this end, after the last line
pub tells : (p : List ℕ → Played) (status : ℕ) (o t : List ℕ) (left mid held : Option (List ℕ)) (faults faults' : ℕ) (end : PlayEnd)
    → (end ≡ ReadFault → HasRisen faults faults') → PlaysOut p end o t left mid → EndsTo end status mid held
    → StatusTells p status o t left held faults faults'
tells p status o t left mid held faults faults' end rose played ends =
    tells_of p status o t left held faults faults' (told p status o t left mid held faults faults' end rose played ends)

-- the same of what the reads gave
pub tells_of_reads : (p : List ℕ → Played) (status : ℕ) (t : List ℕ) (reads reads' : Option (List (List ℕ))) (mid held : Option (List ℕ)) (faults faults' : ℕ) (end : PlayEnd)
    → (end ≡ ReadFault → HasRisen faults faults') → OfReads reads reads' (λ o rest. PlaysOut p end o t (Some rest) mid) → EndsTo end status mid held
    → OfReads reads reads' (λ o rest. StatusTells p status o t (Some rest) held faults faults')
tells_of_reads p status t reads reads' mid held faults faults' end rose played ends =
    (played.0, played.1, λ rest may. tells p status (concat played.0 ++ rest) t (Some rest) mid held faults faults' end rose (played.2 rest may) ends)
