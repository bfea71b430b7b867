-- What a run writes of the words of a network tells what was sent.
-- It serves the clauses of `run`.
use Rattle.std.proofs.Common.{◌≡◌, ◌⊎◌, inl, inr, ℕ, List, ◌++◌, Option, Some, None, refl, sym, subst, append-nil, arith}
use Rattle.std.specs.List.{concat}
use Rattle.bsc_outside.specs.Faults.{PutsPrefix}
use Rattle.bsc_text.specs.Gave.{OfReads}
use Rattle.bsc_player.specs.Ends.{WritesAll, WritesSome, whole_lines, lines_read}
use Rattle.bsc_player.specs.LastLines.{script_line, read_line, memory_line}
use Rattle.bsc_player.specs.Statuses.{BreaksOff, IsMishap, RefusesInPart, RefusesSome, RunsOut, StatusTells, StopsInPart, StopsReading}
use Rattle.bsc_network_script.specs.Scripts.{simulate_of}
use Rattle.bsc_network_script_laws.proofs.Telling.{lines_of, tells_all, tells_part, tells_script, whole_of, writes_some}
use Rattle.bsc_commands.specs.Commands.{WritesWhatWasSent}
use Rattle.bsc_outside.proofs.Common.{puts_all}

-- nothing of a line was written
puts_none : (before : List ℕ) (line : List ℕ) → PutsPrefix (Some before) (Some before) line
puts_none before line = (0, omega arith, sym (append-nil before))

-- a line was written in whole
puts_line : (t text line : List ℕ) (held : Option (List ℕ)) → held ≡ Some (t ++ text ++ line) → PutsPrefix (Some (t ++ text)) held line
puts_line t text line held is =
    subst (λ (h : Option (List ℕ)). PutsPrefix (Some (t ++ text)) h line) (sym is)
    (puts_all (Some (t ++ text)) (Some (t ++ text ++ line)) line refl)

module _ (status : ℕ) (o t : List ℕ) (left held : Option (List ℕ)) (f f' : ℕ) where
  of_all : WritesAll simulate_of o t left held → WritesWhatWasSent o t held
  of_all w = record {
    text = (simulate_of o).text;
    tells = tells_script o;
    last = memory_line;
    is_last = inr (inr refl);
    written = subst (λ (h : Option (List ℕ)). PutsPrefix (Some (t ++ (simulate_of o).text)) h memory_line) (sym w.written) (puts_none (t ++ (simulate_of o).text) memory_line);
  }

  of_refused : RefusesSome simulate_of o t left held → WritesWhatWasSent o t held
  of_refused w = record {
    text = (simulate_of o).text;
    tells = tells_script o;
    last = script_line w.0;
    is_last = inl (w.0, refl);
    written = puts_line t (simulate_of o).text (script_line w.0) held w.1.written;
  }

  of_stopped : StopsReading simulate_of o t left held → WritesWhatWasSent o t held
  of_stopped w = record {
    text = (simulate_of (whole_lines w.taken.read)).text;
    tells = tells_all o (whole_lines w.taken.read) (whole_of o left w.taken);
    last = read_line;
    is_last = inr (inl refl);
    written = puts_line t (simulate_of (whole_lines w.taken.read)).text read_line held w.written;
  }

  of_some : WritesSome simulate_of o t left held → WritesWhatWasSent o t held
  of_some w =
      let part = writes_some o t left held w in
      record {
        text = part.0;
        tells = part.2;
        last = memory_line;
        is_last = inr (inr refl);
        written = subst (λ (h : Option (List ℕ)). PutsPrefix (Some (t ++ part.0)) h memory_line) (sym part.1) (puts_none (t ++ part.0) memory_line);
      }

  of_refused_part : RefusesInPart simulate_of o t held → WritesWhatWasSent o t held
  of_refused_part w = record {
    text = (simulate_of o).text;
    tells = tells_script o;
    last = script_line w.line;
    is_last = inl (w.line, refl);
    written = w.written;
  }

  of_stopped_part : StopsInPart simulate_of o t left held f f' → WritesWhatWasSent o t held
  of_stopped_part w = record {
    text = (simulate_of (whole_lines w.taken.read)).text;
    tells = tells_all o (whole_lines w.taken.read) (whole_of o left w.taken);
    last = read_line;
    is_last = inr (inl refl);
    written = w.written;
  }

  of_broken : BreaksOff simulate_of o t left held f f' → WritesWhatWasSent o t held
  of_broken (inl w) = of_some w
  of_broken (inr (inl w)) = of_refused_part w
  of_broken (inr (inr w)) = of_stopped_part w

  of_out : RunsOut simulate_of o t left held → WritesWhatWasSent o t held
  of_out w = record {
    text = w.text;
    tells = tells_part o (lines_read w.taken.read w.taken.rest) w.text w.more (lines_of o left w.taken) w.first;
    last = memory_line;
    is_last = inr (inr refl);
    written = w.written;
  }

  of_mishap : StatusTells simulate_of status o t left held f f' → IsMishap status → WritesWhatWasSent o t held
  of_mishap s (inl e) = of_stopped (s.stopped e)
  of_mishap s (inr (inl e)) = of_broken (s.broken e)
  of_mishap s (inr (inr e)) = of_out (s.ran_out e)

  pub writes_what_was_sent : StatusTells simulate_of status o t left held f f' → WritesWhatWasSent o t held
  writes_what_was_sent s = by (simulate_of o).refused refl
    where
      well : (status ≡ 0) ⊎ IsMishap status → WritesWhatWasSent o t held
      well (inl e) = of_all (s.done e)
      well (inr e) = of_mishap s e

      badly : (status ≡ 2) ⊎ IsMishap status → WritesWhatWasSent o t held
      badly (inl e) = of_refused (s.refused e)
      badly (inr e) = of_mishap s e

      by : (a : Option ℕ) → (simulate_of o).refused ≡ a → WritesWhatWasSent o t held
      by None e = well (s.accepts e)
      by (Some n) e = badly (s.refuses n e)

-- the same of what the reads gave
pub reads_write_what_was_sent : (status : ℕ) (t : List ℕ) (reads reads' : Option (List (List ℕ))) (held : Option (List ℕ)) (f f' : ℕ)
    → OfReads reads reads' (λ o rest. StatusTells simulate_of status o t (Some rest) held f f') → OfReads reads reads' (λ o rest. WritesWhatWasSent o t held)
reads_write_what_was_sent status t reads reads' held f f' told =
    (told.0, told.1, λ rest may. writes_what_was_sent status (concat told.0 ++ rest) t (Some rest) held f f' (told.2 rest may))
