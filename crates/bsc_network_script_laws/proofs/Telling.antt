-- What is written of a script tells what was sent.
-- It serves bsc_commands and bsc_simulate.
use Rattle.std.proofs.Common.{◌≡◌, ℕ, Bool, true, false, if◌then◌else◌, List, [], ◌∷◌, ◌++◌, take, drop, Option, Some, None, refl, ap, sym, ◌∙◌, append-nil, append_assoc}
use Rattle.std.proofs.lemmas.List.{take-append-drop}
use Rattle.bsc_text.specs.Lines.{has_no_lf}
use Rattle.bsc_outside.specs.Faults.{PutsPrefix}
use Rattle.bsc_player.specs.declared.play_end.PlayEnd.{PlayEnd}
use Rattle.bsc_player.specs.declared.play_end.PlayEnd.TheVariants.{Done, BadLine, ReadFault, WriteFault, NoMemory}
use Rattle.bsc_player.specs.Ends.{PlaysOut, Taken, WritesSome, whole_lines, lines_read}
use Rattle.bsc_network_script.specs.Scripts.{simulate_of}
use Rattle.bsc_network_script_laws.specs.Laws.{TellsWhatWasSent}
use Rattle.bsc_network_script_laws.proofs.Lawful.{delivers_its_sends}
use Rattle.bsc_network_script_laws.proofs.Stepping.{is_of_its_steps}

-- ---- first parts of what was read

-- one list begins with another
abbrev pub Begins : List ℕ → List ℕ → Type 0
Begins o front = (rest : List ℕ) × (o ≡ front ++ rest)

whole_front : (o : List ℕ) → Begins o (whole_lines o)
whole_front [] = ([], refl)
whole_front (c ∷ o) = by (has_no_lf (c ∷ o)) (whole_front o)
  where
    by : (b : Bool) → Begins o (whole_lines o) → Begins (c ∷ o) (if b then [] else c ∷ whole_lines o)
    by true h = (c ∷ o, refl)
    by false h = (h.0, ap (λ x. c ∷ x) h.1)

lines_front : (read rest : List ℕ) → Begins read (lines_read read rest)
lines_front read [] = ([], sym (append-nil read))
lines_front read (c ∷ rest) = whole_front read

-- a first part of what was read is one of the input
of_input : (o : List ℕ) (left : Option (List ℕ)) (taken : Taken o left) (front : List ℕ) → Begins taken.read front → Begins o front
of_input o left taken front h = (h.0 ++ taken.rest, taken.parts ∙ ap (λ x. x ++ taken.rest) h.1 ∙ append_assoc front h.0 taken.rest)

pub whole_of : (o : List ℕ) (left : Option (List ℕ)) (taken : Taken o left) → Begins o (whole_lines taken.read)
whole_of o left taken = of_input o left taken (whole_lines taken.read) (whole_front taken.read)

pub lines_of : (o : List ℕ) (left : Option (List ℕ)) (taken : Taken o left) → Begins o (lines_read taken.read taken.rest)
lines_of o left taken = of_input o left taken (lines_read taken.read taken.rest) (lines_front taken.read taken.rest)

-- ---- what is told

-- a first part of the text of such a script
pub tells_part : (o read text more : List ℕ) → Begins o read → (simulate_of read).text ≡ text ++ more → TellsWhatWasSent o text
tells_part o read text more part front = record {
  read = read;
  rest = part.0;
  parts = part.1;
  more = more;
  front = front;
  steps = is_of_its_steps read;
  sent = delivers_its_sends read;
}

-- the whole of it
pub tells_all : (o read : List ℕ) → Begins o read → TellsWhatWasSent o (simulate_of read).text
tells_all o read part = tells_part o read (simulate_of read).text [] part (sym (append-nil (simulate_of read).text))

-- of the script itself
pub tells_script : (o : List ℕ) → TellsWhatWasSent o (simulate_of o).text
tells_script o = tells_all o o ([], sym (append-nil o))

pub front_of : (t : List ℕ) (held : Option (List ℕ)) (text : List ℕ) → PutsPrefix (Some t) held text → (n : ℕ) × (held ≡ Some (t ++ take n text))
front_of t None text h = absurd h.2
front_of t (Some x) text h = (h.0, ap Some h.2)

-- ---- what was written

abbrev Writes : List ℕ → List ℕ → Option (List ℕ) → Type 0
Writes o t held = (text : List ℕ) × (held ≡ Some (t ++ text)) × TellsWhatWasSent o text

-- some part of it was written
pub writes_some : (o t : List ℕ) (left held : Option (List ℕ)) → WritesSome simulate_of o t left held → Writes o t held
writes_some o t left held w =
    let lines = lines_read w.taken.read w.taken.rest in
    let all = (simulate_of lines).text in
    let part = front_of t held all w.written in
    (take part.0 all, part.1, tells_part o lines (take part.0 all) (drop part.0 all) (lines_of o left w.taken) (sym (take-append-drop part.0 all)))

pub writes_what_was_sent : (o t : List ℕ) (left held : Option (List ℕ)) (end : PlayEnd) → PlaysOut simulate_of end o t left held → Writes o t held
writes_what_was_sent o t left held Done w = ((simulate_of o).text, w.written, tells_script o)
writes_what_was_sent o t left held (BadLine n) w = ((simulate_of o).text, w.written, tells_script o)
writes_what_was_sent o t left held ReadFault w = ((simulate_of (whole_lines w.taken.read)).text, w.written, tells_all o (whole_lines w.taken.read) (whole_of o left w.taken))
writes_what_was_sent o t left held WriteFault w = writes_some o t left held w
writes_what_was_sent o t left held NoMemory w = writes_some o t left held w
