-- What a run comes to that plays an input, by its status. The words speak of what each input comes to, p, and of no
-- language.
use Rattle.std.specs.Prelude.{◌≡◌, ℕ, ◌⊎◌, List, ◌++◌, Option, Some, None}
use Rattle.bsc_outside.specs.Faults.{HasRisen, PutsPrefix}
use Rattle.bsc_text.specs.Gave.{OfReads}
use Rattle.bsc_player.specs.Playing.{Played}
use Rattle.bsc_player.specs.Ends.{Taken, whole_lines, lines_read, AcceptsLines, Decides, WritesAll, WritesSome}
use Rattle.bsc_player.specs.LastLines.{script_line, read_line, memory_line}

-- the statuses that a run may have
abbrev pub IsStatus : ℕ → Type 0
IsStatus n = (n ≡ 0) ⊎ (n ≡ 1) ⊎ (n ≡ 2) ⊎ (n ≡ 3) ⊎ (n ≡ 4) ⊎ (n ≡ 7)

-- the statuses of what may come over any input: a read or a write failed, or memory ran out
abbrev pub IsMishap : ℕ → Type 0
IsMishap n = (n ≡ 3) ⊎ (n ≡ 4) ⊎ (n ≡ 7)

-- Line n of the input o is the first that is refused, as what was read decides; the text of the lines before it, and
-- then the last line with its number, were written after t.
pub record RefusesLine (p : List ℕ → Played) (n : ℕ) (o t : List ℕ)
    (left held : Option (List ℕ)) : Type 0 where
  pub refused : (p o).refused ≡ Some n
  pub written : held ≡ Some (t ++ (p o).text ++ script_line n)
  pub taken : Taken o left
  pub decided : Decides p n taken.read taken.rest

-- Some line of the input is refused.
abbrev pub RefusesSome : (List ℕ → Played) → List ℕ → List ℕ → Option (List ℕ) → Option (List ℕ) → Type 0
RefusesSome p o t left held = (n : ℕ) × RefusesLine p n o t left held

-- A read failed: the text of the whole lines that were read, none of which is refused, and then the last line, were
-- written after t.
pub record StopsReading (p : List ℕ → Played) (o t : List ℕ) (left held : Option (List ℕ)) : Type 0 where
  pub taken : Taken o left
  pub accepted : AcceptsLines p (whole_lines taken.read)
  pub written : held ≡ Some (t ++ (p (whole_lines taken.read)).text ++ read_line)

-- Line n is the first that is refused; the text of the lines before it, and then a first part of the last line, were
-- written after t.
pub record RefusesInPart (p : List ℕ → Played) (o t : List ℕ) (held : Option (List ℕ)) : Type 0 where
  pub line : ℕ
  pub refused : (p o).refused ≡ Some line
  pub written : PutsPrefix (Some (t ++ (p o).text)) held (script_line line)

-- A read failed, as the count of such faults shows; the text of the whole lines that were read, and then a first part
-- of the last line, were written after t.
pub record StopsInPart (p : List ℕ → Played) (o t : List ℕ) (left held : Option (List ℕ))
    (faults faults' : ℕ) : Type 0 where
  pub failed : HasRisen faults faults'
  pub taken : Taken o left
  pub accepted : AcceptsLines p (whole_lines taken.read)
  pub written : PutsPrefix (Some (t ++ (p (whole_lines taken.read)).text)) held read_line

-- A write failed: within the text of the lines that were read, or after it within the last line of an input that is
-- refused or of a read that failed.
abbrev pub BreaksOff :
    (List ℕ → Played) → List ℕ → List ℕ → Option (List ℕ) → Option (List ℕ) → ℕ → ℕ → Type 0
BreaksOff p o t left held faults faults' =
    WritesSome p o t left held ⊎ RefusesInPart p o t held ⊎ StopsInPart p o t left held faults faults'

-- Memory ran out: a first part of the text of the lines that were read, and then the last line or a first part of it,
-- were written after t.
pub record RunsOut (p : List ℕ → Played) (o t : List ℕ) (left held : Option (List ℕ)) : Type 0 where
  pub taken : Taken o left
  pub text : List ℕ
  pub more : List ℕ
  pub first : (p (lines_read taken.read taken.rest)).text ≡ text ++ more
  pub written : PutsPrefix (Some (t ++ text)) held memory_line

-- What the status of a run says of the input o, where t was held before: under each status what was read and what was
-- written; and which status comes of an input with a refused line, and of one without.
pub record StatusTells (p : List ℕ → Played) (status : ℕ) (o t : List ℕ) (left held : Option (List ℕ))
    (faults faults' : ℕ) : Type 0 where
  pub done : status ≡ 0 → WritesAll p o t left held
  pub refused : status ≡ 2 → RefusesSome p o t left held
  pub stopped : status ≡ 3 → StopsReading p o t left held
  pub broken : status ≡ 4 → BreaksOff p o t left held faults faults'
  pub ran_out : status ≡ 7 → RunsOut p o t left held
  pub refuses : (n : ℕ) → (p o).refused ≡ Some n → (status ≡ 2) ⊎ IsMishap status
  pub accepts : (p o).refused ≡ None → (status ≡ 0) ⊎ IsMishap status

-- What a command that plays its input has outside it at a moment: the octets that the source has left, and what was written, each
-- as far as it is told; and the source's count of faults.
pub record PlayWorld : Type 0 where
  pub left : Option (List ℕ)
  pub written : Option (List ℕ)
  pub faults : ℕ

-- that of a source and a sink, by what those of their types tell
abbrev pub play_world : {S K : Type 0} → (S → Option (List ℕ)) → (S → ℕ) → (K → Option (List ℕ)) → S → K → PlayWorld
play_world left faults held source sink = record { left = left source; written = held sink; faults = faults source }

-- What the status of a run says of its input, where the source told its octets before, and the sink what it held.
abbrev pub StatusSays : (List ℕ → Played) → PlayWorld → PlayWorld → ℕ → Type 0
StatusSays p before after status = (o t : List ℕ) → before.left ≡ Some o → before.written ≡ Some t
    → StatusTells p status o t after.left after.written before.faults after.faults

-- The same where the source may not tell what it has left: what its reads gave, and what was written, each as far as it
-- is told; and the source's count of faults.
pub record ReadWorld : Type 0 where
  pub reads : Option (List (List ℕ))
  pub written : Option (List ℕ)
  pub faults : ℕ

-- that of a source and a sink, by what those of their types tell
abbrev pub read_world : {S K : Type 0} → (S → Option (List (List ℕ))) → (S → ℕ) → (K → Option (List ℕ)) → S → K → ReadWorld
read_world reads faults held source sink = record { reads = reads source; written = held sink; faults = faults source }

-- What the status of a run says of what its reads gave and of whatever is left behind it, where the sink told before what
-- it held.
abbrev pub StatusSaysOfReads : (List ℕ → Played) → ReadWorld → ReadWorld → ℕ → Type 0
StatusSaysOfReads p before after status = (t : List ℕ) → before.written ≡ Some t
    → OfReads before.reads after.reads (λ o rest. StatusTells p status o t (Some rest) after.written before.faults after.faults)
