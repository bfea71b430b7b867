-- One turn of a session: what is said on the link, which entries are made, where the session stands after it, and how it
-- stops.
use Rattle.std.specs.Prelude.{List, None, Option, Some, [], if◌then◌else◌, is_none, is_some, length, nat_lt, ℕ, ⊤, ◌&&◌, ◌++◌, ◌<◌, ◌∷◌, ◌≡◌}
use Rattle.bsc_history.specs.declared.entry.Entry.{Entry}
use Rattle.bsc_edge.specs.declared.said.Said.{Said}
use Rattle.bsc_session.specs.declared.bounds.TheConstants.{TAKES}
use Rattle.bsc_session.specs.declared.stop.Stop.{Stop}
use Rattle.bsc_session.specs.Answering.{IsHearing, after_hearing, entries_hearing, notes_hearing, said_hearing, stop_hearing}
use Rattle.bsc_session.specs.Notes.Notes.{Note}
use Rattle.bsc_session.specs.Puts.{puts}
use Rattle.bsc_session.specs.Reading.{ticked}
use Rattle.bsc_session.specs.Receiving.{Hearing}
use Rattle.bsc_session.specs.Standings.{Standing, Terms, is_connected}
use Rattle.bsc_session.specs.Stops.{first_of}
use Rattle.bsc_session.specs.Taking.{IsOpening, Opening, notes_opening, opened, put_first, stop_before, wait_in}

-- A turn. One that stops before the receive has no hearing.
pub record Turn : Type 0 where
  pub opening : Opening
  pub hearing : Option Hearing

abbrev pub reading_in : Terms → Standing → Turn → List ℕ
reading_in v s t = t.opening.reading ∷ []

-- The frames that a turn took from the outlet: a piece of what was received, whether the policy lets them through or not.
abbrev pub frames_in : Terms → Standing → Turn → List (List ℕ)
frames_in v s t = t.opening.frames

abbrev pub said_after : Terms → Standing → ℕ → ℕ → Option Hearing → List Said
said_after v s now wait None = []
said_after v s now wait (Some h) = said_hearing v s now wait h

-- What a turn says on the link: the puts before the receive, how long that waits and the thing given, the puts after it.
abbrev pub said_in : Terms → Standing → Turn → List Said
said_in v s t =
    puts (put_first v s t.opening) t.opening.fault ++ said_after v (opened s t.opening) t.opening.reading (wait_in t.opening) t.hearing

abbrev pub entries_after : Terms → Standing → ℕ → Option Hearing → List Entry
entries_after v s now None = []
entries_after v s now (Some h) = entries_hearing v s now h

-- The entries that a turn makes.
abbrev pub entries_in : Terms → Standing → Turn → List Entry
entries_in v s t = entries_after v (opened s t.opening) t.opening.reading t.hearing

abbrev pub notes_after : Terms → Standing → ℕ → Option Hearing → List Note
notes_after v s now None = []
notes_after v s now (Some h) = notes_hearing v s now h

-- What a turn notes in the journal: the denials of frames, then what the thing given comes to.
abbrev pub notes_in : Terms → Standing → Turn → List Note
notes_in v s t = notes_opening v s t.opening ++ notes_after v (opened s t.opening) t.opening.reading t.hearing

abbrev pub stands_after : Terms → Standing → ℕ → Option Hearing → Standing
stands_after v s now None = s
stands_after v s now (Some h) = after_hearing v s now h

-- Where the session stands after a turn.
abbrev pub after : Terms → Standing → Turn → Standing
after v s t = stands_after v (opened s t.opening) t.opening.reading t.hearing

abbrev pub stop_after : Terms → Standing → ℕ → Option Hearing → Option Stop
stop_after v s now None = None
stop_after v s now (Some h) = stop_hearing v s now h

-- How a turn stops the session, if it does.
abbrev pub stop_in : Terms → Standing → Turn → Option Stop
stop_in v s t = first_of (stop_before v s t.opening) (stop_after v (opened s t.opening) t.opening.reading t.hearing)

-- One for a turn in Connected that found the outbox empty: it took fewer frames than a turn takes, met no End,
-- and received.
abbrev pub empties_in : Terms → Standing → Turn → ℕ
empties_in v s t =
    if is_none t.opening.met && (is_some t.hearing && (is_connected (ticked s t.opening.reading) && nat_lt (length t.opening.frames) TAKES))
    then 1 else 0

abbrev pub IsHearingIf : Terms → Standing → ℕ → Option Hearing → Type 0
IsHearingIf v s now None = ⊤
IsHearingIf v s now (Some h) = IsHearing v s now h

-- A turn as it may be: none is made where the receives are spent, and there is a hearing exactly where the opening
-- doesn't stop the session.
pub record IsTurn (v : Terms) (s : Standing) (t : Turn) : Type 0 where
  pub room : s.receives < v.turns
  pub opening : IsOpening v s t.opening
  pub heard : is_some t.hearing ≡ is_none (stop_before v s t.opening)
  pub hearing : IsHearingIf v (opened s t.opening) t.opening.reading t.hearing
