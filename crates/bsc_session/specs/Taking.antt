-- The opening of a turn: its reading, the frames from the outlet, and the End that the outlet gives.
use Rattle.std.specs.Prelude.{Bool, List, None, Option, Some, [], ◌∷◌, false, is_none, length, map, nat_lt, not, true, ℕ, ◌&&◌, ◌+◌, ◌++◌, ◌≡◌, ◌≢◌, ◌≤◌, ◌⊎◌}
use Rattle.bsc_history.specs.declared.ending.End.{End}
use Rattle.bsc_history.specs.declared.ending.End.TheVariants.{Left}
use Rattle.bsc_edge.specs.declared.fault.LinkFault.{LinkFault}
use Rattle.bsc_accept.specs.declared.event.Event.TheVariants.{Ended}
use Rattle.bsc_accept.specs.declared.step.Step.{Step}
use Rattle.bsc_accept.specs.declared.step.Step.TheVariants.{Nothing}
use Rattle.bsc_session.specs.declared.bounds.TheConstants.{TAKES, WAIT_MS}
use Rattle.bsc_session.specs.declared.stop.Stop.{Stop}
use Rattle.bsc_session.specs.declared.why.Why.{Why}
use Rattle.bsc_session.specs.declared.why.Why.TheVariants.{EndedBy, Idle, WaitExpired}
use Rattle.bsc_session.specs.Guarding.{denials, let_through}
use Rattle.bsc_session.specs.Notes.Notes.{HasLine, Note, denied}
use Rattle.bsc_session.specs.Puts.{HasPut, octets_in}
use Rattle.bsc_session.specs.Reading.{ticked, wanted_at}
use Rattle.bsc_session.specs.Standings.{Standing, Terms, is_connected, told, wanted}
use Rattle.bsc_session.specs.Stops.{closes, closing_in, first_of, stop_if, stop_lost}

-- What comes before the receive: the reading, the frames that were taken from the outlet, the End that it gave, why the
-- line of the last frame wasn't put into the journal where it wasn't, and what the last put on the link answered where it
-- failed.
pub record Opening : Type 0 where
  pub reading : ℕ
  pub frames : List (List ℕ)
  pub met : Option End
  pub lost : Option LinkFault
  pub fault : Option LinkFault

-- what the machine wants done at an End, where one was met, and where the session then stands
abbrev pub end_step : Terms → Standing → ℕ → Option End → Step
end_step v s now None = Nothing
end_step v s now (Some e) = wanted v s (Ended now e)

abbrev pub end_told : Standing → ℕ → Option End → Standing
end_told s now None = s
end_told s now (Some e) = record (told s (Ended now e)) { ended = Some e }

-- Where the session stands after the opening.
abbrev pub opened : Standing → Opening → Standing
opened s o = end_told (ticked s o.reading) o.reading o.met

-- Of frames those that the policy lets through to the session's connection, and what is noted of the others.
abbrev pub passing : Terms → Standing → List (List ℕ) → List (List ℕ)
passing v s frames = let_through v.policy s.address frames

abbrev pub noted_of : Terms → Standing → List (List ℕ) → List Note
noted_of v s frames = map denied (denials v.policy s.address frames)

-- The octets that are put: the frames that are let through, then those of the machine's step at an End.
abbrev pub put_first : Terms → Standing → Opening → List (List ℕ)
put_first v s o = passing v s o.frames ++ octets_in (end_step v (ticked s o.reading) o.reading o.met)

-- What is noted in the journal: a denial for each other frame.
abbrev pub notes_opening : Terms → Standing → Opening → List Note
notes_opening v s o = noted_of v s o.frames

-- the last of frames, alone
abbrev pub last_alone : List (List ℕ) → List (List ℕ)
last_alone [] = []
last_alone (f ∷ []) = f ∷ []
last_alone (f ∷ (g ∷ fs)) = last_alone (g ∷ fs)

-- what is noted of the last frame, where no End was met after it
abbrev pub noted_last : Option End → List Note → List Note
noted_last None notes = notes
noted_last (Some e) notes = []

-- of the last frame, and of the octets of a step at an End, those that are put last: the octets where an End was met
abbrev pub last_of : List (List ℕ) → List (List ℕ) → Option End → List (List ℕ)
last_of frames octets None = frames
last_of frames octets (Some e) = octets

-- Those of the octets that are put of which a put may fail: a put that failed is the last, and no End is met after it.
abbrev pub put_last : Terms → Standing → Opening → List (List ℕ)
put_last v s o = last_of (passing v s (last_alone o.frames)) (octets_in (end_step v (ticked s o.reading) o.reading o.met)) o.met

-- a session that hasn't joined waits for its connect
abbrev pub waiting_for : Option ℕ → Why
waiting_for None = WaitExpired
waiting_for (Some c) = Idle

abbrev pub ended_by : Option End → Why
ended_by None = Idle
ended_by (Some e) = EndedBy e

-- How an opening stops the session: by its reading, by a lost line, by a fault of a put, by its End.
abbrev pub stop_before : Terms → Standing → Opening → Option Stop
stop_before v s o =
    first_of (closes (waiting_for s.conn) (closing_in (wanted_at v s o.reading)))
    (first_of (stop_lost o.lost)
    (first_of (stop_if o.fault)
    (closes (ended_by o.met) (closing_in (end_step v (ticked s o.reading) o.reading o.met)))))

-- one for an End
abbrev pub count_of : Option End → ℕ
count_of None = 0
count_of (Some e) = 1

-- ---- the wait of the receive

-- Whether the outlet may have more for the link: as many frames came as a turn takes, and no End was met.
abbrev pub may_be_more : List (List ℕ) → Option End → Bool
may_be_more frames met = is_none met && not (nat_lt (length frames) TAKES)

-- How long a receive waits at most, in milliseconds.
abbrev pub full_wait : ℕ
full_wait = WAIT_MS

-- how long one waits, by whether the outlet may have more: then it only looks
abbrev pub wait_by : Bool → ℕ
wait_by true = 0
wait_by false = full_wait

-- How long the receive that follows an opening waits.
abbrev pub wait_in : Opening → ℕ
wait_in o = wait_by (may_be_more o.frames o.met)

-- ---- what an opening may be

-- The outlet is looked at: the reading doesn't close, and the machine is in Connected.
abbrev pub Looks : Terms → Standing → ℕ → Type 0
Looks v s now = (is_connected (ticked s now) ≡ true) × (closing_in (wanted_at v s now) ≡ None)

-- An opening as it may be: frames and an End come only where the outlet is looked at, at most as many of them as a turn
-- takes; the End isn't Left, which only a Leave gives; a lost line is that of the last frame, which is denied, and no End
-- comes after it; and a fault is that of the last put: of the last frame, which is let through, or of the octets at an End.
pub record IsOpening (v : Terms) (s : Standing) (o : Opening) : Type 0 where
  pub takes : Looks v s o.reading ⊎ ((o.frames ≡ []) × (o.met ≡ None))
  pub few : length o.frames + count_of o.met ≤ TAKES
  pub not_left : o.met ≢ Some Left
  pub line : HasLine (noted_last o.met (noted_of v s (last_alone o.frames))) o.lost
  pub cause : HasPut (put_last v s o) o.fault
