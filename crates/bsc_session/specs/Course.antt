-- The turns of a session from its beginning to its stop, and what they come to.
use Rattle.std.specs.Prelude.{List, None, Option, Some, [], ℕ, ⊤, ◌++◌, ◌+◌, ◌∷◌, ◌≡◌}
use Rattle.bsc_history.specs.declared.entry.Entry.{Entry}
use Rattle.bsc_edge.specs.declared.said.Said.{Said}
use Rattle.bsc_edge.specs.declared.said.Said.TheVariants.{Closed}
use Rattle.bsc_accept.specs.declared.closing.Closing.{Closing}
use Rattle.bsc_accept.specs.declared.reason.Reason.TheVariants.{Nothing as NoReason}
use Rattle.bsc_accept.specs.Reasons.{reason_text}
use Rattle.bsc_session.specs.declared.stop.Stop.{Stop}
use Rattle.bsc_session.specs.declared.why.Why.TheVariants.{Spent}
use Rattle.bsc_session.specs.Notes.Notes.{Note}
use Rattle.bsc_session.specs.Standings.{Standing, Terms, begun}
use Rattle.bsc_session.specs.Stops.{stop_closing}
use Rattle.bsc_session.specs.Turns.{IsTurn, Turn, after, empties_in, entries_in, frames_in, notes_in, reading_in, said_in, stop_in}

-- Where a session stands after some turns.
abbrev pub standing : Terms → Standing → List Turn → Standing
standing v s [] = s
standing v s (t ∷ ts) = standing v (after v s t) ts

-- Each turn's share, in order, each by where the session stood before it.
abbrev pub shares : {A : Type 0} → (Terms → Standing → Turn → List A) → Terms → Standing → List Turn → List A
shares f v s [] = []
shares f v s (t ∷ ts) = f v s t ++ shares f v (after v s t) ts

-- The same in numbers.
abbrev pub total : (Terms → Standing → Turn → ℕ) → Terms → Standing → List Turn → ℕ
total f v s [] = 0
total f v s (t ∷ ts) = f v s t + total f v (after v s t) ts

-- Each turn is so, by where the session stood before it.
abbrev pub EachTurn : (Terms → Standing → Turn → Type 0) → Terms → Standing → List Turn → Type 0
EachTurn P v s [] = ⊤
EachTurn P v s (t ∷ ts) = P v s t × EachTurn P v (after v s t) ts

-- The turn doesn't stop the session.
abbrev pub TurnGoesOn : Terms → Standing → Turn → Type 0
TurnGoesOn v s t = stop_in v s t ≡ None

-- the turns that went on, and the last one where there is one
abbrev pub and_last : List Turn → Option Turn → List Turn
and_last ts None = ts
and_last ts (Some t) = ts ++ t ∷ []

-- The last turn stops the session so; or there is none, and the receives are spent.
abbrev pub Stops : Terms → Standing → Option Turn → Stop → Type 0
Stops v s None stop = (s.receives ≡ v.turns) × (stop ≡ stop_closing Spent 1001 NoReason)
Stops v s (Some t) stop = stop_in v s t ≡ Some stop

-- The one closing that a stop has, if it has one.
abbrev pub said_closing : Option Closing → List Said
said_closing None = []
said_closing (Some c) = Closed c.code (reason_text c.reason) ∷ []

-- The course of a session: turns that went on, the last one, and the stop.
pub record SessionCourse (v : Terms) : Type 0 where
  pub went_on : List Turn
  pub last : Option Turn
  pub stop : Stop
  -- each turn is as it may be
  pub turns : EachTurn IsTurn v begun (and_last went_on last)
  -- all but the last go on
  pub goes_on : EachTurn TurnGoesOn v begun went_on
  -- the last stops the session, or the receives are spent
  pub stops : Stops v (standing v begun went_on) last stop

abbrev pub all_turns : {v : Terms} → SessionCourse v → List Turn
all_turns c = and_last c.went_on c.last

-- What the turns say, and then the closing of the stop.
abbrev pub talk_of : {v : Terms} → SessionCourse v → List Said
talk_of {v} c = shares said_in v begun (all_turns c) ++ said_closing c.stop.closing

-- One reading a turn.
abbrev pub readings_of : {v : Terms} → SessionCourse v → List ℕ
readings_of {v} c = shares reading_in v begun (all_turns c)

-- One Connect for each Ask, one Forward for each Up, where the hub's answer makes an entry.
abbrev pub entries_of : {v : Terms} → SessionCourse v → List Entry
entries_of {v} c = shares entries_in v begun (all_turns c)

-- The frames of all turns.
abbrev pub frames_of : {v : Terms} → SessionCourse v → List (List ℕ)
frames_of {v} c = shares frames_in v begun (all_turns c)

-- What all turns note in the journal.
abbrev pub notes_of : {v : Terms} → SessionCourse v → List Note
notes_of {v} c = shares notes_in v begun (all_turns c)

-- How many turns found the outbox empty.
abbrev pub empties_of : {v : Terms} → SessionCourse v → ℕ
empties_of {v} c = total empties_in v begun (all_turns c)

-- Where the session stands at its end.
abbrev pub end_of : {v : Terms} → SessionCourse v → Standing
end_of {v} c = standing v begun (all_turns c)
