-- What the events of a machine say, newest last, when one looks back over all of them (Annex AB, "Accepting Peer").
use Rattle.std.specs.Prelude.{ℕ, Bool, true, false, if◌then◌else◌, List, [], ◌∷◌, reverse, Option, Some, None, unwrap_or}
use Rattle.std.specs.Option.{option_or, option_map}
use Rattle.bsc_frame.specs.declared.message.Message.{Message}
use Rattle.bsc_history.specs.declared.ending.End.{End}
use Rattle.bsc_history.specs.declared.ending.End.TheVariants.{Full}
use Rattle.bsc_checks.specs.declared.verdict.Verdict.TheVariants.{Pass}
use Rattle.bsc_checks.specs.declared.phase.Phase.{Phase}
use Rattle.bsc_checks.specs.declared.phase.Phase.TheVariants.{AwaitingRequest, Connected, Disconnecting}
use Rattle.bsc_accept.specs.declared.start.Start.{Start}
use Rattle.bsc_accept.specs.declared.pending_disconnect.PendingDisconnect.{PendingDisconnect}
use Rattle.bsc_accept.specs.declared.event.Event.{Event}
use Rattle.bsc_accept.specs.declared.event.Event.TheVariants.{Message as Came, Joined, Ended, Finish}
use Rattle.bsc_accept.specs.Messages.{who_asks}

-- ---- looking back

-- the oldest that f gives of an event
abbrev pub oldest : {A : Type 0} → (Event → Option A) → List Event → Option A
oldest f [] = None
oldest f (e ∷ after) = option_or (f e) (oldest f after)

-- the newest that f gives of an event
abbrev pub newest : {A : Type 0} → (Event → Option A) → List Event → Option A
newest f E = oldest f (reverse E)

-- ---- what one event says

abbrev pub is_joined : Event → Bool
is_joined Joined = true
is_joined e = false

-- when a message came, whatever the verdict on it
abbrev pub message_time : Event → Option ℕ
message_time (Came now verdict) = Some now
message_time e = None

-- The Disconnect-Request that goes out where a connection has ended: its Message ID is 1. One that ended as full gets
-- none, since it is closed.
abbrev pub farewell_at_end : ℕ → End → Option PendingDisconnect
farewell_at_end now Full = None
farewell_at_end now ending = Some (record { since = now; id = 1 })

-- the Disconnect-Request that goes out at an event
abbrev pub farewell_at : Event → Option PendingDisconnect
farewell_at (Ended now ending) = farewell_at_end now ending
farewell_at (Finish now id) = Some (record { since = now; id = id })
farewell_at e = None

-- the Message ID of a Connect-Request
abbrev pub request_id : Message → Option ℕ
request_id msg = option_map (λ who. msg.id) (who_asks msg.body)

-- the Message ID of the Connect-Request that passed at an event
abbrev pub asked_at : Event → Option ℕ
asked_at (Came now (Pass msg)) = request_id msg
asked_at e = None

-- ---- what all of them say

-- When the last message came; the start, where none came.
abbrev pub last_message : Start → List Event → ℕ
last_message s E = unwrap_or (newest message_time E) s.at

abbrev pub question_at : List Event → Option ℕ
question_at [] = None
question_at (e ∷ before) = asked_at e

-- The Message ID of the Connect-Request that waits for its answer: the newest event was that request.
abbrev pub question : List Event → Option ℕ
question E = question_at (reverse E)

-- The phases, and what is remembered in one of them.
pub data Standing : Type 0 where
  awaiting_request : Standing
  connected : Standing
  disconnecting : PendingDisconnect → Standing

-- What came after who asked had joined, where that was told.
abbrev pub since_joined : List Event → Option (List Event)
since_joined [] = None
since_joined (e ∷ later) = if is_joined e then Some later else since_joined later

abbrev pub until_farewell : Option PendingDisconnect → Standing
until_farewell None = connected
until_farewell (Some f) = disconnecting f

abbrev pub standing_by : Option (List Event) → Standing
standing_by None = awaiting_request
standing_by (Some later) = until_farewell (oldest farewell_at later)

-- A connection waits for a Connect-Request until who asked has joined. From then on it is connected, until a
-- Disconnect-Request goes out; and it disconnects once the first of those went out.
abbrev pub standing : List Event → Standing
standing E = standing_by (since_joined E)

abbrev pub phase_named : Standing → Phase
phase_named awaiting_request = AwaitingRequest
phase_named connected = Connected
phase_named (disconnecting f) = Disconnecting

-- The phase.
abbrev pub phase : List Event → Phase
phase E = phase_named (standing E)
