-- What the events of a machine say, newest last, when one looks back over all of them (Annex AB, "Initiating Peer").
use Rattle.std.specs.Prelude.{ℕ, ◌-◌, Bool, true, false, ◌||◌, if◌then◌else◌, List, [], ◌∷◌, reverse, Option, Some, None, unwrap_or}
use Rattle.std.specs.Option.{option_or}
use Rattle.bsc_checks.specs.declared.verdict.Verdict.TheVariants.{Pass}
use Rattle.bsc_checks.specs.declared.phase.Phase.{Phase}
use Rattle.bsc_checks.specs.declared.phase.Phase.TheVariants.{AwaitingAccept, Connected, Disconnecting}
use Rattle.bsc_accept.specs.declared.start.Start.{Start}
use Rattle.bsc_accept.specs.declared.pending_disconnect.PendingDisconnect.{PendingDisconnect}
use Rattle.bsc_accept.specs.Waits.{◌≥◌}
use Rattle.bsc_initiate.specs.declared.event.InitEvent.{InitEvent}
use Rattle.bsc_initiate.specs.declared.event.InitEvent.TheVariants.{Opened, Message as Came, Finish, Tick}
use Rattle.bsc_initiate.specs.Messages.{is_accept_of}

-- ---- looking back

-- the oldest that f gives of an event
abbrev pub oldest : {A : Type 0} → (InitEvent → Option A) → List InitEvent → Option A
oldest f [] = None
oldest f (e ∷ after) = option_or (f e) (oldest f after)

-- the newest that f gives of an event
abbrev pub newest : {A : Type 0} → (InitEvent → Option A) → List InitEvent → Option A
newest f E = oldest f (reverse E)

-- ---- what one event says

-- the Message ID of the Connect-Request that goes out at an event: where the WebSocket has opened
abbrev pub request_at : InitEvent → Option ℕ
request_at (Opened now id) = Some id
request_at e = None

-- whether the Connect-Request with this Message ID is accepted at an event
abbrev pub is_accepted_at : ℕ → InitEvent → Bool
is_accepted_at id (Came now (Pass msg)) = is_accept_of id msg
is_accepted_at id e = false

-- when a message came, whatever the verdict on it
abbrev pub message_time : InitEvent → Option ℕ
message_time (Came now verdict) = Some now
message_time e = None

abbrev pub is_message : InitEvent → Bool
is_message (Came now verdict) = true
is_message e = false

-- the Disconnect-Request that goes out at an event
abbrev pub farewell_at : InitEvent → Option PendingDisconnect
farewell_at (Finish now id) = Some (record { since = now; id = id })
farewell_at e = None

-- ---- the time of the last message, and the heartbeat since

-- When the last message came; the start, where none came.
abbrev pub last_message : Start → List InitEvent → ℕ
last_message s E = unwrap_or (newest message_time E) s.at

-- It is time for a heartbeat: the last message came a heartbeat ago.
abbrev pub is_heartbeat_due : Start → ℕ → ℕ → Bool
is_heartbeat_due s last_message now = (now - last_message) ≥ s.times.heartbeat

-- whether an event is a tick at which it is time for a heartbeat
abbrev pub is_late_tick : Start → ℕ → InitEvent → Bool
is_late_tick s last (Tick now id) = is_heartbeat_due s last now
is_late_tick s last e = false

-- whether one of these events, newest first, is such a tick and no message came since
abbrev pub has_late_tick : Start → ℕ → List InitEvent → Bool
has_late_tick s last [] = false
has_late_tick s last (e ∷ before) =
    if is_message e then false else (is_late_tick s last e || has_late_tick s last before)

-- In CONNECTED: a Heartbeat-Request was put since the last message, for at a tick since then it was time for one. (The
-- accept is a message, so such a tick came in CONNECTED.)
abbrev pub heartbeat_was_put : Start → List InitEvent → Bool
heartbeat_was_put s E = has_late_tick s (last_message s E) (reverse E)

-- ---- the states

-- The states but IDLE, and what is remembered in them.
pub data Standing : Type 0 where
  awaiting_websocket : Standing
  -- with the Message ID of the Connect-Request
  awaiting_accept : ℕ → Standing
  connected : Standing
  disconnecting : PendingDisconnect → Standing

abbrev pub until_farewell : Option PendingDisconnect → Standing
until_farewell None = connected
until_farewell (Some f) = disconnecting f

-- After the Connect-Request a machine awaits its accept; then it is connected, until a Disconnect-Request goes out; and
-- it disconnects once the first of those went out.
abbrev pub since_request : ℕ → List InitEvent → Standing
since_request id [] = awaiting_accept id
since_request id (e ∷ later) =
    if is_accepted_at id e then until_farewell (oldest farewell_at later) else since_request id later

abbrev pub request_or_not : Option ℕ → List InitEvent → Standing → Standing
request_or_not (Some id) later otherwise = since_request id later
request_or_not None later otherwise = otherwise

-- A machine awaits its WebSocket until that has opened, and then the Connect-Request goes out.
abbrev pub standing : List InitEvent → Standing
standing [] = awaiting_websocket
standing (e ∷ later) = request_or_not (request_at e) later (standing later)

abbrev pub phase_named : Standing → Option Phase
phase_named awaiting_websocket = None
phase_named (awaiting_accept id) = Some AwaitingAccept
phase_named connected = Some Connected
phase_named (disconnecting f) = Some Disconnecting

-- The phase; none before the WebSocket has opened.
abbrev pub phase : List InitEvent → Option Phase
phase E = phase_named (standing E)
