-- What a machine goes on with. No public clause cites these words.
use Rattle.std.specs.Prelude.{ℕ, Bool, false, ◌||◌, Option, Some, None, if◌then◌else◌}
use Rattle.bsc_accept.specs.declared.start.Start.{Start}
use Rattle.bsc_initiate.specs.declared.event.InitEvent.{InitEvent}
use Rattle.bsc_initiate.specs.declared.step.InitStep.{InitStep}
use Rattle.bsc_initiate.specs.declared.step.InitStep.TheVariants.{PutClose, Connected as NowConnected, Refused, Close}
use Rattle.bsc_initiate.specs.declared.stage.Stage.{Stage}
use Rattle.bsc_initiate.specs.declared.stage.Stage.TheVariants.{AwaitingWebsocket, AwaitingAccept, Connected, Disconnecting, Idle}
use Rattle.bsc_initiate.specs.Past.{Standing, awaiting_websocket, awaiting_accept, connected, disconnecting, request_at, is_accepted_at}
use Rattle.bsc_initiate.specs.Past.{farewell_at, until_farewell, is_message, is_late_tick, is_heartbeat_due}

-- the standing of a machine that waits for this
abbrev pub standing_at : Stage → Standing
standing_at AwaitingWebsocket = awaiting_websocket
standing_at (AwaitingAccept id) = awaiting_accept id
standing_at (Connected put) = connected
standing_at (Disconnecting f) = disconnecting f
standing_at Idle = awaiting_websocket

-- whether it put a Heartbeat-Request since the last message
abbrev pub put_at : Stage → Bool
put_at (Connected put) = put
put_at waits = false

abbrev pub until_request : Option ℕ → Standing
until_request None = awaiting_websocket
until_request (Some id) = awaiting_accept id

-- how the standing goes on at an event
abbrev pub moved : Standing → InitEvent → Standing
moved awaiting_websocket e = until_request (request_at e)
moved (awaiting_accept id) e = if is_accepted_at id e then connected else awaiting_accept id
moved connected e = until_farewell (farewell_at e)
moved (disconnecting f) e = disconnecting f

-- whether a Heartbeat-Request was put since the last message, after an event
abbrev pub put_after : Start → ℕ → Bool → InitEvent → Bool
put_after s last put e = if is_message e then false else (is_late_tick s last e || put)

-- What a machine waits for after a message came, before it is looked at.
abbrev pub heard_at : Stage → Stage
heard_at (Connected put) = Connected false
heard_at waits = waits

-- What a machine waits for after a step that a message brought about.
abbrev pub after : Stage → InitStep → Stage
after waits (NowConnected who) = Connected false
after waits (PutClose octets c) = Idle
after waits (Close c) = Idle
after waits (Refused code) = Idle
after waits other = waits

-- What a connected machine waits for after a tick.
abbrev pub after_tick : Start → ℕ → Bool → ℕ → InitStep → Stage
after_tick s last put now (Close c) = Idle
after_tick s last put now other = Connected (is_heartbeat_due s last now || put)

-- What a machine waits for after a tick.
abbrev pub ticked : Start → ℕ → ℕ → Stage → InitStep → Stage
ticked s last now (Connected put) step = after_tick s last put now step
ticked s last now waits step = after waits step
