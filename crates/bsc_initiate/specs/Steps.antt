-- The step of an initiating peer at an event, by all events before it (Annex AB, "Initiating Peer").
use Rattle.std.specs.Prelude.{ℕ, ◌==◌, Bool, true, false, not, ◌&&◌, if◌then◌else◌, List, Option, Some, None}
use Rattle.bsc_octets.specs.declared.identity.Identity.{Identity}
use Rattle.bsc_frame.specs.declared.message.Message.{Message}
use Rattle.bsc_frame.specs.declared.body.Body.{Body}
use Rattle.bsc_frame.specs.declared.body.Body.TheVariants.{DisconnectRequest, HeartbeatRequest, HeartbeatAck}
use Rattle.bsc_checks.specs.declared.verdict.Verdict.{Verdict}
use Rattle.bsc_checks.specs.declared.verdict.Verdict.TheVariants.{Pass, Carry, Silent, Nak}
use Rattle.bsc_accept.specs.declared.reason.Reason.TheVariants.{ConnectWait, Idle}
use Rattle.bsc_accept.specs.declared.start.Start.{Start}
use Rattle.bsc_accept.specs.Messages.{octets_of, disconnect_request, disconnect_ack, heartbeat_ack, is_farewell_answer}
use Rattle.bsc_accept.specs.Waits.{connect_wait_is_over, is_idle, disconnect_wait_is_over}
use Rattle.bsc_accept.specs.Steps.{closing, normal}
use Rattle.bsc_initiate.specs.declared.event.InitEvent.{InitEvent}
use Rattle.bsc_initiate.specs.declared.event.InitEvent.TheVariants.{Opened, Message as Came, Finish, Tick}
use Rattle.bsc_initiate.specs.declared.step.InitStep.{InitStep}
use Rattle.bsc_initiate.specs.declared.step.InitStep.TheVariants.{Put, PutClose, Connected, Refused, Up, Close, Nothing}
use Rattle.bsc_initiate.specs.Messages.{connect_request, heartbeat_request, who_accepts, refusing_code}
use Rattle.bsc_initiate.specs.Past.{Standing, awaiting_websocket, awaiting_accept, connected, disconnecting, standing, last_message}
use Rattle.bsc_initiate.specs.Past.{heartbeat_was_put, is_heartbeat_due}

-- ---- a message

abbrev pub answer_step : Option Identity → Option ℕ → InitStep
answer_step (Some who) code = Connected who
answer_step None (Some code) = Refused code
answer_step None None = Nothing

-- In CONNECTED a Heartbeat-Request is answered; a Disconnect-Request is answered, and the connection closed; nothing is
-- done about a Heartbeat-ACK; and every other message is for the layer above.
abbrev pub connected_step : ℕ → Body → InitStep
connected_step id HeartbeatRequest = Put (octets_of (heartbeat_ack id))
connected_step id DisconnectRequest = PutClose (octets_of (disconnect_ack id)) normal
connected_step id HeartbeatAck = Nothing
connected_step id body = Up

-- A message that passed: a Connect-Accept with the Message ID of the Connect-Request connects, a NAK of a
-- Connect-Request with it refuses; a connected peer is served; and the answer to the Disconnect-Request closes.
abbrev pub passed_step : Standing → Message → InitStep
passed_step awaiting_websocket msg = Nothing
passed_step (awaiting_accept id) msg =
    if msg.id == id then answer_step (who_accepts msg.body) (refusing_code msg.body) else Nothing
passed_step connected msg = connected_step msg.id msg.body
passed_step (disconnecting f) msg = if is_farewell_answer f.id msg then Close normal else Nothing

-- A NAK is put as it is, and silence is kept, in every state. No initiating peer carries a message on.
abbrev pub message_step : Standing → Verdict → InitStep
message_step g (Pass msg) = passed_step g msg
message_step g (Carry envelope) = Nothing
message_step g (Silent check) = Nothing
message_step g (Nak check octets) = Put (record { items = octets.items })

-- ---- the end of a connection

-- A connected peer gets a Disconnect-Request; before that the WebSocket is closed; one that has such a request waits
-- on.
abbrev pub finish_step : Standing → ℕ → InitStep
finish_step awaiting_websocket id = Close normal
finish_step (awaiting_accept id) other = Close normal
finish_step connected id = Put (octets_of (disconnect_request id))
finish_step (disconnecting f) id = Nothing

-- ---- time

-- Before the accept a tick closes where the connect wait is over.
abbrev pub unaccepted_tick : Start → ℕ → InitStep
unaccepted_tick s now = if connect_wait_is_over s now then Close (closing 1008 ConnectWait) else Nothing

-- In CONNECTED a tick closes where no message came for twice the heartbeat, and else asks for a heartbeat where it is
-- time for one and none was asked for since the last message.
abbrev pub connected_tick : Start → ℕ → Bool → ℕ → ℕ → InitStep
connected_tick s last put now id =
    if is_idle s last now then Close (closing 1008 Idle)
    else if is_heartbeat_due s last now && not put then Put (octets_of (heartbeat_request id))
    else Nothing

-- With the time of the last message, and whether a Heartbeat-Request was put since: each state has its wait.
abbrev pub tick_step : Start → ℕ → Bool → ℕ → ℕ → Standing → InitStep
tick_step s last put now id awaiting_websocket = unaccepted_tick s now
tick_step s last put now id (awaiting_accept request) = unaccepted_tick s now
tick_step s last put now id connected = connected_tick s last put now id
tick_step s last put now id (disconnecting f) = if disconnect_wait_is_over s f now then Close normal else Nothing

-- ---- the step

-- The step at the event e of a machine that started so and had the events E. Where the WebSocket has opened, the
-- Connect-Request is put.
abbrev pub step : Start → List InitEvent → InitEvent → InitStep
step s E (Opened now id) = Put (octets_of (connect_request id s.own))
step s E (Came now verdict) = message_step (standing E) verdict
step s E (Finish now id) = finish_step (standing E) id
step s E (Tick now id) = tick_step s (last_message s E) (heartbeat_was_put s E) now id (standing E)

-- Whether a step closes the WebSocket, or leaves it to be closed.
abbrev pub closes : InitStep → Bool
closes (Close c) = true
closes (PutClose octets c) = true
closes (Refused code) = true
closes other = false
