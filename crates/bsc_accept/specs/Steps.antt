-- The step of an accepting peer at an event, by all events before it (Annex AB, "Accepting Peer").
use Rattle.std.specs.Prelude.{ℕ, Bool, true, false, if◌then◌else◌, List, Option, Some, None, unwrap_or}
use Rattle.bsc_octets.specs.declared.identity.Identity.{Identity}
use Rattle.bsc_frame.specs.declared.message.Message.{Message}
use Rattle.bsc_frame.specs.declared.body.Body.{Body}
use Rattle.bsc_frame.specs.declared.body.Body.TheVariants.{DisconnectRequest, HeartbeatRequest}
use Rattle.bsc_history.specs.declared.ending.End.{End}
use Rattle.bsc_history.specs.declared.ending.End.TheVariants.{Full}
use Rattle.bsc_history.specs.declared.reply.Refusal.{Refusal}
use Rattle.bsc_history.specs.declared.reply.Refusal.TheVariants.{Stopped as HubStopped, Duplicate, TableFull as NoRows}
use Rattle.bsc_checks.specs.declared.verdict.Verdict.{Verdict}
use Rattle.bsc_checks.specs.declared.verdict.Verdict.TheVariants.{Pass, Carry, Silent, Nak}
use Rattle.bsc_accept.specs.declared.reason.Reason.TheVariants.{Nothing as NoReason, TableFull, ConnectWait, Idle, OutboxFull}
use Rattle.bsc_accept.specs.declared.reason.Reason.{Reason}
use Rattle.bsc_accept.specs.declared.closing.Closing.{Closing}
use Rattle.bsc_accept.specs.declared.start.Start.{Start}
use Rattle.bsc_accept.specs.declared.event.Event.{Event}
use Rattle.bsc_accept.specs.declared.event.Event.TheVariants.{Message as Came, Joined, Refused, Ended, Finish, Tick}
use Rattle.bsc_accept.specs.declared.step.Step.{Step}
use Rattle.bsc_accept.specs.declared.step.Step.TheVariants.{Ask, Put, PutClose, Up, Close, Nothing}
use Rattle.bsc_accept.specs.Messages.{octets_of, connect_accept, duplicate_vmac, disconnect_request, disconnect_ack, heartbeat_ack}
use Rattle.bsc_accept.specs.Messages.{who_asks, is_farewell_answer}
use Rattle.bsc_accept.specs.Waits.{connect_wait_is_over, is_idle, disconnect_wait_is_over}
use Rattle.bsc_accept.specs.Past.{Standing, awaiting_request, connected, disconnecting, standing, question, last_message}

-- ---- closings

abbrev pub closing : ℕ → Reason → Closing
closing code reason = record { code = code; reason = reason }

-- 1000: the connection did what it was for
abbrev pub normal : Closing
normal = closing 1000 NoReason

-- ---- a message

-- Who asks is asked about.
abbrev pub ask_step : Option Identity → Step
ask_step (Some who) = Ask who
ask_step None = Nothing

-- In Connected a Heartbeat-Request is answered; a Disconnect-Request is answered, and the connection closed; nothing is
-- done about another message.
abbrev pub connected_step : ℕ → Body → Step
connected_step id HeartbeatRequest = Put (octets_of (heartbeat_ack id))
connected_step id DisconnectRequest = PutClose (octets_of (disconnect_ack id)) normal
connected_step id body = Nothing

-- A message that passed: a Connect-Request asks, a connected peer is served, and the answer to the Disconnect-Request
-- closes.
abbrev pub passed_step : Standing → Message → Step
passed_step awaiting_request msg = ask_step (who_asks msg.body)
passed_step connected msg = connected_step msg.id msg.body
passed_step (disconnecting f) msg = if is_farewell_answer f.id msg then Close normal else Nothing

-- A NAK is put as it is, silence is kept, and what is to be carried on goes up: a hub forwards it.
abbrev pub message_step : Standing → Verdict → Step
message_step g (Pass msg) = passed_step g msg
message_step g (Carry envelope) = Up
message_step g (Silent check) = Nothing
message_step g (Nak check octets) = Put (record { items = octets.items })

-- ---- the answer on who asked

-- Who is refused gets a NAK where its VMAC is another's, and is closed with 1008 where there are no rows, and with 1001
-- where the hub has stopped.
abbrev pub refused_step : ℕ → Refusal → Step
refused_step id (Duplicate holder) = PutClose (octets_of (duplicate_vmac id)) normal
refused_step id (NoRows rows) = Close (closing 1008 TableFull)
refused_step id HubStopped = Close (closing 1001 NoReason)

-- The Message ID of the Connect-Request that waits for its answer.
abbrev pub asked_id : List Event → ℕ
asked_id E = unwrap_or (question E) 0

-- ---- the end of a connection

-- One whose outbox was full is closed with 1008; one that was replaced, or whose hub stopped, gets a Disconnect-Request.
abbrev pub ended_step : End → Step
ended_step Full = Close (closing 1008 OutboxFull)
ended_step ending = Put (octets_of (disconnect_request 1))

-- A connected peer gets a Disconnect-Request; one that hasn't joined is closed; one that has such a request waits on.
abbrev pub finish_step : Standing → ℕ → Step
finish_step awaiting_request id = Close normal
finish_step connected id = Put (octets_of (disconnect_request id))
finish_step (disconnecting f) id = Nothing

-- ---- time

-- Each phase has its wait, and closes where that is over.
abbrev pub tick_step : Start → ℕ → ℕ → Standing → Step
tick_step s last now awaiting_request = if connect_wait_is_over s now then Close (closing 1008 ConnectWait) else Nothing
tick_step s last now connected = if is_idle s last now then Close (closing 1008 Idle) else Nothing
tick_step s last now (disconnecting f) = if disconnect_wait_is_over s f now then Close normal else Nothing

-- ---- the step

-- The step at the event e of a machine that started so and had the events E.
abbrev pub step : Start → List Event → Event → Step
step s E (Came now verdict) = message_step (standing E) verdict
step s E Joined = Put (octets_of (connect_accept (asked_id E) s.own))
step s E (Refused refusal) = refused_step (asked_id E) refusal
step s E (Ended now ending) = ended_step ending
step s E (Finish now id) = finish_step (standing E) id
step s E (Tick now) = tick_step s (last_message s E) now (standing E)

-- Whether a step closes the WebSocket.
abbrev pub closes : Step → Bool
closes (Close c) = true
closes (PutClose octets c) = true
closes other = false
