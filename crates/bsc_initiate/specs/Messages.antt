-- The messages that only an initiating peer puts of itself, and those that it looks for. Those that both sides of a
-- connection put stand with the accepting peer's.
use Rattle.std.specs.Prelude.{ℕ, ◌==◌, Bool, true, false, ◌&&◌, Option, Some, None, if◌then◌else◌}
use Rattle.bsc_octets.specs.declared.identity.Identity.{Identity}
use Rattle.bsc_frame.specs.declared.message.Message.{Message}
use Rattle.bsc_frame.specs.declared.body.Body.{Body}
use Rattle.bsc_frame.specs.declared.body.Body.TheVariants.{BvlcResult, ConnectRequest, ConnectAccept, HeartbeatRequest}
use Rattle.bsc_frame.specs.declared.answer.Answer.{Answer}
use Rattle.bsc_frame.specs.declared.answer.Answer.TheVariants.{Ack, Nak}
use Rattle.bsc_accept.specs.Messages.{to_peer}

-- ---- those that it puts

-- A Connect-Request of this peer.
abbrev pub connect_request : ℕ → Identity → Message
connect_request id own = to_peer id (ConnectRequest own)

-- A Heartbeat-Request.
abbrev pub heartbeat_request : ℕ → Message
heartbeat_request id = to_peer id HeartbeatRequest

-- ---- those that it looks for

-- Who accepts by a body: a Connect-Accept says it.
abbrev pub who_accepts : Body → Option Identity
who_accepts (ConnectAccept who) = Some who
who_accepts body = None

abbrev pub code_of : Answer → Option ℕ
code_of (Ack function) = None
code_of (Nak function marker class code details) = if function == 0x06 then Some code else None

-- The error code with which a body refuses a Connect-Request (06): a NAK for that function says it.
abbrev pub refusing_code : Body → Option ℕ
refusing_code (BvlcResult answer) = code_of answer
refusing_code body = None

abbrev pub says_who : Option Identity → Bool
says_who (Some who) = true
says_who None = false

-- Whether a message accepts the Connect-Request with this Message ID.
abbrev pub is_accept_of : ℕ → Message → Bool
is_accept_of id msg = (msg.id == id) && says_who (who_accepts msg.body)
