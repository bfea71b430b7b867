-- The messages that an accepting peer puts of itself, and those that it looks for.
use Rattle.std.specs.Prelude.{ℕ, ◌==◌, Bool, false, true, ◌&&◌, [], Option, Some, None}
use Rattle.arrayvec.specs.ArrayVec.{ArrayVec}
use Rattle.bsc_octets.specs.declared.identity.Identity.{Identity}
use Rattle.bsc_frame.specs.declared.message.Message.{Message}
use Rattle.bsc_frame.specs.declared.body.Body.{Body}
use Rattle.bsc_frame.specs.declared.body.Body.TheVariants.{BvlcResult, ConnectRequest, ConnectAccept, DisconnectRequest, DisconnectAck, HeartbeatAck}
use Rattle.bsc_frame.specs.declared.answer.Answer.{Answer}
use Rattle.bsc_frame.specs.declared.answer.Answer.TheVariants.{Ack, Nak}
use Rattle.bsc_frame.specs.Spelling.{spelling}
use Rattle.bsc_checks.specs.Naks.{communication}

-- ---- those that it puts

-- A message to the other end of the connection: it has no addresses and no options.
abbrev pub to_peer : ℕ → Body → Message
to_peer id body = record { id = id; origin = None; dest = None; dest_options = []; data_options = []; body = body }

-- A Connect-Accept, with the Message ID of the Connect-Request.
abbrev pub connect_accept : ℕ → Identity → Message
connect_accept id own = to_peer id (ConnectAccept own)

-- The error code NODE_DUPLICATE_VMAC.
abbrev pub duplicate_vmac_code : ℕ
duplicate_vmac_code = 151

-- The NAK of a Connect-Request (06) from a VMAC that another device has: error class COMMUNICATION (7), error code
-- NODE_DUPLICATE_VMAC (151), no header marker and no details.
abbrev pub duplicate_vmac : ℕ → Message
duplicate_vmac id = to_peer id (BvlcResult (Nak 0x06 0 communication duplicate_vmac_code []))

-- A Disconnect-Request.
abbrev pub disconnect_request : ℕ → Message
disconnect_request id = to_peer id DisconnectRequest

-- A Disconnect-ACK, with the Message ID of the Disconnect-Request.
abbrev pub disconnect_ack : ℕ → Message
disconnect_ack id = to_peer id DisconnectAck

-- A Heartbeat-ACK, with the Message ID of the Heartbeat-Request.
abbrev pub heartbeat_ack : ℕ → Message
heartbeat_ack id = to_peer id HeartbeatAck

-- The octets in which a message is put: its spelling.
abbrev pub octets_of : Message → ArrayVec ℕ
octets_of msg = record { items = spelling msg }

-- ---- those that it looks for

-- Who asks by a body: a Connect-Request says it.
abbrev pub who_asks : Body → Option Identity
who_asks (ConnectRequest who) = Some who
who_asks body = None

-- Whether a BVLC-Result, ACK or NAK, answers this function.
abbrev pub answers_function : ℕ → Answer → Bool
answers_function function (Ack answered) = answered == function
answers_function function (Nak answered marker class code details) = answered == function

-- Whether a body answers a Disconnect-Request (08): a Disconnect-ACK, or a BVLC-Result for that function.
abbrev pub answers_disconnect : Body → Bool
answers_disconnect DisconnectAck = true
answers_disconnect (BvlcResult answer) = answers_function 0x08 answer
answers_disconnect body = false

-- Whether a message is the answer to the Disconnect-Request with this Message ID.
abbrev pub is_farewell_answer : ℕ → Message → Bool
is_farewell_answer id msg = (msg.id == id) && answers_disconnect msg.body
