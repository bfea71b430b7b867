-- Which functions of messages are responses, and which messages are Encapsulated-NPDUs.
use Rattle.std.specs.Prelude.{ℕ, Bool, ◌==◌, ◌||◌, List, filter}
use Rattle.bsc_octets.specs.Forwarding.{function_in}

-- Whether the function is one that answers another message: BVLC-Result, Address-Resolution-ACK, Connect-Accept,
-- Disconnect-ACK or Heartbeat-ACK. A response has the Message ID of what it answers.
abbrev pub is_response : ℕ → Bool
is_response function = (function == 0x00) || ((function == 0x03) || ((function == 0x07) || ((function == 0x09) || (function == 0x0B))))

-- Whether octets are an Encapsulated-NPDU.
abbrev pub is_npdu : List ℕ → Bool
is_npdu o = function_in o == 0x01

-- The Encapsulated-NPDUs among some messages, in order.
abbrev pub npdus : List (List ℕ) → List (List ℕ)
npdus os = filter is_npdu os
