-- The messages that a node puts of itself, beside those of its machines.
use Rattle.std.specs.Prelude.{ℕ, List, [], Option, None}
use Rattle.bsc_octets.specs.declared.vmac.Vmac.{Vmac}
use Rattle.bsc_frame.specs.declared.message.Message.{Message}
use Rattle.bsc_frame.specs.declared.body.Body.{Body}
use Rattle.bsc_frame.specs.declared.body.Body.TheVariants.{BvlcResult}
use Rattle.bsc_frame.specs.declared.answer.Answer.TheVariants.{Nak}
use Rattle.bsc_frame.specs.Spelling.{spelling}
use Rattle.bsc_checks.specs.Naks.{communication}

-- A message with this Message ID and this Destination Virtual Address, where there is one, no Originating Virtual Address
-- and no options.
abbrev pub message : ℕ → Option Vmac → Body → Message
message id dest body = record { id = id; origin = None; dest = dest; dest_options = []; data_options = []; body = body }

-- Its octets.
abbrev pub message_octets : ℕ → Option Vmac → Body → List ℕ
message_octets id dest body = spelling (message id dest body)

-- The error code OPTIONAL_FUNCTIONALITY_NOT_SUPPORTED.
abbrev pub not_supported_code : ℕ
not_supported_code = 45

-- A NAK of a function: error class COMMUNICATION (7), this error code, no header marker and no details.
abbrev pub nak : ℕ → ℕ → Body
nak function code = BvlcResult (Nak function 0 communication code [])
