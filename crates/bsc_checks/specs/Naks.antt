-- Whether a NAK answers a message that a check refuses, and its octets (Annex AB, "BVLC-Result").
use Rattle.std.specs.Prelude.{◌≡◌, ℕ, List, [], IsTrue, Option, Some, None}
use Rattle.byteorder.specs.Endian.{big_number}
use Rattle.bsc_octets.specs.declared.vmac.Vmac.{Vmac}
use Rattle.bsc_octets.specs.Forwarding.{function_in, id_in}
use Rattle.bsc_octets.specs.Functions.{is_response}
use Rattle.bsc_frame.specs.declared.answer.Answer.TheVariants.{Nak}
use Rattle.bsc_frame.specs.declared.body.Body.TheVariants.{BvlcResult}
use Rattle.bsc_frame.specs.declared.check.Check.{Check}
use Rattle.bsc_frame.specs.declared.check.Check.TheVariants.{C9}
use Rattle.bsc_frame.specs.declared.message.Message.{Message}
use Rattle.bsc_frame.specs.Spelling.{Spells}
use Rattle.bsc_checks.specs.declared.place.Place.{Place}
use Rattle.bsc_checks.specs.declared.place.Place.TheVariants.{NodeHub}
use Rattle.bsc_checks.specs.Places.{origin_in, dest_in, IsUnicast}
use Rattle.bsc_checks.specs.Table.{code_of, IsFirstNotUnderstood}

-- The functions that answer another message.
abbrev pub IsResponse : ℕ → Type 0
IsResponse function = IsTrue (is_response function)

-- A NAK with this code answers the message that the check refuses: the check has a code, the message is a unicast, and it is no response.
pub record IsAnswered (m : List ℕ) (check : Check) (code : ℕ) : Type 0 where
  pub code_is : code_of check ≡ Some code
  pub unicast : IsUnicast (dest_in m)
  pub request : ¬ IsResponse (function_in m)

-- The error class COMMUNICATION.
abbrev pub communication : ℕ
communication = 7

-- Where a NAK goes: a node tells its hub for whom it is, the sender of the message; elsewhere it goes to the other end of
-- the connection, without a Destination.
abbrev pub return_address : Place → Option Vmac → Option Vmac
return_address (NodeHub own phase) origin = origin
return_address place origin = None

-- The marker of a NAK: that of the first option that is not understood, as it was received, and 00 for every other check.
abbrev pub IsMarker : List ℕ → Check → ℕ → Type 0
IsMarker m C9 marker = IsFirstNotUnderstood m marker
IsMarker m check marker = marker ≡ 0x00

-- A NAK: a BVLC-Result with this Message ID and Destination for this function, with no header options and no details.
abbrev pub nak : ℕ → Option Vmac → ℕ → ℕ → ℕ → Message
nak id dest function marker code =
    record { id = id; origin = None; dest = dest; dest_options = []; data_options = []; body = BvlcResult (Nak function marker communication code []) }

-- The NAK to a message: it has the Message ID of that, and names the function of that.
abbrev pub nak_to : List ℕ → Place → ℕ → ℕ → Message
nak_to m place marker code = nak (big_number 2 (id_in m)) (return_address place (origin_in m)) (function_in m) marker code

-- The octets are those of the NAK that answers the message, which the check refuses.
pub record IsNak (m : List ℕ) (place : Place) (check : Check) (o : List ℕ) : Type 0 where
  pub code : ℕ
  pub marker : ℕ
  pub answered : IsAnswered m check code
  pub marker_is : IsMarker m check marker
  pub octets : Spells (nak_to m place marker code) o
