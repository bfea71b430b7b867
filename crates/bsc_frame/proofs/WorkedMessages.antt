-- Messages written out in octets, with what the definitions make of them.
-- No clause needs it: worked examples.
use Rattle.std.proofs.Common.{◌≡◌, true, false, [], ◌∷◌, ◌++◌, Some, None, replicate, refl, arith}
use Rattle.bsc_octets.specs.declared.vmac.Vmac.{Vmac}
use Rattle.bsc_octets.specs.Addresses.{broadcast}
use Rattle.bsc_options.specs.declared.item.OptionItem.{OptionItem}
use Rattle.bsc_frame.specs.declared.answer.Answer.TheVariants.{Ack, Nak}
use Rattle.bsc_frame.specs.declared.body.Body.TheVariants.{BvlcResult, Npdu, AddressResolutionAck, Advertisement, ConnectRequest, HeartbeatAck, Proprietary}
use Rattle.bsc_frame.specs.Spelling.{spelling}
use Rattle.bsc_frame.specs.Layout.{announces_dest_options, announces_data_options, options_at}
use Rattle.bsc_frame.specs.PayloadChecks.{expects_payload, fixed_part, takes_rest}
use Rattle.bsc_frame.specs.Checks.{LacksAddressOctets, HasReservedFlag, HasUnknownFunction}

abbrev node : Vmac
node = record { 0 = 0x02 ∷ 0x00 ∷ 0x00 ∷ 0x00 ∷ 0x00 ∷ 0x0A ∷ [] }

-- Secure Path, with must understand or without
abbrev must : OptionItem
must = record { must = true; kind = 1; content = None }

abbrev may : OptionItem
may = record { must = false; kind = 1; content = None }

-- ---- messages

npdu_with_options : spelling (record { id = 1; origin = None; dest = None; dest_options = must ∷ []; data_options = must ∷ may ∷ []; body = Npdu (0x00 ∷ []) })
    ≡ 0x01 ∷ 0x03 ∷ 0x00 ∷ 0x01 ∷ 0x41 ∷ 0xC1 ∷ 0x01 ∷ 0x00 ∷ []
npdu_with_options = refl

npdu_to_all : spelling (record { id = 2; origin = Some node; dest = Some broadcast; dest_options = []; data_options = []; body = Npdu (0x01 ∷ 0x00 ∷ []) })
    ≡ (0x01 ∷ 0x0C ∷ 0x00 ∷ 0x02 ∷ []) ++ node.0 ++ replicate 6 0xFF ++ 0x01 ∷ 0x00 ∷ []
npdu_to_all = refl

nak : spelling (record { id = 9; origin = None; dest = None; dest_options = []; data_options = []; body = BvlcResult (Nak 0x0D 0x00 7 143 []) })
    ≡ 0x00 ∷ 0x00 ∷ 0x00 ∷ 0x09 ∷ 0x0D ∷ 0x01 ∷ 0x00 ∷ 0x00 ∷ 0x07 ∷ 0x00 ∷ 0x8F ∷ []
nak = refl

ack : spelling (record { id = 10; origin = None; dest = None; dest_options = []; data_options = []; body = BvlcResult (Ack 0x0A) }) ≡ 0x00 ∷ 0x00 ∷ 0x00 ∷ 0x0A ∷ 0x0A ∷ 0x00 ∷ []
ack = refl

no_uris : spelling (record { id = 0x11; origin = None; dest = Some node; dest_options = []; data_options = []; body = AddressResolutionAck [] }) ≡ (0x03 ∷ 0x04 ∷ 0x00 ∷ 0x11 ∷ []) ++ node.0
no_uris = refl

advertisement : spelling (record {
  id = 2;
  origin = None;
  dest = None;
  dest_options = [];
  data_options = [];
  body = Advertisement (record { status = 1; accepts = 0; max_bvlc = 1600; max_npdu = 1497 });
})
    ≡ 0x04 ∷ 0x00 ∷ 0x00 ∷ 0x02 ∷ 0x01 ∷ 0x00 ∷ 0x06 ∷ 0x40 ∷ 0x05 ∷ 0xD9 ∷ []
advertisement = refl

connect : spelling (record {
  id = 1;
  origin = None;
  dest = None;
  dest_options = [];
  data_options = [];
  body = ConnectRequest (record { vmac = node; device = record { 0 = replicate 16 0xAA }; max_bvlc = 1600; max_npdu = 1497 });
})
    ≡ (0x06 ∷ 0x00 ∷ 0x00 ∷ 0x01 ∷ []) ++ node.0 ++ replicate 16 0xAA ++ 0x06 ∷ 0x40 ∷ 0x05 ∷ 0xD9 ∷ []
connect = refl

proprietary : spelling (record { id = 3; origin = None; dest = None; dest_options = []; data_options = may ∷ []; body = Proprietary 260 5 (0xAA ∷ []) })
    ≡ 0x0C ∷ 0x01 ∷ 0x00 ∷ 0x03 ∷ 0x01 ∷ 0x01 ∷ 0x04 ∷ 0x05 ∷ 0xAA ∷ []
proprietary = refl

heartbeat : spelling (record { id = 0x1234; origin = None; dest = None; dest_options = []; data_options = []; body = HeartbeatAck }) ≡ 0x0B ∷ 0x00 ∷ 0x12 ∷ 0x34 ∷ []
heartbeat = refl

-- ---- the table of functions and payloads

short_result_is_two : fixed_part 0x00 [] ≡ 2
short_result_is_two = refl

ack_is_two : fixed_part 0x00 (0x0A ∷ 0x00 ∷ []) ≡ 2
ack_is_two = refl

ack_ends : takes_rest 0x00 (0x0A ∷ 0x00 ∷ []) ≡ false
ack_ends = refl

nak_is_seven : fixed_part 0x00 (0x0A ∷ 0x01 ∷ []) ≡ 7
nak_is_seven = refl

nak_goes_on : takes_rest 0x00 (0x0A ∷ 0x01 ∷ []) ≡ true
nak_goes_on = refl

unknown_result_is_two : fixed_part 0x00 (0x0A ∷ 0x02 ∷ []) ≡ 2
unknown_result_is_two = refl

unknown_result_goes_on : takes_rest 0x00 (0x0A ∷ 0x02 ∷ []) ≡ true
unknown_result_goes_on = refl

connect_is_an_identity : fixed_part 0x07 [] ≡ 26
connect_is_an_identity = refl

uris_may_be_none : expects_payload 0x03 ≡ false
uris_may_be_none = refl

heartbeat_ends : takes_rest 0x0A [] ≡ false
heartbeat_ends = refl

-- ---- flags

options_behind_two_addresses : options_at (0x01 ∷ 0x0C ∷ []) ≡ 16
options_behind_two_addresses = refl

first_list_alone : announces_dest_options 0x02 ≡ true
first_list_alone = refl

no_second_list : announces_data_options 0x0E ≡ false
no_second_list = refl

reserved : HasReservedFlag (0x0A ∷ 0x10 ∷ 0x00 ∷ 0x01 ∷ [])
reserved = omega arith

unknown : HasUnknownFunction (0x0D ∷ 0x00 ∷ 0x00 ∷ 0x01 ∷ [])
unknown = omega arith

cut : LacksAddressOctets (0x01 ∷ 0x08 ∷ 0x00 ∷ 0x01 ∷ [])
cut = (omega arith, omega arith)
