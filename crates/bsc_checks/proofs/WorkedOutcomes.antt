-- Messages written out in octets, with the verdict that is computed of them.
-- No clause needs it: worked examples.
use Rattle.std.proofs.Common.{◌≡◌, [], ◌∷◌, ◌++◌, Some, None, replicate, refl}
use Rattle.bsc_octets.specs.declared.vmac.Vmac.{Vmac}
use Rattle.bsc_octets.specs.Addresses.{broadcast}
use Rattle.bsc_frame.specs.declared.body.Body.TheVariants.{Npdu, ConnectRequest, HeartbeatRequest}
use Rattle.bsc_frame.specs.declared.check.Check.TheVariants.{C1, C2, C6, C7, C7b, C9, C10b, C10c, C11, C12, C13}
use Rattle.bsc_checks.specs.declared.phase.Phase.TheVariants.{AwaitingRequest, Connected}
use Rattle.bsc_checks.specs.declared.place.Place.TheVariants.{HubPort, NodeHub}
use Rattle.bsc_checks.specs.declared.verdict.Verdict.TheVariants.{Pass, Carry, Silent, Nak}
use Rattle.bsc_checks.specs.Outcomes.{outcome_of}
use Rattle.bsc_checks.proofs.OnLiterals.{verdict_on_literals}

abbrev a : Vmac
a = record { 0 = 0x02 ∷ 0x00 ∷ 0x00 ∷ 0x00 ∷ 0x00 ∷ 0x0A ∷ [] }

abbrev b : Vmac
b = record { 0 = 0x02 ∷ 0x00 ∷ 0x00 ∷ 0x00 ∷ 0x00 ∷ 0x0B ∷ [] }

-- ---- at a hub, once the connection is made

-- a unicast is carried on, whatever stands behind its head
a_unicast_is_carried_on : outcome_of (0x01 ∷ 0x04 ∷ 0x00 ∷ 0x02 ∷ 0x02 ∷ 0x00 ∷ 0x00 ∷ 0x00 ∷ 0x00 ∷ 0x0B ∷ 0x01 ∷ 0x20 ∷ 0xFF ∷ 0xFF ∷ 0x00 ∷ 0xFF ∷ 0x10 ∷ 0x08 ∷ [])
    (HubPort Connected) 1600 ≡ Carry (record { function = 0x01; flags = 0x04; id = 2; origin = None; dest = Some b; rest_at = 10 })
unfolding verdict_on_literals
a_unicast_is_carried_on = refl

with_a_data_option_too : outcome_of (0x01 ∷ 0x05 ∷ 0x00 ∷ 0x03 ∷ 0x02 ∷ 0x00 ∷ 0x00 ∷ 0x00 ∷ 0x00 ∷ 0x0B ∷ 0x41 ∷ 0x01 ∷ 0x20 ∷ 0xFF ∷ 0xFF ∷ 0x00 ∷ 0xFF ∷ 0x10 ∷ 0x08 ∷ [])
    (HubPort Connected) 1600 ≡ Carry (record { function = 0x01; flags = 0x05; id = 3; origin = None; dest = Some b; rest_at = 10 })
unfolding verdict_on_literals
with_a_data_option_too = refl

an_unknown_function_too : outcome_of (0x0D ∷ 0x04 ∷ 0x00 ∷ 0x09 ∷ 0x02 ∷ 0x00 ∷ 0x00 ∷ 0x00 ∷ 0x00 ∷ 0x0B ∷ []) (HubPort Connected) 1600
    ≡ Carry (record { function = 0x0D; flags = 0x04; id = 9; origin = None; dest = Some b; rest_at = 10 })
unfolding verdict_on_literals
an_unknown_function_too = refl

a_broadcast_is_carried_on : outcome_of (0x01 ∷ 0x04 ∷ 0x00 ∷ 0x02 ∷ 0xFF ∷ 0xFF ∷ 0xFF ∷ 0xFF ∷ 0xFF ∷ 0xFF ∷ 0x01 ∷ 0x20 ∷ 0xFF ∷ 0xFF ∷ 0x00 ∷ 0xFF ∷ 0x10 ∷ 0x08 ∷ [])
    (HubPort Connected) 1600 ≡ Carry (record { function = 0x01; flags = 0x04; id = 2; origin = None; dest = Some broadcast; rest_at = 10 })
unfolding verdict_on_literals
a_broadcast_is_carried_on = refl

-- a broadcast of the greatest length is carried on, and one of an octet more is not
the_greatest_length_is_taken : outcome_of ((0x01 ∷ 0x04 ∷ 0x00 ∷ 0x02 ∷ 0xFF ∷ 0xFF ∷ 0xFF ∷ 0xFF ∷ 0xFF ∷ 0xFF ∷ []) ++ replicate 1590 0x00) (HubPort Connected) 1600
    ≡ Carry (record { function = 0x01; flags = 0x04; id = 2; origin = None; dest = Some broadcast; rest_at = 10 })
unfolding verdict_on_literals
the_greatest_length_is_taken = refl

a_greater_length_is_not : outcome_of ((0x01 ∷ 0x04 ∷ 0x00 ∷ 0x02 ∷ 0xFF ∷ 0xFF ∷ 0xFF ∷ 0xFF ∷ 0xFF ∷ 0xFF ∷ []) ++ replicate 1591 0x00) (HubPort Connected) 1600 ≡ Silent C2
unfolding verdict_on_literals
a_greater_length_is_not = refl

-- a head that is cut, and no octet at all
a_cut_head_is_silent : outcome_of (0x01 ∷ 0x04 ∷ []) (HubPort Connected) 1600 ≡ Silent C1
unfolding verdict_on_literals
a_cut_head_is_silent = refl

nothing_is_silent : outcome_of ([]) (HubPort Connected) 1600 ≡ Silent C1
unfolding verdict_on_literals
nothing_is_silent = refl

-- a heartbeat with a payload, and without
a_long_heartbeat_is_refused : outcome_of (0x0A ∷ 0x00 ∷ 0x00 ∷ 0x05 ∷ 0xAA ∷ []) (HubPort Connected) 1600
    ≡ Nak C10c (record { items = 0x00 ∷ 0x00 ∷ 0x00 ∷ 0x05 ∷ 0x0A ∷ 0x01 ∷ 0x00 ∷ 0x00 ∷ 0x07 ∷ 0x00 ∷ 0x96 ∷ [] })
unfolding verdict_on_literals
a_long_heartbeat_is_refused = refl

a_heartbeat_passes : outcome_of (0x0A ∷ 0x00 ∷ 0x00 ∷ 0x06 ∷ []) (HubPort Connected) 1600
    ≡ Pass (record { id = 6; origin = None; dest = None; dest_options = []; data_options = []; body = HeartbeatRequest })
unfolding verdict_on_literals
a_heartbeat_passes = refl

an_unknown_function_is_refused : outcome_of (0x0D ∷ 0x00 ∷ 0x00 ∷ 0x09 ∷ []) (HubPort Connected) 1600
    ≡ Nak C6 (record { items = 0x00 ∷ 0x00 ∷ 0x00 ∷ 0x09 ∷ 0x0D ∷ 0x01 ∷ 0x00 ∷ 0x00 ∷ 0x07 ∷ 0x00 ∷ 0x8F ∷ [] })
unfolding verdict_on_literals
an_unknown_function_is_refused = refl

a_proprietary_function_is_refused : outcome_of (0x0C ∷ 0x00 ∷ 0x00 ∷ 0x03 ∷ 0x00 ∷ 0x00 ∷ 0x01 ∷ []) (HubPort Connected) 1600
    ≡ Nak C12 (record { items = 0x00 ∷ 0x00 ∷ 0x00 ∷ 0x03 ∷ 0x0C ∷ 0x01 ∷ 0x00 ∷ 0x00 ∷ 0x07 ∷ 0x00 ∷ 0x90 ∷ [] })
unfolding verdict_on_literals
a_proprietary_function_is_refused = refl

-- the announced data options are missing, and a response gets no NAK
a_cut_response_is_silent : outcome_of (0x0B ∷ 0x01 ∷ 0x00 ∷ 0x03 ∷ []) (HubPort Connected) 1600 ≡ Silent C7
unfolding verdict_on_literals
a_cut_response_is_silent = refl

-- an NPDU for the hub itself
an_npdu_is_out_of_place : outcome_of (0x01 ∷ 0x00 ∷ 0x00 ∷ 0x03 ∷ 0x01 ∷ 0x00 ∷ []) (HubPort Connected) 1600 ≡ Silent C13
unfolding verdict_on_literals
an_npdu_is_out_of_place = refl

-- ---- at a hub that awaits a Connect-Request

a_short_connect_is_refused : outcome_of (0x06 ∷ 0x00 ∷ 0x00 ∷ 0x01 ∷ 0x02 ∷ 0x00 ∷ 0x00 ∷ 0x00 ∷ 0x00 ∷ 0x0A ∷ 0xAA ∷ 0xAA ∷ 0xAA ∷ 0xAA ∷ 0xAA ∷ 0xAA ∷ 0xAA ∷ 0xAA ∷ 0xAA ∷ 0xAA ∷ 0xAA
    ∷ 0xAA ∷ 0xAA ∷ 0xAA ∷ 0xAA ∷ 0xAA ∷ 0x06 ∷ 0x40 ∷ 0x05 ∷ []) (HubPort AwaitingRequest) 1600
    ≡ Nak C10b (record { items = 0x00 ∷ 0x00 ∷ 0x00 ∷ 0x01 ∷ 0x06 ∷ 0x01 ∷ 0x00 ∷ 0x00 ∷ 0x07 ∷ 0x00 ∷ 0x93 ∷ [] })
unfolding verdict_on_literals
a_short_connect_is_refused = refl

a_connect_passes : outcome_of (0x06 ∷ 0x00 ∷ 0x00 ∷ 0x01 ∷ 0x02 ∷ 0x00 ∷ 0x00 ∷ 0x00 ∷ 0x00 ∷ 0x0A ∷ 0xAA ∷ 0xAA ∷ 0xAA ∷ 0xAA ∷ 0xAA ∷ 0xAA ∷ 0xAA ∷ 0xAA ∷ 0xAA ∷ 0xAA ∷ 0xAA ∷ 0xAA ∷ 0xAA
    ∷ 0xAA ∷ 0xAA ∷ 0xAA ∷ 0x06 ∷ 0x40 ∷ 0x05 ∷ 0xD9 ∷ []) (HubPort AwaitingRequest) 1600
    ≡ Pass (record {
      id = 1;
      origin = None;
      dest = None;
      dest_options = [];
      data_options = [];
      body = ConnectRequest (record { vmac = a; device = record { 0 = replicate 16 0xAA }; max_bvlc = 1600; max_npdu = 1497 });
    })
unfolding verdict_on_literals
a_connect_passes = refl

a_connect_with_the_reserved_address_is_refused : outcome_of (0x06 ∷ 0x00 ∷ 0x00 ∷ 0x01 ∷ 0x00 ∷ 0x00 ∷ 0x00 ∷ 0x00 ∷ 0x00 ∷ 0x00 ∷ 0xAA ∷ 0xAA ∷ 0xAA ∷ 0xAA ∷ 0xAA ∷ 0xAA ∷ 0xAA ∷ 0xAA
    ∷ 0xAA ∷ 0xAA ∷ 0xAA ∷ 0xAA ∷ 0xAA ∷ 0xAA ∷ 0xAA ∷ 0xAA ∷ 0x06 ∷ 0x40 ∷ 0x05 ∷ 0xD9 ∷ []) (HubPort AwaitingRequest) 1600
    ≡ Nak C11 (record { items = 0x00 ∷ 0x00 ∷ 0x00 ∷ 0x01 ∷ 0x06 ∷ 0x01 ∷ 0x00 ∷ 0x00 ∷ 0x07 ∷ 0x00 ∷ 0x50 ∷ [] })
unfolding verdict_on_literals
a_connect_with_the_reserved_address_is_refused = refl

-- ---- at a node, from its hub

-- an option with three octets of data too few, and one that is not understood
a_short_option_is_refused : outcome_of (0x01 ∷ 0x0A ∷ 0x00 ∷ 0x07 ∷ 0x02 ∷ 0x00 ∷ 0x00 ∷ 0x00 ∷ 0x00 ∷ 0x0A ∷ 0x5F ∷ 0x01 ∷ 0x00 ∷ []) (NodeHub b Connected) 1600
    ≡ Nak C7b (record { items = 0x00 ∷ 0x04 ∷ 0x00 ∷ 0x07 ∷ 0x02 ∷ 0x00 ∷ 0x00 ∷ 0x00 ∷ 0x00 ∷ 0x0A ∷ 0x01 ∷ 0x01 ∷ 0x00 ∷ 0x00 ∷ 0x07 ∷ 0x00 ∷ 0x91 ∷ [] })
unfolding verdict_on_literals
a_short_option_is_refused = refl

an_option_that_is_not_understood_is_refused : outcome_of (0x01 ∷ 0x0A ∷ 0x00 ∷ 0x07 ∷ 0x02 ∷ 0x00 ∷ 0x00 ∷ 0x00 ∷ 0x00 ∷ 0x0A ∷ 0x42 ∷ 0x01 ∷ 0x00 ∷ []) (NodeHub b Connected) 1600
    ≡ Nak C9 (record { items = 0x00 ∷ 0x04 ∷ 0x00 ∷ 0x07 ∷ 0x02 ∷ 0x00 ∷ 0x00 ∷ 0x00 ∷ 0x00 ∷ 0x0A ∷ 0x01 ∷ 0x01 ∷ 0x42 ∷ 0x00 ∷ 0x07 ∷ 0x00 ∷ 0x92 ∷ [] })
unfolding verdict_on_literals
an_option_that_is_not_understood_is_refused = refl

of_a_broadcast_it_is_silent : outcome_of (0x01 ∷ 0x0E ∷ 0x00 ∷ 0x07 ∷ 0x02 ∷ 0x00 ∷ 0x00 ∷ 0x00 ∷ 0x00 ∷ 0x0A ∷ 0xFF ∷ 0xFF ∷ 0xFF ∷ 0xFF ∷ 0xFF ∷ 0xFF ∷ 0x42 ∷ 0x01 ∷ 0x00 ∷ [])
    (NodeHub b Connected) 1600 ≡ Silent C9
unfolding verdict_on_literals
of_a_broadcast_it_is_silent = refl

an_npdu_passes : outcome_of (0x01 ∷ 0x08 ∷ 0x00 ∷ 0x07 ∷ 0x02 ∷ 0x00 ∷ 0x00 ∷ 0x00 ∷ 0x00 ∷ 0x0A ∷ 0x01 ∷ 0x00 ∷ []) (NodeHub b Connected) 1600
    ≡ Pass (record { id = 7; origin = Some a; dest = None; dest_options = []; data_options = []; body = Npdu (0x01 ∷ 0x00 ∷ []) })
unfolding verdict_on_literals
an_npdu_passes = refl
