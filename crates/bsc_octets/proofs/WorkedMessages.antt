-- Messages and an identity written out in octets, with what the definitions make of them.
-- No clause needs it: worked examples.
use Rattle.std.proofs.Common.{◌≡◌, ℕ, true, false, List, [], ◌∷◌, ◌++◌, take, Some, None, Ok, Err, replicate, refl}
use Rattle.bsc_octets.specs.declared.vmac.Vmac.{Vmac}
use Rattle.bsc_octets.specs.declared.identity.Identity.{Identity}
use Rattle.bsc_octets.specs.declared.envelope.EnvelopeFault.TheVariants.{Short, Cut}
use Rattle.bsc_octets.specs.Addresses.{broadcast}
use Rattle.bsc_octets.specs.Envelopes.{envelope_of}
use Rattle.bsc_octets.specs.Forwarding.{has_route, is_broadcast, out}
use Rattle.bsc_octets.specs.Identities.{identity_octets, identity_of}

-- the VMACs of a sender and of the node that it writes to
abbrev sender : Vmac
sender = record { 0 = 0x02 ∷ 0x00 ∷ 0x00 ∷ 0x00 ∷ 0x00 ∷ 0x0A ∷ [] }

abbrev receiver : Vmac
receiver = record { 0 = 0x02 ∷ 0x00 ∷ 0x00 ∷ 0x00 ∷ 0x00 ∷ 0x0B ∷ [] }

-- a Who-Is to all networks
abbrev npdu : List ℕ
npdu = 0x01 ∷ 0x20 ∷ 0xFF ∷ 0xFF ∷ 0x00 ∷ 0xFF ∷ 0x10 ∷ 0x08 ∷ []

-- an Encapsulated-NPDU with Message ID 2, to the receiver
abbrev unicast : List ℕ
unicast = (0x01 ∷ 0x04 ∷ 0x00 ∷ 0x02 ∷ []) ++ receiver.0 ++ npdu

-- the same to all nodes
abbrev to_all : List ℕ
to_all = (0x01 ∷ 0x04 ∷ 0x00 ∷ 0x02 ∷ []) ++ broadcast.0 ++ npdu

-- ---- envelopes

unicast_envelope : envelope_of unicast ≡ Ok (record { function = 1; flags = 4; id = 2; origin = None; dest = Some receiver; rest_at = 10 })
unfolding envelope_of
unicast_envelope = refl

heartbeat_envelope : envelope_of (0x0A ∷ 0x00 ∷ 0x12 ∷ 0x34 ∷ []) ≡ Ok (record { function = 10; flags = 0; id = 0x1234; origin = None; dest = None; rest_at = 4 })
unfolding envelope_of
heartbeat_envelope = refl

cut_address : envelope_of (take 9 unicast) ≡ Err Cut
unfolding envelope_of
cut_address = refl

three_octets : envelope_of (take 3 unicast) ≡ Err Short
unfolding envelope_of
three_octets = refl

-- ---- the same messages as the hub passes them on

unicast_has_route : has_route unicast ≡ true
unicast_has_route = refl

unicast_is_no_broadcast : is_broadcast unicast ≡ false
unicast_is_no_broadcast = refl

unicast_out : out unicast sender ≡ (0x01 ∷ 0x08 ∷ 0x00 ∷ 0x02 ∷ []) ++ sender.0 ++ npdu
unfolding out
unicast_out = refl

unicast_out_envelope : envelope_of (out unicast sender) ≡ Ok (record { function = 1; flags = 8; id = 2; origin = Some sender; dest = None; rest_at = 10 })
unfolding envelope_of out
unicast_out_envelope = refl

to_all_is_broadcast : is_broadcast to_all ≡ true
to_all_is_broadcast = refl

to_all_out : out to_all sender ≡ (0x01 ∷ 0x0C ∷ 0x00 ∷ 0x02 ∷ []) ++ sender.0 ++ broadcast.0 ++ npdu
unfolding out
to_all_out = refl

to_all_out_envelope : envelope_of (out to_all sender) ≡ Ok (record { function = 1; flags = 12; id = 2; origin = Some sender; dest = Some broadcast; rest_at = 16 })
unfolding envelope_of out
to_all_out_envelope = refl

-- ---- an identity

abbrev peer : Identity
peer = record { vmac = sender; device = record { 0 = replicate 16 0xAA }; max_bvlc = 1600; max_npdu = 1497 }

peer_octets : identity_octets peer ≡ sender.0 ++ replicate 16 0xAA ++ 0x06 ∷ 0x40 ∷ 0x05 ∷ 0xD9 ∷ []
peer_octets = refl

peer_read_back : identity_of (identity_octets peer) ≡ peer
peer_read_back = refl
