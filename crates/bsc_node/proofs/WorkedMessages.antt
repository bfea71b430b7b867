-- Scenes of messages over the hub, of what the checks refuse and of questions, by computation.
-- No clause needs it: worked examples.
use Rattle.std.proofs.Common.{◌≡◌, ℕ, true, false, List, [], ◌∷◌, ◌++◌, Some, None, replicate, refl}
use Rattle.std.specs.Prelude.{codes, drop}
use Rattle.bsc_options.specs.declared.item.OptionItem.{OptionItem}
use Rattle.bsc_frame.specs.declared.body.Body.TheVariants.{BvlcResult, Npdu, AddressResolution, AddressResolutionAck, Advertisement, AdvertisementSolicitation, ConnectRequest}
use Rattle.bsc_connector.specs.declared.hub_use.HubUse.TheVariants.{NoHub, Primary as UsesPrimary}
use Rattle.bsc_frame.specs.declared.answer.Answer.TheVariants.{Nak as NakAnswer}
use Rattle.bsc_node.specs.Messages.{nak}
use Rattle.bsc_node.specs.declared.node_event.NodeEvent.TheVariants.{Start, Opened, Came, Lost, Tick, Send, Resolve, DirectTo}
use Rattle.bsc_node.specs.declared.timed_event.TimedEvent.{TimedEvent}
use Rattle.bsc_node.specs.declared.note.Note.TheVariants.{HubNow, Uris, NoPath, TooLong, NoUris, AskPending, Advert as ToldAdvert, Nak}
use Rattle.bsc_node.specs.declared.action.Action.TheVariants.{Dial, Put, Deliver, Tell}
use Rattle.bsc_node.specs.Logs.{Made}
use Rattle.bsc_node.specs.Node.{each_actions, actions}
use Rattle.bsc_node.proofs.OnLiterals.{node_on_literals}
use Rattle.bsc_node.proofs.Scenes.{b, primary_uri, address, node, alone, reachable, own_uris, plain, from, to_all_from, for_node, accept, primary, direct, at, hears, puts, connects}

-- ---- what comes over the hub

-- A node that accepts no direct connections answers a question by a NAK, and one that does by its URIs.
no_direct_connections : actions (node alone) (connects ++ hears 20 primary (from 10 0x11 AddressResolution) ∷ []) ≡ Put primary (for_node 10 0x11 (nak 0x02 45)) ∷ []
unfolding node_on_literals
no_direct_connections = refl

no_direct_connections-octets : for_node 10 0x11 (nak 0x02 45)
    ≡ 0x00 ∷ 0x04 ∷ 0x00 ∷ 0x11 ∷ 0x02 ∷ 0x00 ∷ 0x00 ∷ 0x00 ∷ 0x00 ∷ 0x0A ∷ 0x02 ∷ 0x01 ∷ 0x00 ∷ 0x00 ∷ 0x07 ∷ 0x00 ∷ 0x2D ∷ []
no_direct_connections-octets = refl

own_uris_given : actions (node reachable) (connects ++ hears 20 primary (from 10 0x11 AddressResolution) ∷ []) ≡ Put primary (for_node 10 0x11 (AddressResolutionAck own_uris)) ∷ []
unfolding node_on_literals
own_uris_given = refl

-- The NAK is for a unicast only, the answer for a broadcast too.
asked_of_all : actions (node alone) (connects ++ hears 20 primary (to_all_from 10 0x13 AddressResolution) ∷ []) ≡ []
unfolding node_on_literals
asked_of_all = refl

asked_of_all-given : actions (node reachable) (connects ++ hears 20 primary (to_all_from 10 0x13 AddressResolution) ∷ []) ≡ Put primary (for_node 10 0x13 (AddressResolutionAck own_uris)) ∷ []
unfolding node_on_literals
asked_of_all-given = refl

-- A solicitation is answered by an Advertisement with the node's next number.
advertised : actions (node alone) (connects ++ hears 20 primary (from 10 0x12 AdvertisementSolicitation) ∷ [])
    ≡ Put primary (0x04 ∷ 0x04 ∷ 0x00 ∷ 0x02 ∷ 0x02 ∷ 0x00 ∷ 0x00 ∷ 0x00 ∷ 0x00 ∷ 0x0A ∷ 0x01 ∷ 0x00 ∷ 0x06 ∷ 0x40 ∷ 0x05 ∷ 0xD9 ∷ []) ∷ []
unfolding node_on_literals
advertised = refl

-- NPDUs are delivered, with their data options; an Advertisement is told.
delivered :
    drop 3
    (each_actions (node alone)
    (connects ++ hears 20 primary (record (to_all_from 10 0x14 (Npdu (1 ∷ 0 ∷ []))) { data_options = record { must = true; kind = 1; content = None } ∷ [] })
    ∷ hears 21 primary (from 10 0x15 (Npdu (1 ∷ 0 ∷ []))) ∷ hears 22 primary (from 10 0x16 (Advertisement (record { status = 2; accepts = 1; max_bvlc = 1600; max_npdu = 1497 }))) ∷ []))
    ≡ (Deliver (record { from = address 10; broadcast = true; data_options = record { must = true; kind = 1; content = None } ∷ []; npdu = 1 ∷ 0 ∷ [] }) ∷ [])
    ∷ (Deliver (record { from = address 10; broadcast = false; data_options = []; npdu = 1 ∷ 0 ∷ [] }) ∷ [])
    ∷ (Tell (ToldAdvert (address 10) (record { status = 2; accepts = 1; max_bvlc = 1600; max_npdu = 1497 })) ∷ [])
    ∷ []
unfolding node_on_literals
delivered = refl

-- ---- no path, nothing learnt, too long

nothing_learnt : actions (node alone) (at 0 (DirectTo (address 10)) ∷ []) ≡ Tell (NoUris (address 10)) ∷ []
unfolding node_on_literals
nothing_learnt = refl

no_path : actions (node alone) (at 0 Start ∷ at 1 (Send (address 10) (1 ∷ 0 ∷ [])) ∷ []) ≡ Tell (NoPath (address 10)) ∷ []
unfolding node_on_literals
no_path = refl

-- The hub takes messages of 1,489 octets: an NPDU of 1,479 makes one of these, and 1,480 are too long, though the hub takes
-- NPDUs of 1,480 and this node sends longer ones. What is too long has no number.
too_long : drop 3 (each_actions (node alone) (connects ++ at 20 (Send (address 10) (replicate 1480 0)) ∷ at 21 (Send (address 10) (replicate 1479 0)) ∷ []))
    ≡ (Tell (TooLong (address 10)) ∷ []) ∷ (Put primary (for_node 10 2 (Npdu (replicate 1479 0))) ∷ []) ∷ []
unfolding node_on_literals
too_long = refl

-- The node takes messages of 1,600 octets: a longer one is met by silence.
too_long_for_it : drop 3 (each_actions (node alone) (connects ++ hears 20 primary (from 10 9 (Npdu (replicate 1591 0))) ∷ hears 21 primary (from 10 9 (Npdu (replicate 1590 0))) ∷ []))
    ≡ [] ∷ (Deliver (record { from = address 10; broadcast = false; data_options = []; npdu = replicate 1590 0 }) ∷ []) ∷ []
unfolding node_on_literals
too_long_for_it = refl

-- ---- what the checks refuse

abbrev unknown : OptionItem
unknown = record { must = true; kind = 2; content = None }

-- A destination option that has to be understood, and isn't: the NAK goes to the sender. To all it is met by silence.
not_understood : drop 3 (each_actions (node alone) (connects ++ hears 20 primary (record (from 10 9 (Npdu (1 ∷ 0 ∷ []))) { dest_options = unknown ∷ [] })
    ∷ hears 21 primary (record (to_all_from 10 9 (Npdu (1 ∷ 0 ∷ []))) { dest_options = unknown ∷ [] }) ∷ []))
    ≡ (Put primary (for_node 10 9 (BvlcResult (NakAnswer 0x01 0x42 7 146 []))) ∷ []) ∷ [] ∷ []
unfolding node_on_literals
not_understood = refl

-- Octets that are no message: a Heartbeat-Request with a payload gets a NAK, a message without an Originating address none.
no_messages : drop 3 (each_actions (node alone) (connects ++ at 20 (Came primary (0x0A ∷ 0x00 ∷ 0x00 ∷ 0x05 ∷ 0xAA ∷ [])) ∷ at 21 (Came primary (0x01 ∷ 0x00 ∷ 0x00 ∷ 0x05 ∷ 0x01 ∷ 0x00 ∷ [])) ∷ []))
    ≡ (puts primary 5 (BvlcResult (NakAnswer 0x0A 0 7 150 [])) ∷ []) ∷ [] ∷ []
unfolding node_on_literals
no_messages = refl

-- Before the accept a message that isn't it is met by silence.
before_accept : actions (node alone) (at 0 Start ∷ at 5 (Opened primary) ∷ hears 6 primary (from 10 9 (Npdu (1 ∷ 0 ∷ []))) ∷ []) ≡ []
unfolding node_on_literals
before_accept = refl

-- ---- a question

abbrev pub three_uris : List ℕ
three_uris = codes "wss://x/ ws://1/ ws://2/"

abbrev pub the_node : Made
the_node = node alone

-- It is asked once; its NAK is told and drops it, and it can be asked again. An answer with an old Message ID, or of
-- another node, is passed over.
abbrev pub asks : List TimedEvent
asks =
    connects ++ at 20 (Resolve (address 10)) ∷ at 21 (Resolve (address 10)) ∷ hears 22 primary (from 10 2 (nak 0x02 45)) ∷ at 23 (Resolve (address 10))
    ∷ hears 24 primary (from 10 2 (AddressResolutionAck three_uris)) ∷ hears 25 primary (from 12 3 (AddressResolutionAck three_uris))
    ∷ hears 26 primary (from 10 3 (AddressResolutionAck three_uris)) ∷ hears 27 primary (from 10 3 (AddressResolutionAck three_uris)) ∷ []

asks-actions : drop 3 (each_actions the_node asks)
    ≡ (Put primary (for_node 10 2 AddressResolution) ∷ [])
    ∷ (Tell (AskPending (address 10)) ∷ [])
    ∷ (Tell (Nak (Some (address 10)) 2 45) ∷ [])
    ∷ (Put primary (for_node 10 3 AddressResolution) ∷ [])
    ∷ []
    ∷ []
    ∷ (Tell (Uris (address 10) three_uris) ∷ [])
    ∷ []
    ∷ []
unfolding node_on_literals
asks-actions = refl

-- The wait of 10,000 ms drops it, and not a millisecond less; then its answer is passed over, and it can be asked again.
wait_over :
    drop 3
    (each_actions the_node
    (connects ++ at 20 (Resolve (address 10)) ∷ at 10019 Tick ∷ at 10019 (Resolve (address 10)) ∷ at 10020 Tick ∷ hears 10021 primary (from 10 2 (AddressResolutionAck three_uris))
    ∷ at 10022 (DirectTo (address 10))
    ∷ at 10023 (Resolve (address 10)) ∷ []))
    ≡ (Put primary (for_node 10 2 AddressResolution) ∷ [])
    ∷ []
    ∷ (Tell (AskPending (address 10)) ∷ [])
    ∷ []
    ∷ []
    ∷ (Tell (NoUris (address 10)) ∷ [])
    ∷ (Put primary (for_node 10 3 AddressResolution) ∷ [])
    ∷ []
unfolding node_on_literals
wait_over = refl

-- The hub is lost while a question is under way: there is no path, and the question stands. Its answer counts when a hub is
-- connected again.
hub_lost : drop 3 (each_actions the_node (connects ++ at 20 (Resolve (address 10)) ∷ at 21 (Lost primary) ∷ at 22 (Resolve (address 10)) ∷ at 2021 Tick ∷ at 2022 (Opened primary)
    ∷ hears 2023 primary (accept 3) ∷ at 2024 (Resolve (address 10)) ∷ hears 2025 primary (from 10 2 (AddressResolutionAck three_uris)) ∷ []))
    ≡ (Put primary (for_node 10 2 AddressResolution) ∷ [])
    ∷ (Tell (HubNow NoHub) ∷ [])
    ∷ (Tell (NoPath (address 10)) ∷ [])
    ∷ (Dial primary primary_uri ∷ [])
    ∷ (puts primary 3 (ConnectRequest b) ∷ [])
    ∷ (Tell (HubNow UsesPrimary) ∷ [])
    ∷ (Tell (AskPending (address 10)) ∷ [])
    ∷ (Tell (Uris (address 10) three_uris) ∷ [])
    ∷ []
unfolding node_on_literals
hub_lost = refl

-- Its wait passes without a hub too: then it can be asked again.
hub_lost-wait : drop 7 (each_actions the_node (connects ++ at 20 (Resolve (address 10)) ∷ at 21 (Lost primary) ∷ at 2021 Tick ∷ at 2022 (Opened primary) ∷ hears 2023 primary (accept 3)
    ∷ at 10020 Tick ∷ at 10021 (Resolve (address 10)) ∷ []))
    ≡ (Tell (HubNow UsesPrimary) ∷ []) ∷ [] ∷ (Put primary (for_node 10 4 AddressResolution) ∷ []) ∷ []
unfolding node_on_literals
hub_lost-wait = refl

-- A repeated question keeps what was learnt: while it is under way, and after its NAK, the old URIs are dialled.
kept : drop 11 (each_actions the_node (asks ++ at 28 (Resolve (address 10)) ∷ hears 29 primary (from 10 4 (nak 0x02 45)) ∷ at 30 (DirectTo (address 10)) ∷ []))
    ≡ (Put primary (for_node 10 4 AddressResolution) ∷ []) ∷ (Tell (Nak (Some (address 10)) 2 45) ∷ []) ∷ (Dial (direct 0) (codes "ws://1/") ∷ []) ∷ []
unfolding node_on_literals
kept = refl

-- Only its own NAK drops a question: not one for another function, of another node, or with another Message ID.
other_naks :
    drop 4
    (each_actions the_node
    (connects ++ at 20 (Resolve (address 10)) ∷ hears 21 primary (from 10 2 (nak 0x01 45)) ∷ hears 22 primary (from 12 2 (nak 0x02 45)) ∷ hears 23 primary (from 10 3 (nak 0x02 45))
    ∷ hears 24 primary (plain 2 (nak 0x02 45)) ∷ at 25 (Resolve (address 10)) ∷ []))
    ≡ (Tell (Nak (Some (address 10)) 1 45) ∷ [])
    ∷ (Tell (Nak (Some (address 12)) 2 45) ∷ [])
    ∷ (Tell (Nak (Some (address 10)) 2 45) ∷ [])
    ∷ (Tell (Nak None 2 45) ∷ [])
    ∷ (Tell (AskPending (address 10)) ∷ [])
    ∷ []
unfolding node_on_literals
other_naks = refl
