-- Scenes of direct connections, by computation.
-- No clause needs it: worked examples.
use Rattle.std.proofs.Common.{◌≡◌, ◌+◌, true, false, List, [], ◌∷◌, ◌++◌, Some, replicate, refl}
use Rattle.std.specs.Prelude.{codes, drop}
use Rattle.bsc_octets.specs.Addresses.{broadcast}
use Rattle.bsc_frame.specs.declared.body.Body.TheVariants.{Npdu, AddressResolution, AdvertisementSolicitation, ConnectRequest, ConnectAccept, DisconnectRequest, DisconnectAck}
use Rattle.bsc_frame.specs.declared.body.Body.TheVariants.{HeartbeatRequest, HeartbeatAck}
use Rattle.bsc_connector.specs.declared.hub_use.HubUse.TheVariants.{NoHub}
use Rattle.bsc_direct.specs.declared.bounds.TheConstants.{SLOTS}
use Rattle.bsc_accept.specs.declared.reason.Reason.TheVariants.{Nothing, TableFull, WrongPeer, Idle, ConnectWait}
use Rattle.bsc_accept.specs.Steps.{closing, normal}
use Rattle.bsc_node.specs.Messages.{nak}
use Rattle.bsc_node.specs.declared.node_event.NodeEvent.TheVariants.{Opened, DialFailed, Arrived, CameText, Lost, Tick, Send, Resolve, DirectTo, Solicit}
use Rattle.bsc_node.specs.declared.timed_event.TimedEvent.{TimedEvent}
use Rattle.bsc_node.specs.declared.note.Note.TheVariants.{HubNow, DirectUp, DirectDown, TooLong, SlotsFull, AskPending, NoDirect, Nak}
use Rattle.bsc_node.specs.declared.action.Action.TheVariants.{Dial, Take, Refuse, Put, Close, Deliver, Tell}
use Rattle.bsc_node.specs.Node.{each_actions, actions}
use Rattle.bsc_node.specs.Conditions.{may_all_come}
use Rattle.bsc_node.proofs.OnLiterals.{node_on_literals}
use Rattle.bsc_node.proofs.WorkedMessages.{the_node, asks}
use Rattle.bsc_node.proofs.Scenes.{a, b, c, peer, address, plain, from, for_node, primary, direct, at, hears, puts, connects}

-- ---- a direct connection that is dialled

-- One URI after the other, of those that can be dialled; then it is given up, and can be begun anew.
given_up : drop 11 (each_actions the_node (asks ++ at 30 (DirectTo (address 10)) ∷ at 31 (DialFailed (direct 0)) ∷ at 32 (DialFailed (direct 0)) ∷ at 33 (DirectTo (address 10)) ∷ []))
    ≡ (Dial (direct 0) (codes "ws://1/") ∷ [])
    ∷ (Dial (direct 0) (codes "ws://2/") ∷ [])
    ∷ (Tell (NoDirect (address 10)) ∷ [])
    ∷ (Dial (direct 0) (codes "ws://1/") ∷ [])
    ∷ []
unfolding node_on_literals
given_up = refl

abbrev dials : List TimedEvent
dials = asks ++ at 30 (DirectTo (address 10)) ∷ at 31 (Opened (direct 0)) ∷ []

abbrev meets : List TimedEvent
meets = dials ++ hears 32 (direct 0) (plain 4 (ConnectAccept a)) ∷ []

-- It is established, and a message goes over it without addresses; a broadcast goes over the hub. A second DirectTo does
-- nothing.
established : drop 11 (each_actions the_node (meets ++ at 33 (Send (address 10) (1 ∷ 0 ∷ [])) ∷ at 34 (Send broadcast (1 ∷ 0 ∷ [])) ∷ at 35 (DirectTo (address 10))
    ∷ at 36 (Solicit (address 10)) ∷ []))
    ≡ (Dial (direct 0) (codes "ws://1/") ∷ [])
    ∷ (puts (direct 0) 4 (ConnectRequest b) ∷ [])
    ∷ (Tell (DirectUp (address 10)) ∷ [])
    ∷ (puts (direct 0) 5 (Npdu (1 ∷ 0 ∷ [])) ∷ [])
    ∷ (Put primary (0x01 ∷ 0x04 ∷ 0x00 ∷ 0x06 ∷ 0xFF ∷ 0xFF ∷ 0xFF ∷ 0xFF ∷ 0xFF ∷ 0xFF ∷ 0x01 ∷ 0x00 ∷ []) ∷ [])
    ∷ []
    ∷ (puts (direct 0) 7 AdvertisementSolicitation ∷ [])
    ∷ []
unfolding node_on_literals
established = refl

-- What comes over it is the peer's.
peers : drop 14 (each_actions the_node (meets ++ hears 33 (direct 0) (plain 9 (Npdu (1 ∷ 2 ∷ []))) ∷ hears 34 (direct 0) (plain 9 AddressResolution)
    ∷ hears 35 (direct 0) (plain 9 HeartbeatRequest) ∷ at 36 (Lost (direct 0)) ∷ at 37 (Send (address 10) (1 ∷ 0 ∷ [])) ∷ []))
    ≡ (Deliver (record { from = address 10; broadcast = false; data_options = []; npdu = 1 ∷ 2 ∷ [] }) ∷ [])
    ∷ (puts (direct 0) 9 (nak 0x02 45) ∷ [])
    ∷ (puts (direct 0) 9 HeartbeatAck ∷ [])
    ∷ (Tell (DirectDown (address 10)) ∷ [])
    ∷ (Put primary (for_node 10 5 (Npdu (1 ∷ 0 ∷ []))) ∷ [])
    ∷ []
unfolding node_on_literals
peers = refl

-- An Originating Virtual Address is the peer's there, or the message is met by silence.
addressed : drop 14 (each_actions the_node (meets ++ hears 33 (direct 0) (from 10 9 (Npdu (1 ∷ 2 ∷ []))) ∷ hears 34 (direct 0) (from 12 9 (Npdu (1 ∷ 2 ∷ []))) ∷ []))
    ≡ (Deliver (record { from = address 10; broadcast = false; data_options = []; npdu = 1 ∷ 2 ∷ [] }) ∷ []) ∷ [] ∷ []
unfolding node_on_literals
addressed = refl

-- Another peer than the wanted one: the link is closed, and nothing was up. Messages for either go over the hub, and the
-- slot is free again.
wrong_peer :
    drop 13
    (each_actions the_node (dials ++ hears 32 (direct 0) (plain 4 (ConnectAccept c)) ∷ at 33 (Send (address 10) (1 ∷ 0 ∷ [])) ∷ at 34 (Send (address 12) (1 ∷ 0 ∷ [])) ∷ at 35 Arrived ∷ []))
    ≡ (Close (direct 0) (closing 1008 WrongPeer) ∷ [])
    ∷ (Put primary (for_node 10 5 (Npdu (1 ∷ 0 ∷ []))) ∷ [])
    ∷ (Put primary (for_node 12 6 (Npdu (1 ∷ 0 ∷ []))) ∷ [])
    ∷ (Take (direct 0) ∷ [])
    ∷ []
unfolding node_on_literals
wrong_peer = refl

-- Another device came up with the wanted VMAC in slot 1 meanwhile: the dialled link is a duplicate, it is closed, and nothing
-- more is told. The path is slot 1.
duplicate_dialled :
    drop 13
    (each_actions the_node
    (dials ++ at 32 Arrived ∷ hears 33 (direct 1) (plain 1 (ConnectRequest (peer 0x0A 0xDD))) ∷ hears 34 (direct 0) (plain 4 (ConnectAccept a)) ∷ at 35 (Send (address 10) (1 ∷ 0 ∷ []))
    ∷ at 36 Arrived ∷ []))
    ≡ (Take (direct 1) ∷ [])
    ∷ (puts (direct 1) 1 (ConnectAccept b) ∷ Tell (DirectUp (address 10)) ∷ [])
    ∷ (Close (direct 0) (closing 1008 WrongPeer) ∷ [])
    ∷ (puts (direct 1) 5 (Npdu (1 ∷ 0 ∷ [])) ∷ [])
    ∷ (Take (direct 0) ∷ [])
    ∷ []
unfolding node_on_literals
duplicate_dialled = refl

-- The connect wait passes without an accept: the slot is free again, and no further URI is dialled.
no_accept : drop 13 (each_actions the_node (dials ++ at 10029 Tick ∷ at 10030 Tick ∷ at 10031 Arrived ∷ [])) ≡ [] ∷ (Close (direct 0) (closing 1008 ConnectWait) ∷ []) ∷ (Take (direct 0) ∷ []) ∷ []
unfolding node_on_literals
no_accept = refl

-- A text message closes a direct connection in each of its states: established, dialled and taken.
text_established : actions the_node (meets ++ at 33 (CameText (direct 0)) ∷ []) ≡ Close (direct 0) (closing 1003 Nothing) ∷ Tell (DirectDown (address 10)) ∷ []
unfolding node_on_literals
text_established = refl

text_dialled : actions the_node (dials ++ at 32 (CameText (direct 0)) ∷ []) ≡ Close (direct 0) (closing 1003 Nothing) ∷ []
unfolding node_on_literals
text_dialled = refl

text_taken : actions the_node (connects ++ at 20 Arrived ∷ at 21 (CameText (direct 0)) ∷ []) ≡ Close (direct 0) (closing 1003 Nothing) ∷ []
unfolding node_on_literals
text_taken = refl

-- One that was taken and is established too.
text_taken_established : actions the_node (connects ++ at 20 Arrived ∷ hears 21 (direct 0) (plain 1 (ConnectRequest a)) ∷ at 22 (CameText (direct 0)) ∷ [])
    ≡ Close (direct 0) (closing 1003 Nothing) ∷ Tell (DirectDown (address 10)) ∷ []
unfolding node_on_literals
text_taken_established = refl

-- Refused: the wanted VMAC is named.
refused : actions the_node (dials ++ hears 32 (direct 0) (plain 4 (nak 0x06 151)) ∷ []) ≡ Close (direct 0) normal ∷ Tell (Nak (Some (address 10)) 6 151) ∷ []
unfolding node_on_literals
refused = refl

-- No VMAC is drawn for a refusal over a direct connection, also where no other link is there.
refused_alone : actions the_node (dials ++ at 32 (Lost primary) ∷ hears 33 (direct 0) (plain 4 (nak 0x06 151)) ∷ []) ≡ Close (direct 0) normal ∷ Tell (Nak (Some (address 10)) 6 151) ∷ []
unfolding node_on_literals
refused_alone = refl

-- A question goes over the direct connection, and its NAK over that drops it: it can be asked again.
nak_direct : drop 14 (each_actions the_node (meets ++ at 33 (Resolve (address 10)) ∷ at 34 (Resolve (address 10)) ∷ hears 35 (direct 0) (plain 5 (nak 0x02 45)) ∷ at 36 (Resolve (address 10))
    ∷ hears 37 (direct 0) (plain 9 (nak 0x01 45)) ∷ []))
    ≡ (puts (direct 0) 5 AddressResolution ∷ [])
    ∷ (Tell (AskPending (address 10)) ∷ [])
    ∷ (Tell (Nak (Some (address 10)) 2 45) ∷ [])
    ∷ (puts (direct 0) 6 AddressResolution ∷ [])
    ∷ (Tell (Nak (Some (address 10)) 1 45) ∷ [])
    ∷ []
unfolding node_on_literals
nak_direct = refl

-- A takes NPDUs of 600 octets: over the direct connection that counts, and not what the hub takes.
too_long_direct : drop 14 (each_actions the_node (meets ++ at 33 (Send (address 10) (replicate 601 0)) ∷ at 34 (Send (address 10) (replicate 600 0)) ∷ []))
    ≡ (Tell (TooLong (address 10)) ∷ []) ∷ (puts (direct 0) 5 (Npdu (replicate 600 0)) ∷ []) ∷ []
unfolding node_on_literals
too_long_direct = refl

-- ---- a direct connection that is taken

-- A dials while slot 0 is established for it: the new connection is up, and the old slot is told to finish with the next
-- number. The path is the new slot. The old link's end tells nothing; the new one's does.
replaced : drop 14 (each_actions the_node (meets ++ at 40 Arrived ∷ hears 41 (direct 1) (plain 1 (ConnectRequest a)) ∷ at 42 (Send (address 10) (1 ∷ 0 ∷ []))
    ∷ hears 43 (direct 0) (plain 5 DisconnectAck) ∷ at 44 (Lost (direct 1)) ∷ []))
    ≡ (Take (direct 1) ∷ [])
    ∷ (puts (direct 1) 1 (ConnectAccept b) ∷ Tell (DirectUp (address 10)) ∷ puts (direct 0) 5 DisconnectRequest ∷ [])
    ∷ (puts (direct 1) 6 (Npdu (1 ∷ 0 ∷ [])) ∷ [])
    ∷ (Close (direct 0) normal ∷ [])
    ∷ (Tell (DirectDown (address 10)) ∷ [])
    ∷ []
unfolding node_on_literals
replaced = refl

-- The other way round: slot 0 was taken of A, and then this node's own attempt in slot 1 is accepted.
replaced_taken :
    drop 11
    (each_actions the_node
    (asks ++ at 28 Arrived ∷ at 29 (DirectTo (address 10)) ∷ at 30 (Opened (direct 1)) ∷ hears 31 (direct 0) (plain 1 (ConnectRequest a)) ∷ hears 32 (direct 1) (plain 4 (ConnectAccept a))
    ∷ at 10032 Tick ∷ []))
    ≡ (Take (direct 0) ∷ [])
    ∷ (Dial (direct 1) (codes "ws://1/") ∷ [])
    ∷ (puts (direct 1) 4 (ConnectRequest b) ∷ [])
    ∷ (puts (direct 0) 1 (ConnectAccept b) ∷ Tell (DirectUp (address 10)) ∷ [])
    ∷ (Tell (DirectUp (address 10)) ∷ puts (direct 0) 5 DisconnectRequest ∷ [])
    ∷ (Close (direct 0) normal ∷ [])
    ∷ []
unfolding node_on_literals
replaced_taken = refl

-- Another device has A's VMAC, or this node's: it gets the NAK, and the link is closed. The slot is free again.
duplicate : drop 14 (each_actions the_node (meets ++ at 40 Arrived ∷ hears 41 (direct 1) (plain 1 (ConnectRequest (peer 0x0A 0xDD))) ∷ at 42 Arrived
    ∷ hears 43 (direct 1) (plain 1 (ConnectRequest (peer 0x0B 0xDD))) ∷ []))
    ≡ (Take (direct 1) ∷ [])
    ∷ (puts (direct 1) 1 (nak 0x06 151) ∷ Close (direct 1) normal ∷ [])
    ∷ (Take (direct 1) ∷ [])
    ∷ (puts (direct 1) 1 (nak 0x06 151) ∷ Close (direct 1) normal ∷ [])
    ∷ []
unfolding node_on_literals
duplicate = refl

-- All slots are claimed: the next link is refused, and no slot is dialled. One that is lost can be claimed again.
all_claimed : actions the_node (asks ++ replicate (SLOTS + 1) (at 40 Arrived)) ≡ Refuse (closing 1008 TableFull) ∷ []
unfolding node_on_literals
all_claimed = refl

all_claimed-direct : actions the_node (asks ++ replicate SLOTS (at 40 Arrived) ++ at 41 (DirectTo (address 10)) ∷ []) ≡ Tell SlotsFull ∷ []
unfolding node_on_literals
all_claimed-direct = refl

all_claimed-lost : actions the_node (connects ++ replicate SLOTS (at 40 Arrived) ++ at 41 (Lost (direct 7)) ∷ at 42 Arrived ∷ []) ≡ Take (direct 7) ∷ []
unfolding node_on_literals
all_claimed-lost = refl

-- Nothing came for twice the heartbeat: the links are closed in the order of the machines.
falls_silent : actions the_node (connects ++ at 20 Arrived ∷ hears 20 (direct 0) (plain 1 (ConnectRequest a)) ∷ at 600020 Tick ∷ [])
    ≡ Close primary (closing 1008 Idle) ∷ Tell (HubNow NoHub) ∷ Close (direct 0) (closing 1008 Idle) ∷ Tell (DirectDown (address 10)) ∷ []
unfolding node_on_literals
falls_silent = refl

-- ---- these events may come

abbrev double_dialled : List TimedEvent
double_dialled = dials ++ at 32 Arrived ∷ hears 33 (direct 1) (plain 1 (ConnectRequest (peer 0x0A 0xDD))) ∷ hears 34 (direct 0) (plain 4 (ConnectAccept a))
    ∷ at 35 (Send (address 10) (1 ∷ 0 ∷ [])) ∷ at 36 Arrived ∷ []

double_dialled-lawful : may_all_come the_node double_dialled ≡ true
unfolding node_on_literals
double_dialled-lawful = refl

abbrev nak_over_it : List TimedEvent
nak_over_it = meets ++ at 33 (Resolve (address 10)) ∷ hears 35 (direct 0) (plain 5 (nak 0x02 45)) ∷ at 36 (CameText (direct 0)) ∷ at 37 Arrived ∷ at 38 (CameText (direct 0)) ∷ []

nak_over_it-lawful : may_all_come the_node nak_over_it ≡ true
unfolding node_on_literals
nak_over_it-lawful = refl

abbrev replacing : List TimedEvent
replacing = meets ++ at 40 Arrived ∷ hears 41 (direct 1) (plain 1 (ConnectRequest a)) ∷ at 42 (Send (address 10) (1 ∷ 0 ∷ [])) ∷ hears 43 (direct 0) (plain 5 DisconnectAck)
    ∷ at 44 (Lost (direct 1)) ∷ []

replacing-lawful : may_all_come the_node replacing ≡ true
unfolding node_on_literals
replacing-lawful = refl

abbrev crossing : List TimedEvent
crossing =
    asks ++ at 28 Arrived ∷ at 29 (DirectTo (address 10)) ∷ at 30 (Opened (direct 1)) ∷ hears 31 (direct 0) (plain 1 (ConnectRequest a)) ∷ hears 32 (direct 1) (plain 4 (ConnectAccept a))
    ∷ at 10032 Tick ∷ []

crossing-lawful : may_all_come the_node crossing ≡ true
unfolding node_on_literals
crossing-lawful = refl

abbrev doubling : List TimedEvent
doubling = meets ++ at 40 Arrived ∷ hears 41 (direct 1) (plain 1 (ConnectRequest (peer 0x0A 0xDD))) ∷ at 42 Arrived ∷ hears 43 (direct 1) (plain 1 (ConnectRequest (peer 0x0B 0xDD))) ∷ []

doubling-lawful : may_all_come the_node doubling ≡ true
unfolding node_on_literals
doubling-lawful = refl
