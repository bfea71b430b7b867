-- Scenes of a node that is told to finish, in each state of its links, by computation.
-- No clause needs it: worked examples.
use Rattle.std.proofs.Common.{◌≡◌, ℕ, true, List, [], ◌∷◌, ◌++◌, refl, arith}
use Rattle.bsc_frame.specs.declared.body.Body.TheVariants.{AddressResolutionAck, ConnectRequest, ConnectAccept, DisconnectRequest, DisconnectAck}
use Rattle.bsc_connector.specs.declared.hub_use.HubUse.TheVariants.{NoHub, Primary as UsesPrimary}
use Rattle.bsc_accept.specs.Steps.{normal}
use Rattle.bsc_node.specs.declared.node_event.NodeEvent.TheVariants.{Start, Opened, DialFailed, Arrived, Lost, Tick, Finish, Send, Resolve, DirectTo}
use Rattle.bsc_node.specs.declared.timed_event.TimedEvent.{TimedEvent}
use Rattle.bsc_node.specs.declared.note.Note.TheVariants.{NoPath, HubNow, DirectUp, DirectDown, Finished}
use Rattle.bsc_node.specs.declared.action.Action.TheVariants.{Dial, Take, Close, Tell}
use Rattle.bsc_node.specs.Logs.{Made}
use Rattle.bsc_node.specs.Node.{each_actions, actions}
use Rattle.bsc_node.specs.Conditions.{may_all_come}
use Rattle.std.specs.Prelude.{codes, drop}
use Rattle.bsc_node.specs.Making.{MayBeMade}
use Rattle.bsc_octets.specs.Addresses.{same_vmac, zero_vmac, broadcast}
use Rattle.bsc_checks.proofs.Reflecting.{fails_of, one_address}
use Rattle.bsc_node.proofs.OnLiterals.{node_on_literals}
use Rattle.bsc_node.proofs.Scenes.{alone, peer, a, b, from, address, node, with_failover, primary_uri, plain, accept, primary, failover, direct, at, hears, puts, connects}

abbrev two_hubs : Made
two_hubs = node with_failover

-- No link is there: it has ended at once.
no_link : actions two_hubs (at 0 Finish ∷ []) ≡ Tell Finished ∷ []
unfolding node_on_literals
no_link = refl

-- Between two attempts no link is there either.
between_attempts : actions (node with_failover) (at 0 Start ∷ at 100 (DialFailed primary) ∷ at 150 (DialFailed failover) ∷ at 200 Finish ∷ []) ≡ Tell Finished ∷ []
unfolding node_on_literals
between_attempts = refl

-- AWAITING_WEBSOCKET: the link is closed; the failover isn't dialled any more.
awaiting_websocket : actions two_hubs (at 0 Start ∷ at 3 Finish ∷ []) ≡ Close primary normal ∷ Tell Finished ∷ []
unfolding node_on_literals
awaiting_websocket = refl

-- AWAITING_ACCEPT: the same.
awaiting_accept : actions two_hubs (at 0 Start ∷ at 5 (Opened primary) ∷ at 6 Finish ∷ []) ≡ Close primary normal ∷ Tell Finished ∷ []
unfolding node_on_literals
awaiting_accept = refl

-- Both hubs are under way: each is closed, and then it has ended.
both_under_way : actions two_hubs (at 0 Start ∷ at 100 (DialFailed primary) ∷ at 2100 Tick ∷ at 2200 Finish ∷ []) ≡ Close primary normal ∷ Close failover normal ∷ Tell Finished ∷ []
unfolding node_on_literals
both_under_way = refl

-- CONNECTED: a Disconnect-Request is put; DISCONNECTING: a second Finish does nothing. Its answer, the disconnect wait or
-- the end of the link ends the node, and nothing is dialled any more.
abbrev asked : List TimedEvent
asked = connects ++ at 100 Finish ∷ at 101 Finish ∷ at 10099 Tick ∷ []

connected : each_actions two_hubs (asked ++ hears 10099 primary (plain 2 DisconnectAck) ∷ [])
    ≡ each_actions two_hubs connects
    ++ (puts primary 2 DisconnectRequest ∷ [])
    ∷ []
    ∷ []
    ∷ (Close primary normal ∷ Tell (HubNow NoHub) ∷ Tell Finished ∷ [])
    ∷ []
unfolding node_on_literals
connected = refl

by_wait : actions two_hubs (asked ++ at 10100 Tick ∷ []) ≡ Close primary normal ∷ Tell (HubNow NoHub) ∷ Tell Finished ∷ []
unfolding node_on_literals
by_wait = refl

by_loss : actions two_hubs (asked ++ at 10100 (Lost primary) ∷ []) ≡ Tell (HubNow NoHub) ∷ Tell Finished ∷ []
unfolding node_on_literals
by_loss = refl

-- A hub connection, an established direct connection and one that awaits its Connect-Request: in the order of the
-- machines, with the next numbers; it has ended when the last link is over.
with_slots :
    each_actions two_hubs
    (connects ++ at 20 Arrived ∷ hears 21 (direct 0) (plain 1 (ConnectRequest a)) ∷ at 22 Arrived ∷ at 100 Finish ∷ hears 101 (direct 0) (plain 3 DisconnectAck)
    ∷ hears 102 primary (plain 2 DisconnectAck) ∷ [])
    ≡ each_actions two_hubs connects
    ++ (Take (direct 0) ∷ [])
    ∷ (puts (direct 0) 1 (ConnectAccept b) ∷ Tell (DirectUp (address 10)) ∷ [])
    ∷ (Take (direct 1) ∷ [])
    ∷ (puts primary 2 DisconnectRequest ∷ puts (direct 0) 3 DisconnectRequest ∷ Close (direct 1) normal ∷ [])
    ∷ (Close (direct 0) normal ∷ Tell (DirectDown (address 10)) ∷ [])
    ∷ (Close primary normal ∷ Tell (HubNow NoHub) ∷ Tell Finished ∷ [])
    ∷ []
unfolding node_on_literals
with_slots = refl

-- Six slots, each in another state: one that was dialled and is replaced (DISCONNECTING), one that was taken and is
-- established, one that was taken and awaits its Connect-Request, one that was dialled and awaits its accept, one whose
-- WebSocket isn't open, and the one that replaced the first.
abbrev d : ℕ
d = 13

abbrev d_uri : List ℕ
d_uri = codes "ws://d/"

abbrev six_slots : List TimedEvent
six_slots =
    connects ++ at 20 (Resolve (address d)) ∷ hears 21 primary (from d 2 (AddressResolutionAck d_uri)) ∷ at 22 (DirectTo (address d)) ∷ at 23 (Opened (direct 0))
    ∷ hears 24 (direct 0) (plain 3 (ConnectAccept (peer d 0xD0)))
    ∷ at 25 Arrived ∷ hears 26 (direct 1) (plain 1 (ConnectRequest a)) ∷ at 27 Arrived ∷ at 28 (Resolve (address 12)) ∷ hears 29 primary (from 12 4 (AddressResolutionAck d_uri))
    ∷ at 30 (DirectTo (address 12)) ∷ at 31 (Opened (direct 3))
    ∷ at 32 (DirectTo (address 12)) ∷ at 33 Arrived ∷ hears 34 (direct 5) (plain 1 (ConnectRequest (peer d 0xD0))) ∷ []

six_slots-finish :
    drop 16
    (each_actions (node alone)
    (six_slots ++ at 100 Finish ∷ hears 101 (direct 1) (plain 8 DisconnectAck) ∷ hears 102 (direct 0) (plain 6 DisconnectAck) ∷ hears 103 primary (plain 7 DisconnectAck)
    ∷ hears 104 (direct 5) (plain 9 DisconnectAck) ∷ []))
    ≡ (Take (direct 5) ∷ [])
    ∷ (puts (direct 5) 1 (ConnectAccept b) ∷ Tell (DirectUp (address d)) ∷ puts (direct 0) 6 DisconnectRequest ∷ [])
    ∷ (puts primary 7 DisconnectRequest ∷ puts (direct 1) 8 DisconnectRequest ∷ Close (direct 2) normal ∷ Close (direct 3) normal ∷ Close (direct 4) normal ∷ puts (direct 5) 9 DisconnectRequest ∷ [])
    ∷ (Close (direct 1) normal ∷ Tell (DirectDown (address 10)) ∷ [])
    ∷ (Close (direct 0) normal ∷ [])
    ∷ (Close primary normal ∷ Tell (HubNow NoHub) ∷ [])
    ∷ (Close (direct 5) normal ∷ Tell (DirectDown (address d)) ∷ Tell Finished ∷ [])
    ∷ []
unfolding node_on_literals
six_slots-finish = refl

-- ---- whole runs of a node without a failover

-- It connects, is told to finish, and its Disconnect-Request stays unanswered.
run_with_link :
    each_actions (node alone)
    (at 0 Start ∷ at 0 Tick ∷ at 50 Tick ∷ at 50 (Opened primary) ∷ hears 50 primary (accept 1) ∷ at 100 Tick ∷ at 100 Finish ∷ at 20000 Tick ∷ [])
    ≡ (Dial primary primary_uri ∷ [])
    ∷ []
    ∷ []
    ∷ (puts primary 1 (ConnectRequest b) ∷ [])
    ∷ (Tell (HubNow UsesPrimary) ∷ [])
    ∷ []
    ∷ (puts primary 2 DisconnectRequest ∷ [])
    ∷ (Close primary normal ∷ Tell (HubNow NoHub) ∷ Tell Finished ∷ [])
    ∷ []
unfolding node_on_literals
run_with_link = refl

-- No link comes: it dials twice.
run_without_link :
    each_actions (node alone)
    (at 0 Start ∷ at 0 Tick ∷ at 50 Tick ∷ at 50 (DialFailed primary) ∷ at 50 (Send (address 10) (1 ∷ 0 ∷ [])) ∷ at 2049 Tick ∷ at 2050 Tick ∷ at 2100 Tick ∷ at 2100 (DialFailed primary)
    ∷ at 2100 Finish ∷ [])
    ≡ (Dial primary primary_uri ∷ []) ∷ [] ∷ [] ∷ [] ∷ (Tell (NoPath (address 10)) ∷ []) ∷ [] ∷ (Dial primary primary_uri ∷ []) ∷ [] ∷ [] ∷ (Tell Finished ∷ []) ∷ []
unfolding node_on_literals
run_without_link = refl

-- ---- the events of these scenes may come

abbrev ends_with_slots : List TimedEvent
ends_with_slots =
    connects ++ at 20 Arrived ∷ hears 21 (direct 0) (plain 1 (ConnectRequest a)) ∷ at 22 Arrived ∷ at 100 Finish ∷ hears 101 (direct 0) (plain 3 DisconnectAck)
    ∷ hears 102 primary (plain 2 DisconnectAck) ∷ []

with_slots-lawful : may_all_come two_hubs ends_with_slots ≡ true
unfolding node_on_literals
with_slots-lawful = refl

six_slots-lawful : may_all_come (node alone) (six_slots ++ at 100 Finish ∷ []) ≡ true
unfolding node_on_literals
six_slots-lawful = refl

asked-lawful : may_all_come two_hubs (asked ++ at 10100 Tick ∷ []) ≡ true
unfolding node_on_literals
asked-lawful = refl

abbrev both : List TimedEvent
both = at 0 Start ∷ at 100 (DialFailed primary) ∷ at 2100 Tick ∷ at 2200 Finish ∷ at 50000 Tick ∷ []

under_way-lawful : may_all_come two_hubs both ≡ true
unfolding node_on_literals
under_way-lawful = refl

-- ---- what a node may be made with

-- B with a failover and these settings may be made.
may_be_made : MayBeMade (node with_failover)
unfolding node_on_literals
may_be_made = record {
  own = record {
    address = refl;
    device = refl;
    reserved = fails_of (b.vmac ≡ zero_vmac) (same_vmac b.vmac zero_vmac) (one_address b.vmac zero_vmac) refl;
    broadcast = fails_of (b.vmac ≡ broadcast) (same_vmac b.vmac broadcast) (one_address b.vmac broadcast) refl;
    bvlc = omega arith;
    npdu = omega arith;
  };
  uris = tt;
  times = record { connect_wait = omega arith; disconnect_wait = omega arith; heartbeat = omega arith };
  least = omega arith;
  greatest = omega arith;
}
