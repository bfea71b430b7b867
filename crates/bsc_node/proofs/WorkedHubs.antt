-- Scenes of a node's hub connections, by computation: what the node does at each event.
-- No clause needs it: worked examples.
use Rattle.std.proofs.Common.{◌≡◌, true, List, [], ◌∷◌, ◌++◌, Some, None, refl}
use Rattle.bsc_frame.specs.declared.body.Body.TheVariants.{ConnectRequest, DisconnectRequest, DisconnectAck, HeartbeatRequest}
use Rattle.bsc_connector.specs.declared.hub_use.HubUse.TheVariants.{NoHub, Primary as UsesPrimary, Failover as UsesFailover}
use Rattle.bsc_accept.specs.declared.reason.Reason.TheVariants.{Nothing}
use Rattle.bsc_accept.specs.Steps.{normal}
use Rattle.bsc_node.specs.Messages.{nak}
use Rattle.bsc_node.specs.declared.node_event.NodeEvent.TheVariants.{Start, Opened, DialFailed, CameText, Lost, Tick}
use Rattle.bsc_node.specs.declared.timed_event.TimedEvent.{TimedEvent}
use Rattle.bsc_node.specs.declared.note.Note.TheVariants.{HubNow, Nak}
use Rattle.bsc_node.specs.declared.action.Action.TheVariants.{Dial, Close, Tell}
use Rattle.bsc_node.specs.Logs.{Made}
use Rattle.bsc_node.specs.Node.{each_actions, actions}
use Rattle.bsc_node.specs.Conditions.{may_all_come}
use Rattle.std.specs.Prelude.{drop}
use Rattle.bsc_node.proofs.OnLiterals.{node_on_literals}
use Rattle.bsc_node.proofs.Scenes.{b, address, node, alone, with_failover, idle, connect_wait_over, from, primary_uri, failover_uri, plain, accept, primary, failover, at, hears, puts, connects}

-- ---- the primary hub fails, the failover is dialled in the same step, and the primary hub comes back

abbrev two_hubs : Made
two_hubs = node with_failover

abbrev comes_back : List TimedEvent
comes_back =
    at 0 Start ∷ at 100 (DialFailed primary) ∷ at 150 (Opened failover) ∷ hears 200 failover (accept 1) ∷ at 2099 Tick ∷ at 2100 Tick
    ∷ at 2150 (Opened primary) ∷ hears 2200 primary (accept 2) ∷ hears 2300 failover (plain 3 DisconnectAck) ∷ []

comes_back-actions : each_actions two_hubs comes_back
    ≡ (Dial primary primary_uri ∷ [])
    ∷ (Dial failover failover_uri ∷ [])
    ∷ (puts failover 1 (ConnectRequest b) ∷ [])
    ∷ (Tell (HubNow UsesFailover) ∷ [])
    ∷ []
    ∷ (Dial primary primary_uri ∷ [])
    ∷ (puts primary 2 (ConnectRequest b) ∷ [])
    ∷ (Tell (HubNow UsesPrimary) ∷ puts failover 3 DisconnectRequest ∷ [])
    ∷ (Close failover normal ∷ [])
    ∷ []
unfolding node_on_literals
comes_back-actions = refl

-- The primary hub is lost: first the failover is dialled, then it is told that no hub is in use.
primary_lost : each_actions two_hubs (connects ++ at 500 (Lost primary) ∷ [])
    ≡ (Dial primary primary_uri ∷ [])
    ∷ (puts primary 1 (ConnectRequest b) ∷ [])
    ∷ (Tell (HubNow UsesPrimary) ∷ [])
    ∷ (Dial failover failover_uri ∷ Tell (HubNow NoHub) ∷ [])
    ∷ []
unfolding node_on_literals
primary_lost = refl

-- ---- the primary hub comes back while the failover is being dialled

-- Its WebSocket isn't open yet: it is closed. When the primary hub is lost, it is dialled at once.
before_open : each_actions two_hubs (at 0 Start ∷ at 100 (DialFailed primary) ∷ at 2100 Tick ∷ at 2150 (Opened primary) ∷ hears 2200 primary (accept 1) ∷ at 3000 (Lost primary) ∷ [])
    ≡ (Dial primary primary_uri ∷ [])
    ∷ (Dial failover failover_uri ∷ [])
    ∷ (Dial primary primary_uri ∷ [])
    ∷ (puts primary 1 (ConnectRequest b) ∷ [])
    ∷ (Tell (HubNow UsesPrimary) ∷ Close failover normal ∷ [])
    ∷ (Dial failover failover_uri ∷ Tell (HubNow NoHub) ∷ [])
    ∷ []
unfolding node_on_literals
before_open = refl

-- Its accept is awaited: it is closed.
before_accept :
    actions two_hubs (at 0 Start ∷ at 100 (DialFailed primary) ∷ at 150 (Opened failover) ∷ at 2100 Tick ∷ at 2150 (Opened primary) ∷ hears 2200 primary (accept 2) ∷ [])
    ≡ Tell (HubNow UsesPrimary) ∷ Close failover normal ∷ []
unfolding node_on_literals
before_accept = refl

-- A failover that was dropped while it was dialled is dialled anew, with a machine and a connect wait of its own.
dropped_dialled :
    drop 5
    (each_actions two_hubs
    (at 0 Start ∷ at 100 (DialFailed primary) ∷ at 2100 Tick ∷ at 2150 (Opened primary) ∷ hears 2200 primary (accept 1) ∷ at 3000 (Lost primary) ∷ at 3100 (Opened failover) ∷ at 12999 Tick
    ∷ at 13000 Tick ∷ []))
    ≡ (Dial failover failover_uri ∷ Tell (HubNow NoHub) ∷ [])
    ∷ (puts failover 2 (ConnectRequest b) ∷ [])
    ∷ (Dial primary primary_uri ∷ [])
    ∷ (Close failover connect_wait_over ∷ [])
    ∷ []
unfolding node_on_literals
dropped_dialled = refl

-- ---- a dropped failover whose link isn't over

-- The failover was connected, and its Disconnect-Request is unanswered.
abbrev lingers : List TimedEvent
lingers =
    at 0 Start ∷ at 100 (DialFailed primary) ∷ at 150 (Opened failover) ∷ hears 200 failover (accept 1) ∷ at 2100 Tick ∷ at 2150 (Opened primary)
    ∷ hears 2200 primary (accept 2) ∷ []

-- The primary hub is lost: the old link is closed before the failover is dialled again.
lingers-redialled : actions two_hubs (lingers ++ at 2400 (Lost primary) ∷ []) ≡ Close failover normal ∷ Dial failover failover_uri ∷ Tell (HubNow NoHub) ∷ []
unfolding node_on_literals
lingers-redialled = refl

-- The new link has a machine of its own.
lingers-opened : actions two_hubs (lingers ++ at 2400 (Lost primary) ∷ at 2500 (Opened failover) ∷ []) ≡ puts failover 4 (ConnectRequest b) ∷ []
unfolding node_on_literals
lingers-opened = refl

-- The old link is lost, or its disconnect wait passes: that is no failure of the failover.
lingers-lost : each_actions two_hubs (lingers ++ at 2300 (Lost failover) ∷ at 2400 (Lost primary) ∷ [])
    ≡ each_actions two_hubs lingers ++ [] ∷ (Dial failover failover_uri ∷ Tell (HubNow NoHub) ∷ []) ∷ []
unfolding node_on_literals
lingers-lost = refl

lingers-waits : each_actions two_hubs (lingers ++ at 12199 Tick ∷ at 12200 Tick ∷ at 13000 (Lost primary) ∷ [])
    ≡ each_actions two_hubs lingers ++ [] ∷ (Close failover normal ∷ []) ∷ (Dial failover failover_uri ∷ Tell (HubNow NoHub) ∷ []) ∷ []
unfolding node_on_literals
lingers-waits = refl

-- ---- the order within one Tick

-- The primary hub stays silent: a heartbeat, then the link is closed, and the failover is dialled in the same step. Then
-- both attempts get no accept. By the Tick at 612010 the machine closes the primary hub's link before the connector dials
-- the failover, whose next attempt is due then.
falls_silent : each_actions two_hubs (connects ++ at 300010 Tick ∷ at 600009 Tick ∷ at 600010 Tick ∷ at 602010 Tick ∷ at 610010 Tick ∷ at 612010 Tick ∷ at 616010 Tick ∷ [])
    ≡ each_actions two_hubs connects
    ++ (puts primary 2 HeartbeatRequest ∷ [])
    ∷ []
    ∷ (Close primary idle ∷ Dial failover failover_uri ∷ Tell (HubNow NoHub) ∷ [])
    ∷ (Dial primary primary_uri ∷ [])
    ∷ (Close failover connect_wait_over ∷ [])
    ∷ (Close primary connect_wait_over ∷ Dial failover failover_uri ∷ [])
    ∷ (Dial primary primary_uri ∷ [])
    ∷ []
unfolding node_on_literals
falls_silent = refl

-- The failover waits for its next attempt while the primary hub fails again: it is dialled when that is due, and not before.
waits_its_turn :
    drop 3
    (each_actions two_hubs
    (at 0 Start ∷ at 100 (DialFailed primary) ∷ at 150 (DialFailed failover) ∷ at 2100 Tick ∷ at 2110 (DialFailed primary) ∷ at 2149 Tick ∷ at 2150 Tick ∷ at 6109 Tick ∷ at 6110 Tick ∷ []))
    ≡ (Dial primary primary_uri ∷ []) ∷ [] ∷ [] ∷ (Dial failover failover_uri ∷ []) ∷ [] ∷ (Dial primary primary_uri ∷ []) ∷ []
unfolding node_on_literals
waits_its_turn = refl

-- ---- how a hub connection ends

-- by a text message
text : actions two_hubs (connects ++ at 20 (CameText primary) ∷ []) ≡ Close primary (record { code = 1003; reason = Nothing }) ∷ Dial failover failover_uri ∷ Tell (HubNow NoHub) ∷ []
unfolding node_on_literals
text = refl

-- by a text message on the failover: in use, dropped and not answered yet, and while its accept is awaited
text_failover : drop 4 (each_actions two_hubs (at 0 Start ∷ at 100 (DialFailed primary) ∷ at 150 (Opened failover) ∷ hears 200 failover (accept 1) ∷ at 300 (CameText failover) ∷ at 2300 Tick ∷ []))
    ≡ (Close failover (record { code = 1003; reason = Nothing }) ∷ Tell (HubNow NoHub) ∷ []) ∷ (Dial primary primary_uri ∷ Dial failover failover_uri ∷ []) ∷ []
unfolding node_on_literals
text_failover = refl

text_dropped : actions two_hubs (lingers ++ at 2300 (CameText failover) ∷ []) ≡ Close failover (record { code = 1003; reason = Nothing }) ∷ []
unfolding node_on_literals
text_dropped = refl

text_awaiting : drop 3 (each_actions two_hubs (at 0 Start ∷ at 100 (DialFailed primary) ∷ at 150 (Opened failover) ∷ at 160 (CameText failover) ∷ at 2160 Tick ∷ []))
    ≡ (Close failover (record { code = 1003; reason = Nothing }) ∷ []) ∷ (Dial primary primary_uri ∷ Dial failover failover_uri ∷ []) ∷ []
unfolding node_on_literals
text_awaiting = refl

-- by the hub's Disconnect-Request
hub_ends : actions (node with_failover) (connects ++ hears 20 primary (plain 7 DisconnectRequest) ∷ [])
    ≡ puts primary 7 DisconnectAck ∷ Close primary normal ∷ Dial failover failover_uri ∷ Tell (HubNow NoHub) ∷ []
unfolding node_on_literals
hub_ends = refl

-- by a refusal for another cause than a duplicate VMAC
refused : actions (node with_failover) (at 0 Start ∷ at 5 (Opened primary) ∷ hears 10 primary (plain 1 (nak 0x06 45)) ∷ [])
    ≡ Close primary normal ∷ Tell (Nak None 6 45) ∷ Dial failover failover_uri ∷ []
unfolding node_on_literals
refused = refl

-- by a refusal that came from another address than the hub's own: that address is told
refused_from : actions (node alone) (at 0 Start ∷ at 5 (Opened primary) ∷ hears 10 primary (from 12 1 (nak 0x06 45)) ∷ [])
    ≡ Close primary normal ∷ Tell (Nak (Some (address 12)) 6 45) ∷ []
unfolding node_on_literals
refused_from = refl

-- A NAK of the hub itself is told without an address, and one that the hub passes on with that of the node.
naks : drop 3 (each_actions (node alone) (connects ++ hears 20 primary (plain 8 (nak 0x01 45)) ∷ hears 21 primary (from 12 9 (nak 0x01 45)) ∷ []))
    ≡ (Tell (Nak None 1 45) ∷ []) ∷ (Tell (Nak (Some (address 12)) 1 45) ∷ []) ∷ []
unfolding node_on_literals
naks = refl

-- ---- these events may come

comes_back-lawful : may_all_come two_hubs comes_back ≡ true
unfolding node_on_literals
comes_back-lawful = refl

abbrev silence : List TimedEvent
silence = connects ++ at 300010 Tick ∷ at 600009 Tick ∷ at 600010 Tick ∷ at 602010 Tick ∷ at 610010 Tick ∷ at 612010 Tick ∷ at 616010 Tick ∷ []

silence-lawful : may_all_come two_hubs silence ≡ true
unfolding node_on_literals
silence-lawful = refl

abbrev lingering : List TimedEvent
lingering = lingers ++ at 2400 (Lost primary) ∷ at 2500 (Opened failover) ∷ at 12200 Tick ∷ []

lingering-lawful : may_all_come two_hubs lingering ≡ true
unfolding node_on_literals
lingering-lawful = refl

abbrev waiting : List TimedEvent
waiting = at 0 Start ∷ at 100 (DialFailed primary) ∷ at 150 (DialFailed failover) ∷ at 2100 Tick ∷ at 2110 (DialFailed primary) ∷ at 2150 Tick ∷ at 2160 (Opened failover)
    ∷ at 2170 (CameText failover) ∷ at 6110 Tick ∷ []

waiting-lawful : may_all_come two_hubs waiting ≡ true
unfolding node_on_literals
waiting-lawful = refl
