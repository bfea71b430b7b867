-- A network of two hubs and three nodes, written out: A and B at the first hub, and over a direct connection; A connects to that hub once
-- more, in place of its first connection; C can't reach the first hub and uses the second as its failover.
-- No clause needs it: worked examples.
use Rattle.std.proofs.Common.{◌≡◌, ℕ, suc, true, false, List, [], ◌∷◌, Option, Some, None, refl, ap, lit<}
use Rattle.std.specs.Prelude.{codes, filter_map, flat_map, slice_index, unwrap_or, slice_get}
use Rattle.std.specs.List.{list_all}
use Rattle.bsc_octets.specs.declared.vmac.Vmac.{Vmac}
use Rattle.bsc_octets.specs.Addresses.{broadcast}
use Rattle.bsc_frame.specs.Payloads.{IsNode}
use Rattle.bsc_connector.specs.declared.side.Side.TheVariants.{Failover, Primary}
use Rattle.bsc_node.specs.declared.link_name.LinkName.{LinkName}
use Rattle.bsc_node.specs.declared.link_name.LinkName.TheVariants.{Direct, Hub}
use Rattle.bsc_node.specs.declared.node_event.NodeEvent.TheVariants.{Arrived, Came, DialFailed, DirectTo, Lost, Opened, Resolve, Send, Start, Tick}
use Rattle.bsc_node.specs.declared.timed_event.TimedEvent.{TimedEvent}
use Rattle.bsc_node.specs.declared.action.Action.{Action}
use Rattle.bsc_node.specs.declared.action.Action.TheVariants.{Deliver}
use Rattle.bsc_node.specs.declared.delivered.Delivered.{Delivered}
use Rattle.bsc_node.specs.Conditions.{may_all_come}
use Rattle.bsc_node.specs.Logs.{Line, Log, Made, came}
use Rattle.bsc_node.specs.Node.{each_actions, log}
use Rattle.bsc_node.proofs.OnLiterals.{node_on_literals}
use Rattle.bsc_node_links.specs.Lives.{LinkLife}
use Rattle.bsc_node_links.proofs.NodeWords.{at, node as a_node}
use Rattle.bsc_network_of_runs.specs.Deliveries.{DeliversWhatWasSent, RunsDeliverWhatWasSent}
use Rattle.bsc_network_of_runs.specs.Networks.{AreLinks, Network, of_node, of_session}
use Rattle.bsc_network_of_runs.specs.Nodes.{NodeRun}
use Rattle.bsc_network_of_runs.proofs.Coming.{event_here}
use Rattle.bsc_network_of_runs.proofs.Linking.{Wire, are_links, begun_by, is_linked, other_by}
use Rattle.bsc_network_of_runs.proofs.WorkedHubs.{accept, answered, asked, connect, direct_npdu, first_run, from_a, from_c, npdu, second_run, uris, who}
use Rattle.bsc_network_of_runs.proofs.WorkedNetwork.{all-got, is_whole, whole_line}

-- ---- what the nodes were made with

abbrev made : ℕ → Option (List ℕ) → Option (List ℕ) → Made
made n failover own_uris = record { own = who n; limits = record (a_node.limits) { failover = failover; uris = own_uris } }

abbrev a : Made
a = made 0x0A None None

abbrev b : Made
b = made 0x0B None (Some uris)

abbrev c : Made
c = made 0x0C (Some (codes "ws://f/")) None

a_is_node : IsNode a.own
a_is_node = record {
  address = refl;
  device = refl;
  reserved = λ h. (let k : ◌≡◌ {A = ℕ} 2 0 = ap (λ (v : Vmac). slice_index v.0 0) h in cc);
  broadcast = λ h. (let k : ◌≡◌ {A = ℕ} 2 255 = ap (λ (v : Vmac). slice_index v.0 0) h in cc);
  bvlc = lit< tt;
  npdu = lit< tt;
}

b_is_node : IsNode b.own
b_is_node = record {
  address = refl;
  device = refl;
  reserved = λ h. (let k : ◌≡◌ {A = ℕ} 2 0 = ap (λ (v : Vmac). slice_index v.0 0) h in cc);
  broadcast = λ h. (let k : ◌≡◌ {A = ℕ} 2 255 = ap (λ (v : Vmac). slice_index v.0 0) h in cc);
  bvlc = lit< tt;
  npdu = lit< tt;
}

c_is_node : IsNode c.own
c_is_node = record {
  address = refl;
  device = refl;
  reserved = λ h. (let k : ◌≡◌ {A = ℕ} 2 0 = ap (λ (v : Vmac). slice_index v.0 0) h in cc);
  broadcast = λ h. (let k : ◌≡◌ {A = ℕ} 2 255 = ap (λ (v : Vmac). slice_index v.0 0) h in cc);
  bvlc = lit< tt;
  npdu = lit< tt;
}

-- ---- their runs

-- A connects, asks B and gets its URIs, dials it, and sends it an NPDU over that. It loses the hub, connects once more, and sends to all.
abbrev a_events : List TimedEvent
a_events =
    at 0 Start ∷ at 0 (Opened (Hub Primary)) ∷ at 0 (Came (Hub Primary) (accept 0x01 1)) ∷ at 0 (Resolve (who 0x0B).vmac) ∷ at 0 (Came (Hub Primary) answered)
    ∷ at 0 (DirectTo (who 0x0B).vmac) ∷ at 0 (Opened (Direct 0)) ∷ at 0 (Came (Direct 0) (accept 0x0B 3)) ∷ at 0 (Send (who 0x0B).vmac npdu)
    ∷ at 0 (Lost (Hub Primary)) ∷ at 1000 Tick ∷ at 1000 (Opened (Hub Primary)) ∷ at 1000 (Came (Hub Primary) (accept 0x01 5)) ∷ at 1000 (Send broadcast npdu) ∷ []

-- B connects, answers A, takes A's link, and gets one NPDU over that and one from the hub.
abbrev b_events : List TimedEvent
b_events =
    at 0 Start ∷ at 0 (Opened (Hub Primary)) ∷ at 0 (Came (Hub Primary) (accept 0x01 1)) ∷ at 0 (Came (Hub Primary) asked) ∷ at 0 Arrived
    ∷ at 0 (Came (Direct 0) (connect 0x0A 3)) ∷ at 0 (Came (Direct 0) direct_npdu) ∷ at 1000 (Came (Hub Primary) from_a) ∷ []

-- C can't reach the first hub, connects to the second, and sends itself an NPDU.
abbrev c_events : List TimedEvent
c_events =
    at 0 Start ∷ at 0 (DialFailed (Hub Primary)) ∷ at 0 (Opened (Hub Failover)) ∷ at 0 (Came (Hub Failover) (accept 0x02 1)) ∷ at 0 (Send (who 0x0C).vmac npdu)
    ∷ at 0 (Came (Hub Failover) from_c) ∷ []

a_may : may_all_come a a_events ≡ true
unfolding node_on_literals
a_may = refl

b_may : may_all_come b b_events ≡ true
unfolding node_on_literals
b_may = refl

c_may : may_all_come c c_events ≡ true
unfolding node_on_literals
c_may = refl

a_whole : list_all whole_line (log a a_events) ≡ true
unfolding node_on_literals
a_whole = refl

b_whole : list_all whole_line (log b b_events) ≡ true
unfolding node_on_literals
b_whole = refl

c_whole : list_all whole_line (log c c_events) ≡ true
unfolding node_on_literals
c_whole = refl

abbrev ran : (m : Made) (events : List TimedEvent) → may_all_come m events ≡ true → list_all whole_line (log m events) ≡ true → IsNode m.own → NodeRun
ran m events may whole node = record {
  made = m;
  events = events;
  may = may;
  whole = λ place e x. is_whole e.event (all-got whole_line (log m events) place (came e) whole (event_here m (log m events) place e x));
  is_node = node;
}

abbrev node_a : NodeRun
node_a = ran a a_events a_may a_whole a_is_node

abbrev node_b : NodeRun
node_b = ran b b_events b_may b_whole b_is_node

abbrev node_c : NodeRun
node_c = ran c c_events c_may c_whole c_is_node

-- ---- the network

abbrev network : Network
network = record { hubs = first_run ∷ second_run ∷ []; nodes = node_a ∷ node_b ∷ node_c ∷ [] }

-- the links of a log, by the lines by which they began, and the one of this number
abbrev begun_here : ℕ → Option LinkName → List LinkLife → List LinkLife
begun_here place None later = later
begun_here place (Some name) later = record { name = name; began = place } ∷ later

abbrev lives_from : ℕ → List Line → List LinkLife
lives_from place [] = []
lives_from place (m ∷ lines) = begun_here place (begun_by m) (lives_from (suc place) lines)

abbrev life_at : Log → ℕ → LinkLife
life_at L n = unwrap_or (slice_get (lives_from 0 L) n) (record { name = Hub Primary; began = 0 })

abbrev wire : ℕ → ℕ → ℕ → Log → ℕ → Wire
wire hub number k L n = record { one = of_session (record { hub = hub; number = number }); two = of_node k (life_at L n) }

abbrev wires : List Wire
wires =
    wire 0 0 0 (log a a_events) 0 ∷ wire 0 1 1 (log b b_events) 0 ∷ wire 0 2 0 (log a a_events) 2 ∷ wire 1 0 2 (log c c_events) 1
    ∷ record { one = of_node 0 (life_at (log a a_events) 1); two = of_node 1 (life_at (log b b_events) 1) } ∷ []

-- Each premise holds of it.
it_is_linked : is_linked network wires ≡ true
unfolding node_on_literals
it_is_linked = refl

they_are_links : AreLinks network (other_by wires)
they_are_links = are_links network wires it_is_linked

-- B delivers what A sent to it, over the direct connection, and what A sent to all, by the first hub; and C what it sent to itself, by
-- the second.
abbrev delivered_by : Action → Option Delivered
delivered_by (Deliver d) = Some d
delivered_by action = None

b_delivers : flat_map (filter_map delivered_by) (each_actions b b_events)
    ≡ record { from = (who 0x0A).vmac; broadcast = false; data_options = []; npdu = npdu } ∷ record { from = (who 0x0A).vmac; broadcast = true; data_options = []; npdu = npdu } ∷ []
unfolding node_on_literals
b_delivers = refl

c_delivers : flat_map (filter_map delivered_by) (each_actions c c_events) ≡ record { from = (who 0x0C).vmac; broadcast = false; data_options = []; npdu = npdu } ∷ []
unfolding node_on_literals
c_delivers = refl

-- By the theorem each of these deliveries is of a Send.
its_deliveries : RunsDeliverWhatWasSent → DeliversWhatWasSent network (other_by wires)
its_deliveries law = law network (other_by wires) they_are_links
