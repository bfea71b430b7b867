-- A network of one hub and one node, written out: each premise of the theorem holds of it.
-- No clause needs it: worked examples.
use Rattle.std.proofs.Common.{◌≡◌, ℕ, zero, suc, ◌==◌, Bool, true, List, [], ◌∷◌, length, Some, refl, ap, sym, ◌∙◌, lit<}
use Rattle.std.specs.Prelude.{slice_get, slice_index}
use Rattle.std.specs.List.{list_all}
use Rattle.std.proofs.lemmas.Bool.{and_parts, eqb-true}
use Rattle.std.proofs.lemmas.Option.{same_Some}
use Rattle.bsc_octets.specs.declared.vmac.Vmac.{Vmac}
use Rattle.bsc_frame.specs.Payloads.{IsNode}
use Rattle.bsc_node.specs.declared.node_event.NodeEvent.{NodeEvent}
use Rattle.bsc_node.specs.declared.node_event.NodeEvent.TheVariants.{Send}
use Rattle.bsc_node.specs.Logs.{Line, came}
use Rattle.bsc_node.specs.Node.{log}
use Rattle.bsc_node.proofs.OnLiterals.{node_on_literals}
use Rattle.bsc_node_links.proofs.NodeWords.{node as node_a}
use Rattle.bsc_network_of_runs.specs.Deliveries.{DeliversWhatWasSent, RunsDeliverWhatWasSent}
use Rattle.bsc_network_of_runs.specs.Networks.{AreLinks, Network, SessionName, of_node, of_session}
use Rattle.bsc_network_of_runs.specs.Nodes.{IsWhole, NodeRun}
use Rattle.bsc_network_of_runs.proofs.Coming.{event_here}
use Rattle.bsc_network_of_runs.proofs.Linking.{Wire, are_links, is_linked, other_by}
use Rattle.bsc_network_of_runs.proofs.Worked.{the_run}
use Rattle.bsc_network_of_runs.proofs.WorkedNode.{events, link, they_may_come}

-- ---- lists

pub all-got : (p : Line → Bool) (L : List Line) (i : ℕ) (m : Line) → list_all p L ≡ true → slice_get L i ≡ Some m → p m ≡ true
all-got p [] i m all h = cc
all-got p (x ∷ L) zero m all h = ap p (sym (same_Some x m h)) ∙ (and_parts (p x) (list_all p L) all).0
all-got p (x ∷ L) (suc i) m all h = all-got p L i m (and_parts (p x) (list_all p L) all).1 h

-- ---- the node's run

abbrev pub sends_whole : NodeEvent → Bool
sends_whole (Send dest npdu) = length dest.0 == 6
sends_whole e = true

abbrev pub whole_line : Line → Bool
whole_line (came e) = sends_whole e.event
whole_line m = true

pub whole_lines : list_all whole_line (log node_a events) ≡ true
unfolding node_on_literals
whole_lines = refl

pub is_whole : (e : NodeEvent) → sends_whole e ≡ true → IsWhole e
is_whole (Send dest npdu) h = eqb-true (length dest.0) 6 h
is_whole e h = tt

pub a_is_node : IsNode node_a.own
a_is_node = record {
  address = refl;
  device = refl;
  reserved = λ h. (let n : 2 ≡ 0 = ap (λ (v : Vmac). slice_index v.0 0) h in cc);
  broadcast = λ h. (let n : 2 ≡ 255 = ap (λ (v : Vmac). slice_index v.0 0) h in cc);
  bvlc = lit< tt;
  npdu = lit< tt;
}

abbrev pub the_node : NodeRun
the_node = record {
  made = node_a;
  events = events;
  may = they_may_come;
  whole = λ place e c. is_whole e.event (all-got whole_line (log node_a events) place (came e) whole_lines (event_here node_a (log node_a events) place e c));
  is_node = a_is_node;
}

-- ---- the network

abbrev the_network : Network
the_network = record { hubs = the_run ∷ []; nodes = the_node ∷ [] }

abbrev pub the_name : SessionName
the_name = record { hub = 0; number = 0 }

-- its one wire leads from the session to the node's link
abbrev wires : List Wire
wires = record { one = of_session the_name; two = of_node 0 link } ∷ []

-- Each premise holds of it.
it_is_linked : is_linked the_network wires ≡ true
unfolding node_on_literals
it_is_linked = refl

they_are_links : AreLinks the_network (other_by wires)
they_are_links = are_links the_network wires it_is_linked

-- What the node delivers, by the theorem of all networks of runs.
its_deliveries : RunsDeliverWhatWasSent → DeliversWhatWasSent the_network (other_by wires)
its_deliveries law = law the_network (other_by wires) they_are_links
