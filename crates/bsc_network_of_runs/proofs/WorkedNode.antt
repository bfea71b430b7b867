-- The node of the worked hub's session, by computation: what its log says of its link is what the session's talk says at the other end.
-- No clause needs it: worked examples.
use Rattle.std.proofs.Common.{◌≡◌, true, false, List, [], ◌∷◌, Some, refl}
use Rattle.std.specs.Prelude.{codes, slice_get}
use Rattle.bsc_octets.specs.Identities.{identity_of}
use Rattle.bsc_connector.specs.declared.side.Side.TheVariants.{Primary}
use Rattle.bsc_node.specs.declared.link_name.LinkName.TheVariants.{Hub}
use Rattle.bsc_node.specs.declared.node_event.NodeEvent.TheVariants.{Start, Opened, Came, Send}
use Rattle.bsc_node.specs.declared.timed_event.TimedEvent.{TimedEvent}
use Rattle.bsc_node.specs.declared.action.Action.TheVariants.{Deliver, Dial}
use Rattle.bsc_node.specs.Conditions.{may_all_come}
use Rattle.bsc_node.specs.Logs.{did}
use Rattle.bsc_node.specs.Node.{actions, log}
use Rattle.bsc_node.proofs.OnLiterals.{node_on_literals}
use Rattle.bsc_session.proofs.TalkWords.{a_octets, accept, back}
use Rattle.bsc_node_links.specs.Lives.{LinkLife, given_over, put_over}
use Rattle.bsc_node_links.specs.Talks.{given_in, put_in}
use Rattle.bsc_node_links.proofs.NodeWords.{at, node as node_a}
use Rattle.bsc_session_laws.proofs.WorkedLaws.{talk}

-- it starts, its link opens, the hub accepts it, it sends an NPDU to itself, and the hub passes that on to it
abbrev pub events : List TimedEvent
events =
    at 0 Start ∷ at 0 (Opened (Hub Primary)) ∷ at 0 (Came (Hub Primary) accept) ∷ at 0 (Send (identity_of a_octets).vmac (0x01 ∷ 0x00 ∷ []))
    ∷ at 0 (Came (Hub Primary) back) ∷ []

pub they_may_come : may_all_come node_a events ≡ true
unfolding node_on_literals
they_may_come = refl

abbrev pub link : LinkLife
link = record { name = Hub Primary; began = 2 }

pub it_begins_there : slice_get (log node_a events) 2 ≡ Some (did (Dial (Hub Primary) (codes "ws://p/")))
unfolding node_on_literals
it_begins_there = refl

-- what the link gave to the node is what the session put, and what the node put is what the session was given
pub it_gave : given_over (log node_a events) link ≡ put_in talk
unfolding node_on_literals
it_gave = refl

pub it_took : put_over (log node_a events) link ≡ given_in talk
unfolding node_on_literals
it_took = refl

-- and the node delivers the NPDU
it_delivers : actions node_a events ≡ Deliver (record { from = (identity_of a_octets).vmac; broadcast = false; data_options = []; npdu = 0x01 ∷ 0x00 ∷ [] }) ∷ []
unfolding node_on_literals
it_delivers = refl
