-- Dials that fail, written out: how many a node is told of, and that one less is not enough, by computation.
-- No clause needs it: worked examples.
use Rattle.std.proofs.Common.{◌≡◌, ℕ, false, List, [], ◌∷◌, replicate, None, refl}
use Rattle.std.specs.Prelude.{map, filter_map, codes}
use Rattle.bsc_connector.specs.declared.side.Side.TheVariants.{Primary, Failover}
use Rattle.bsc_resolve.specs.declared.call.ResolveCall.TheVariants.{Answered}
use Rattle.bsc_node.specs.declared.link_name.LinkName.TheVariants.{Hub, Direct}
use Rattle.bsc_node.specs.declared.node_event.NodeEvent.{NodeEvent}
use Rattle.bsc_node.specs.declared.node_event.NodeEvent.TheVariants.{Start, DialFailed, DirectTo}
use Rattle.bsc_node.specs.declared.timed_event.TimedEvent.{TimedEvent}
use Rattle.bsc_node.specs.Logs.{resolution, event_of}
use Rattle.bsc_network.specs.declared.limits.TheConstants.{LINKS}
use Rattle.bsc_network.specs.declared.target.Target.TheVariants.{Hub as ToHub}
use Rattle.bsc_network.specs.Settings.{settings}
use Rattle.bsc_network.specs.Worlds.{World, Node, new_world}
use Rattle.bsc_network.specs.Dialling.{new_link}
use Rattle.bsc_network.specs.NodeEvents.{comes_once, hears_all_failures, comes}
use Rattle.bsc_network.proofs.OnLiterals.{world_on_literals}
use Rattle.bsc_network.proofs.Scenes.{primary, failover, a, peer, address}

-- what came to each node
abbrev came_to : World → List (List NodeEvent)
came_to w = map (λ (n : Node). map (λ (e : TimedEvent). e.event) (filter_map event_of n.log)) w.nodes

-- ---- the dials of hubs

-- A network in which as many links were made as may be.
abbrev all_made : World
all_made = record (new_world (primary ∷ failover ∷ a ∷ [])) { links = replicate LINKS (new_link (new_world []) 0 (ToHub 0)) }

-- once its node has started, and was told of so many dials that failed
abbrev started : ℕ → World
started most = hears_all_failures most 0 (comes_once 0 None Start all_made)

told_of_both : came_to (started 2) ≡ (Start ∷ DialFailed (Hub Primary) ∷ DialFailed (Hub Failover) ∷ []) ∷ []
unfolding world_on_literals
told_of_both = refl

one_is_too_few : came_to (started 1) ≡ (Start ∷ DialFailed (Hub Primary) ∷ []) ∷ []
unfolding world_on_literals
one_is_too_few = refl

-- ---- the dials of a slot

-- A network of a node that has learnt two URIs of B, which nobody has.
abbrev learnt_two : World
learnt_two = record (new_world []) {
  nodes = record {
    made = record { own = peer 0x0A 0xAA; limits = settings 1 0 false };
    log = resolution (Answered 1 (address 0x0B) (codes "ws://x ws://y")) ∷ [];
    holds = [];
  } ∷ [];
}

-- It dials both.
dials_both : came_to (comes 0 None (DirectTo (address 0x0B)) learnt_two) ≡ (DirectTo (address 0x0B) ∷ DialFailed (Direct 0) ∷ DialFailed (Direct 0) ∷ []) ∷ []
unfolding world_on_literals
dials_both = refl
