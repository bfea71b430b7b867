-- Dials that fail, and a node that dials itself, by computation.
-- No clause needs it: worked examples.
use Rattle.std.proofs.Common.{◌≡◌, true, List, [], ◌∷◌, ◌++◌, replicate, refl}
use Rattle.std.specs.Prelude.{map, filter_map, length}
use Rattle.bsc_connector.specs.declared.side.Side.TheVariants.{Primary, Failover}
use Rattle.bsc_node.specs.declared.link_name.LinkName.TheVariants.{Hub}
use Rattle.bsc_node.specs.declared.node_event.NodeEvent.{NodeEvent}
use Rattle.bsc_node.specs.declared.node_event.NodeEvent.TheVariants.{Start, DialFailed, Resolve, DirectTo}
use Rattle.bsc_node.specs.declared.timed_event.TimedEvent.{TimedEvent}
use Rattle.bsc_node.specs.Logs.{event_of}
use Rattle.bsc_network.specs.declared.limits.TheConstants.{LINKS}
use Rattle.bsc_network.specs.declared.target.Target.TheVariants.{Hub as ToHub, Node as ToNode}
use Rattle.bsc_network.specs.declared.world_step.WorldStep.{WorldStep}
use Rattle.bsc_network.specs.declared.world_step.WorldStep.TheVariants.{Node as OfNode}
use Rattle.bsc_network.specs.Settings.{node}
use Rattle.bsc_network.specs.Worlds.{World, Node, new_world}
use Rattle.bsc_network.specs.Dialling.{new_link}
use Rattle.bsc_network.specs.Networks.{makes}
use Rattle.bsc_network.proofs.OnLiterals.{world_on_literals}
use Rattle.bsc_network.proofs.Scenes.{primary, failover, a, peer, address, at, joins, start, up, down, take, link, dialled}

-- ---- dials that fail

-- A network in which as many links were made as may be.
abbrev pub all_made : World
all_made = record (new_world (primary ∷ failover ∷ a ∷ [])) { links = replicate LINKS (new_link (new_world []) 0 (ToHub 0)) }

-- once its node has started
abbrev pub started : World
started = makes all_made (record { now = 0; step = start 0 })

abbrev pub came_to : World → List (List NodeEvent)
came_to w = map (λ (n : Node). map (λ (e : TimedEvent). e.event) (filter_map event_of n.log)) w.nodes

-- The dial of the primary hub fails, and the node is told so in the same step; so it dials the failover, and that fails too.
told_of_both : came_to started ≡ (Start ∷ DialFailed (Hub Primary) ∷ DialFailed (Hub Failover) ∷ []) ∷ []
unfolding world_on_literals
told_of_both = refl

none_untold : started.failed ≡ []
unfolding world_on_literals
none_untold = refl

no_link_more : length started.links ≡ LINKS
unfolding world_on_literals
no_link_more = refl

-- ---- a node that dials itself

-- A, which accepts direct connections, asks itself for its URI, over the hub, and dials that.
abbrev pub itself : List WorldStep
itself =
    joins 0 0
    ++ OfNode 0 (Resolve (address 0x0A)) ∷ up 0 ∷ take 0 ∷ down 0 ∷ up 0 ∷ take 0 ∷ down 0 ∷ OfNode 0 (DirectTo (address 0x0A)) ∷ []

dials_itself : dialled (primary ∷ node (peer 0x0A 0xAA) true ∷ []) (at 0 itself) ≡ link 0 0 (ToHub 0) ∷ link 1 0 (ToNode 0) ∷ []
unfolding world_on_literals
dials_itself = refl
