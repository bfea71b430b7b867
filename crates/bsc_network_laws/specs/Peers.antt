-- Who is at the other end of a link that a node has, and whom the node takes it to be.
use Rattle.std.specs.Prelude.{◌≡◌, ℕ, List, Option, Some, None}
use Rattle.std.specs.Option.{option_map}
use Rattle.bsc_octets.specs.declared.identity.Identity.{Identity}
use Rattle.bsc_node.specs.declared.link_name.LinkName.{LinkName}
use Rattle.bsc_node.specs.declared.link_name.LinkName.TheVariants.{Direct}
use Rattle.bsc_node.specs.Ways.{established_peer}
use Rattle.bsc_network.specs.declared.target.Target.{Target}
use Rattle.bsc_network.specs.declared.hold.Hold.{Hold}
use Rattle.bsc_network.specs.declared.timed_step.TimedStep.{TimedStep}
use Rattle.bsc_network.specs.Settings.{Added}
use Rattle.bsc_network.specs.Worlds.{World, Node, node_at, link_at}
use Rattle.bsc_network.specs.NodeSides.{hold_of}
use Rattle.bsc_network.specs.Networks.{world}
use Rattle.bsc_network.specs.Courses.{IsCourse}
use Rattle.bsc_network_laws.specs.Ends.{putter}
use Rattle.bsc_network_laws.specs.Naming.{Cast, cast_of, identity_in}

-- What is at the other end of a link that a node has: what puts on the way by which the node hears.
abbrev pub other_end : World → Option Hold → Option Target
other_end w None = None
other_end w (Some h) = option_map (putter h.hears) (link_at w h.link)

-- Who that is.
abbrev pub who_is : Cast → Option Target → Option Identity
who_is cast None = None
who_is cast (Some t) = identity_in cast t

-- Who is at the other end of the newest link that the node has under this name.
abbrev pub who_is_there : Cast → World → LinkName → Node → Option Identity
who_is_there cast w name n = who_is cast (other_end w (hold_of name n))

-- The peer with which a slot is established is who is at the other end of the slot's link, in every network, whatever steps are
-- made.
abbrev pub PeersAreThere : Type 0
PeersAreThere =
    (added : List Added) (steps : List TimedStep) → IsCourse added steps → (k slot : ℕ) (n : Node) (who : Identity)
    → node_at (world added steps) k ≡ Some n → established_peer slot n.log ≡ Some who
    → who_is_there (cast_of added) (world added steps) (Direct slot) n ≡ Some who
