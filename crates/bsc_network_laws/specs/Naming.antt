-- Who names itself on the links of a network: who put it there.
use Rattle.std.specs.Prelude.{◌≡◌, true, List, slice_get, Option, Some}
use Rattle.std.specs.Option.{option_map}
use Rattle.std.specs.List.{AllByRecursion}
use Rattle.bsc_octets.specs.declared.identity.Identity.{Identity}
use Rattle.bsc_history.specs.declared.limits.About.{About}
use Rattle.bsc_node.specs.Logs.{Made}
use Rattle.bsc_node_identity.specs.Naming.{is_connect, IsConnectOf}
use Rattle.bsc_network.specs.declared.way.Way.TheVariants.{Up, Down}
use Rattle.bsc_network.specs.declared.target.Target.{Target}
use Rattle.bsc_network.specs.declared.target.Target.TheVariants.{Hub as ToHub, Node as ToNode}
use Rattle.bsc_network.specs.declared.timed_step.TimedStep.{TimedStep}
use Rattle.bsc_network.specs.Settings.{Added, hubs, nodes}
use Rattle.bsc_network.specs.Worlds.{Link}
use Rattle.bsc_network.specs.Outboxes.{Frame}
use Rattle.bsc_network.specs.Networks.{world}
use Rattle.bsc_network.specs.Courses.{IsCourse}
use Rattle.bsc_network_laws.specs.Ends.{putter, messages}

-- The hubs and the nodes of a network.
pub record Cast : Type 0 where
  pub hubs : List About
  pub nodes : List Made

abbrev pub cast_of : List Added → Cast
cast_of added = record { hubs = hubs added; nodes = nodes added }

-- Who a hub or a node is.
abbrev pub identity_in : Cast → Target → Option Identity
identity_in cast (ToHub j) = option_map (λ a. a.hub) (slice_get cast.hubs j)
identity_in cast (ToNode k) = option_map (λ m. m.own) (slice_get cast.nodes k)

-- A Connect-Request or a Connect-Accept is of this peer.
abbrev pub IsNamedRight : Option Identity → Frame → Type 0
IsNamedRight own f = is_connect f.octets ≡ true → (who : Identity) × (own ≡ Some who) × IsConnectOf who f.octets

-- Each that stands on a way of the link is of who puts on that way.
pub record NamesWhoPuts (cast : Cast) (link : Link) : Type 0 where
  pub up : AllByRecursion (IsNamedRight (identity_in cast (putter Up link))) (messages link.up)
  pub down : AllByRecursion (IsNamedRight (identity_in cast (putter Down link))) (messages link.down)

-- So it is in every network, whatever steps are made.
abbrev pub NamesAreRight : Type 0
NamesAreRight = (added : List Added) (steps : List TimedStep) → IsCourse added steps → AllByRecursion (NamesWhoPuts (cast_of added)) (world added steps).links
