-- The deliveries of a network are all that its nodes deliver.
use Rattle.std.specs.Prelude.{◌≡◌, ℕ, ◌==◌, if◌then◌else◌, List, filter_map, Option, Some, None}
use Rattle.bsc_node.specs.declared.action.Action.{Action}
use Rattle.bsc_node.specs.declared.action.Action.TheVariants.{Deliver}
use Rattle.bsc_node.specs.declared.delivered.Delivered.{Delivered}
use Rattle.bsc_node.specs.Logs.{Log, action_of}
use Rattle.bsc_network.specs.declared.timed_step.TimedStep.{TimedStep}
use Rattle.bsc_network.specs.declared.world_delivery.WorldDelivery.{WorldDelivery}
use Rattle.bsc_network.specs.Settings.{Added}
use Rattle.bsc_network.specs.Worlds.{Node, node_at}
use Rattle.bsc_network.specs.Networks.{deliveries, world}
use Rattle.bsc_network.specs.Courses.{IsCourse}

abbrev pub deliver_in : Action → Option Delivered
deliver_in (Deliver delivered) = Some delivered
deliver_in action = None

-- What a node has delivered, by its log, in order.
abbrev pub delivered_in : Log → List Delivered
delivered_in L = filter_map deliver_in (filter_map action_of L)

abbrev pub of_one : ℕ → WorldDelivery → Option Delivered
of_one k d = if d.node == k then Some d.delivered else None

-- What is delivered by node k, in order.
abbrev pub of_node : ℕ → List WorldDelivery → List Delivered
of_node k ds = filter_map (of_one k) ds

-- Of each node the deliveries are all that it has delivered by its log, in order, each once, and no more: in every network,
-- whatever steps are made.
abbrev pub DeliveriesAreAll : Type 0
DeliveriesAreAll =
    (added : List Added) (steps : List TimedStep) (k : ℕ) (n : Node) → IsCourse added steps → node_at (world added steps) k ≡ Some n
    → of_node k (deliveries added steps) ≡ delivered_in n.log
