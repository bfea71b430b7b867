-- What comes down from hubs in every network, and what nodes put.
use Rattle.std.specs.Prelude.{◌≡◌, ℕ, List, Some}
use Rattle.std.specs.List.{AllByRecursion}
use Rattle.bsc_network.specs.declared.target.Target.TheVariants.{Hub as ToHub, Node as ToNode}
use Rattle.bsc_network.specs.declared.timed_step.TimedStep.{TimedStep}
use Rattle.bsc_network.specs.Settings.{Added}
use Rattle.bsc_network.specs.Worlds.{World, Hub, Link, hub_at}
use Rattle.bsc_network.specs.Networks.{world}
use Rattle.bsc_network.specs.Courses.{IsCourse}
use Rattle.bsc_network_laws.specs.Ends.{messages}
use Rattle.bsc_network_laws.specs.Carrying.{npdus, taken_of, IsSentBy}
use Rattle.bsc_network_laws.specs.Deliveries.{Sends}

-- ---- what comes down from hubs

-- Where a link leads to a hub, the NPDUs on its way down are those that were taken from the outbox of its connection, in order,
-- each once, with its place.
abbrev pub DownIsTaken : World → Link → Type 0
DownIsTaken w link =
    (j : ℕ) (h : Hub) → link.to ≡ ToHub j → hub_at w j ≡ Some h → npdus (messages link.down) ≡ npdus (taken_of h link.side.conn link.side.taken)

-- So it is in every network, whatever steps are made.
abbrev pub TakenComesDown : Type 0
TakenComesDown =
    (added : List Added) (steps : List TimedStep) → IsCourse added steps → AllByRecursion (DownIsTaken (world added steps)) (world added steps).links

-- ---- what nodes put

-- Each NPDU that the node which dialled put on a link, and each that a node which was dialled put, is that of a Send of that very
-- node, at its place.
pub record PutBySend (steps : List TimedStep) (link : Link) : Type 0 where
  pub up : AllByRecursion (IsSentBy (Sends steps) link.from) (npdus (messages link.up))
  pub down : (k : ℕ) → link.to ≡ ToNode k → AllByRecursion (IsSentBy (Sends steps) k) (npdus (messages link.down))

-- So it is in every network, whatever steps are made.
abbrev pub PutsWhatWasSent : Type 0
PutsWhatWasSent = (added : List Added) (steps : List TimedStep) → IsCourse added steps → AllByRecursion (PutBySend steps) (world added steps).links
