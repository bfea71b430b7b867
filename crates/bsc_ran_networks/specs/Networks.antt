-- Networks of hubs that the command `hub` made and of nodes that the command `node` ran.
use Rattle.std.specs.Prelude.{◌≡◌, ℕ, List, Option, IfErr, IfOk}
use Rattle.bsc_edge.specs.declared.notice.Notice.{Notice}
use Rattle.bsc_edge.specs.declared.said.Said.{Said}
use Rattle.bsc_node.specs.declared.node_event.NodeEvent.{NodeEvent}
use Rattle.bsc_node.specs.Logs.{Log}
use Rattle.bsc_node_links.specs.Stopped.{HasStopped, LinksAreUsedFirst}
use Rattle.bsc_node_links.specs.Using.{LinksAreUsed}
use Rattle.bsc_node_command.specs.Comes.{NodeAsked, NodeRan, NodeWorld, made_by}
use Rattle.bsc_node_command.specs.Ran.{outside_of}
use Rattle.bsc_network_of_runs.specs.Deliveries.{DeliversWhatWasSent}
use Rattle.bsc_network_of_runs.specs.Hubs.{HubRun}
use Rattle.bsc_network_of_runs.specs.Networks.{AreLinks, OtherEnd}
use Rattle.bsc_network_of_runs.specs.Nodes.{NodeRun, log_of}
use Rattle.bsc_ran_networks.specs.HubRuns.Networks.{IsItsRun, MadeByCommand}
use Rattle.bsc_ran_networks.specs.HubRuns.Runs.{InPairs}

module _ {K W : Type 0} (talk : K → Option (List Said)) (drawn : NodeEvent → W → W → Type 0) where
  -- A node that the command ran, with any status: to its end, with 0 or 8, or until a fault stopped it, with 4, 6 or 7.
  pub record RanByCommand : Type 0 where
    pub asked : NodeAsked
    pub before : NodeWorld K W
    pub after : NodeWorld K W
    pub status : ℕ
    pub ran : NodeRan talk drawn asked before after status

  -- The run of a node is that of such a node: it was made by the settings and has this log. Where the command's run came to its end,
  -- that is the log of the run, and its links were used as it says. Where a fault stopped the run, it is a log of that: of all that came
  -- up to there, with the whole of what follows from the last event. Either way each link gave just what the log says, and took the
  -- first of what it says.
  pub record IsItsNode (x : RanByCommand) (n : NodeRun) : Type 0 where
    pub made : n.made ≡ made_by x.asked.settings
    pub last : Log
    pub log_is : log_of n ≡ last
    pub ended : IfOk x.ran.end (λ e. (last ≡ x.ran.last) × LinksAreUsed talk (outside_of x.before x.ran.door x.before.written)
        (outside_of x.after x.after.door x.ran.written) x.ran.last)
    pub stopped : IfErr x.ran.end (λ halt. HasStopped talk (made_by x.asked.settings) x.ran.lines
        (outside_of x.before x.ran.door x.before.written) (outside_of x.after x.after.door x.ran.written) last)
    pub used : LinksAreUsedFirst talk (outside_of x.before x.ran.door x.before.written)
        (outside_of x.after x.after.door x.ran.written) last

module _ {L C N K W : Type 0} (talk : L → Option (List Said)) (faults : L → ℕ) (notices : L → Option (List Notice)) (readings : C
    → Option (List ℕ))
    (held : N → Option (List ℕ)) (unput : N → ℕ) (begins : Option (List ℕ) → ℕ → N → Type 0) (said : K → Option (List Said))
    (drawn : NodeEvent → W → W → Type 0) where
  -- Whatever hubs were made so, and whatever nodes were run so, each has had a run. In each network of these runs, whose links keep
  -- order and lose only what comes last, each delivery is of a Send, and no two of one node are of the same.
  abbrev pub HubsAndNodesThatRanDeliver : Type 0
  HubsAndNodesThatRanDeliver = (made : List (MadeByCommand talk faults notices readings held unput begins)) (ran : List
      (RanByCommand said drawn))
      → (hubs : List HubRun) × (nodes : List NodeRun)
      × InPairs (IsItsRun talk faults notices readings held unput begins) made hubs × InPairs (IsItsNode said drawn) ran nodes
      × ((other : OtherEnd) → AreLinks (record { hubs = hubs; nodes = nodes }) other
      → DeliversWhatWasSent (record { hubs = hubs; nodes = nodes }) other)
