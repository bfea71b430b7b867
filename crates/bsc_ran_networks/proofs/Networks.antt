-- Networks of hubs that the command `hub` made and of nodes that the command `node` ran.
-- It serves the clauses of `hubs_and_nodes_that_ran_deliver` and `what_ran_delivers_by_wires`.
use Rattle.std.proofs.Common.{◌≡◌, ℕ, List, [], ◌∷◌, Option, is_some, Result, Ok, Err, IfErr, IfOk, refl}
use Rattle.bsc_edge.specs.declared.notice.Notice.{Notice}
use Rattle.bsc_edge.specs.declared.said.Said.{Said}
use Rattle.bsc_node.specs.declared.node_event.NodeEvent.{NodeEvent}
use Rattle.bsc_node.specs.Logs.{Made, Log}
use Rattle.bsc_node_run.specs.declared.halt.Halt.{Halt}
use Rattle.bsc_node_run.specs.declared.run_end.RunEnd.{RunEnd}
use Rattle.bsc_node_run.specs.Drawing.{GoesDrawing, at_rest}
use Rattle.bsc_node_run.specs.Moments.{run_moment}
use Rattle.bsc_node_run.specs.Running.{Run}
use Rattle.bsc_node_laws.specs.Courses.{GoesAsDefined}
use Rattle.bsc_node_links.specs.Stopped.{HasStopped, LinksAreUsedFirst}
use Rattle.bsc_node_links.specs.Using.{LinksAreUsed, Outside}
use Rattle.bsc_node_links.proofs.LetGo.{used_first}
use Rattle.bsc_node_command.specs.Comes.{made_by}
use Rattle.bsc_node_command.specs.Ran.{RanNodesUseLinks, StoppedNodesUseLinks, outside_of}
use Rattle.bsc_network_of_runs.specs.Nodes.{NodeRun, log_of}
use Rattle.bsc_network_of_runs.specs.Running.{RunsAreOfNodes, StoppedRunsAreOfNodes}
use Rattle.bsc_ran_networks.specs.HubRuns.Networks.{HubsThatRanDeliver}
use Rattle.bsc_ran_networks.specs.HubRuns.Runs.{InPairs}
use Rattle.bsc_ran_networks.specs.Networks.{HubsAndNodesThatRanDeliver, IsItsNode, RanByCommand}

module _ {K W : Type 0} (talk : K → Option (List Said)) (drawn : NodeEvent → W → W → Type 0) where
  pub node_of : RunsAreOfNodes talk drawn → StoppedRunsAreOfNodes talk → RanNodesUseLinks talk drawn → StoppedNodesUseLinks talk drawn
      → (x : RanByCommand talk drawn) → (n : NodeRun) × IsItsNode talk drawn x n
  node_of are are_stopped links stopped x = its (by x.ran.end x.ran.run (links x.asked x.before x.after x.status x.ran) (stopped x.asked x.before x.after x.status x.ran))
    where
      a : Made
      a = made_by x.asked.settings

      o : Outside K
      o = outside_of x.before x.ran.door x.before.written

      p : Outside K
      p = outside_of x.after x.after.door x.ran.written

      -- what is said of the node and its log, by how the run ended
      So : Result RunEnd Halt → NodeRun → Log → Type 0
      So end n M = (n.made ≡ a) × (log_of n ≡ M) × IfOk end (λ e. (M ≡ x.ran.last) × LinksAreUsed talk o p x.ran.last)
          × IfErr end (λ halt. HasStopped talk a x.ran.lines o p M) × LinksAreUsedFirst talk o p M

      its : (n : NodeRun) × (M : Log) × So x.ran.end n M → (n : NodeRun) × IsItsNode talk drawn x n
      its (n, M, s) = (n, record { made = s.0; last = M; log_is = s.1; ended = s.2; stopped = s.3; used = s.4 })

      by : (end : Result RunEnd Halt)
          → IfOk end (λ e. Run (GoesDrawing (GoesAsDefined a) drawn) talk (is_some x.asked.settings.direct_port) e x.asked.settings.turns x.ran.lines
          (run_moment (at_rest [] x.before.random) x.before.dialled x.before.written x.ran.door x.before.readings)
          (run_moment (at_rest x.ran.last x.after.random) x.after.dialled x.ran.written x.after.door x.after.readings))
          → IfOk end (λ e. LinksAreUsed talk o p x.ran.last) → IfErr end (λ halt. (M : Log) × HasStopped talk a x.ran.lines o p M) → (n : NodeRun) × (M : Log) × So end n M
      by (Ok e) run used halted =
          let n =
          are a x.ran.own x.asked.script x.ran.lines x.ran.reads (is_some x.asked.settings.direct_port) e x.asked.settings.turns x.before.random x.after.random o p x.ran.last run in
          (n.0, x.ran.last, (n.1, n.2, (refl, used), tt, used_first talk o p x.ran.last used))
      by (Err halt) run used (M, s) =
          let n = are_stopped a x.ran.own x.asked.script x.ran.lines x.ran.reads o p M s in
          (n.0, M, (n.1, n.2, tt, s, s.links))

  nodes_of : RunsAreOfNodes talk drawn → StoppedRunsAreOfNodes talk → RanNodesUseLinks talk drawn → StoppedNodesUseLinks talk drawn
      → (ran : List (RanByCommand talk drawn)) → (nodes : List NodeRun) × InPairs (IsItsNode talk drawn) ran nodes
  nodes_of are are_stopped links stopped [] = ([], tt)
  nodes_of are are_stopped links stopped (x ∷ ran) =
      let one = node_of are are_stopped links stopped x in
      let rest = nodes_of are are_stopped links stopped ran in
      (one.0 ∷ rest.0, (one.1, rest.1))

module _ {L C N K W : Type 0} (talk : L → Option (List Said)) (faults : L → ℕ) (notices : L → Option (List Notice)) (readings : C → Option (List ℕ))
    (held : N → Option (List ℕ)) (unput : N → ℕ) (begins : Option (List ℕ) → ℕ → N → Type 0) (said : K → Option (List Said))
    (drawn : NodeEvent → W → W → Type 0) where
  pub hubs_and_nodes_that_ran_deliver : HubsThatRanDeliver talk faults notices readings held unput begins → RunsAreOfNodes said drawn → StoppedRunsAreOfNodes said
      → RanNodesUseLinks said drawn → StoppedNodesUseLinks said drawn
      → HubsAndNodesThatRanDeliver talk faults notices readings held unput begins said drawn
  hubs_and_nodes_that_ran_deliver deliver are are_stopped links stopped made ran =
      let h = deliver made in
      let n = nodes_of said drawn are are_stopped links stopped ran in
      (h.0, n.0, h.1, n.1, λ other wires. h.2 n.0 other wires)
