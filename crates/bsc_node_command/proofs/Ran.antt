-- The links of a node that was run were used as its log says, and tell that.
-- It serves clauses of functions of `laws`.
use Rattle.std.proofs.Common.{List, [], Option, is_some, Result, Ok, Err, IfErr, IfOk}
use Rattle.bsc_edge.specs.declared.said.Said.{Said}
use Rattle.bsc_node.specs.declared.node_event.NodeEvent.{NodeEvent}
use Rattle.bsc_node_run.specs.declared.halt.Halt.{Halt}
use Rattle.bsc_node_run.specs.declared.run_end.RunEnd.{RunEnd}
use Rattle.bsc_node_run.specs.Drawing.{GoesDrawing, at_rest}
use Rattle.bsc_node.specs.Logs.{Log}
use Rattle.bsc_node_run.specs.Moments.{outside, run_moment}
use Rattle.bsc_node_run.specs.Running.{Run}
use Rattle.bsc_node_run.specs.Stopping.{RunFails}
use Rattle.bsc_node_laws.specs.Courses.{GoesAsDefined}
use Rattle.bsc_node_links.specs.Stopped.{HasStopped}
use Rattle.bsc_node_links.specs.Telling.{EachTells}
use Rattle.bsc_node_links.specs.Using.{LinksAreUsed}
use Rattle.bsc_node_links.proofs.Stopped.{stopped_scripts_have_logs}
use Rattle.bsc_node_links.proofs.Telling.{links_came_fresh, links_tell, stopped_links_tell}
use Rattle.bsc_node_links.proofs.Walking.{script_runs_use_links}
use Rattle.bsc_node_command.specs.Comes.{made_by}
use Rattle.bsc_node_command.specs.Ran.{RanNodesTell, RanNodesUseLinks, StoppedNodesTell, StoppedNodesUseLinks, outside_of}

pub ran_nodes_use_links : {L W : Type 0} (talk : L → Option (List Said)) (drawn : NodeEvent → W → W → Type 0) → RanNodesUseLinks talk drawn
ran_nodes_use_links {L} {W} talk drawn asked before after s x = by x.end x.run
  where
    by : (end : Result RunEnd Halt)
        → IfOk end (λ e. Run (GoesDrawing (GoesAsDefined (made_by asked.settings)) drawn) talk (is_some asked.settings.direct_port) e asked.settings.turns x.lines
        (run_moment (at_rest [] before.random) before.dialled before.written x.door before.readings)
        (run_moment (at_rest x.last after.random) after.dialled x.written after.door after.readings))
        → IfOk end (λ e. LinksAreUsed talk (outside_of before x.door before.written) (outside_of after after.door x.written) x.last)
    by (Ok e) run =
        script_runs_use_links talk drawn (made_by asked.settings) asked.script x.lines x.reads (is_some asked.settings.direct_port) e asked.settings.turns
        before.random after.random (outside_of before x.door before.written) (outside_of after after.door x.written) x.last run
    by (Err halt) run = tt

pub stopped_nodes_use_links : {L W : Type 0} (talk : L → Option (List Said)) (drawn : NodeEvent → W → W → Type 0) → StoppedNodesUseLinks talk drawn
stopped_nodes_use_links {L} {W} talk drawn asked before after s x = by x.end x.fails
  where
    by : (end : Result RunEnd Halt)
        → IfErr end (λ halt. RunFails (GoesDrawing (GoesAsDefined (made_by asked.settings)) drawn) talk (is_some asked.settings.direct_port) asked.settings.turns x.lines
        (run_moment (at_rest [] before.random) before.dialled before.written x.door before.readings) (outside after.dialled x.written after.door after.readings))
        → IfErr end (λ halt. (M : Log) × HasStopped talk (made_by asked.settings) x.lines (outside_of before x.door before.written) (outside_of after after.door x.written) M)
    by (Ok e) fails = tt
    by (Err halt) fails =
        stopped_scripts_have_logs talk drawn (made_by asked.settings) asked.script x.lines x.reads (is_some asked.settings.direct_port) asked.settings.turns
        before.random (outside_of before x.door before.written) (outside_of after after.door x.written) fails

pub ran_nodes_tell : {L W : Type 0} (talk : L → Option (List Said)) (drawn : NodeEvent → W → W → Type 0) → RanNodesTell talk drawn
ran_nodes_tell {L} {W} talk drawn asked before after s x dialled arrived = by x.end (ran_nodes_use_links talk drawn asked before after s x)
  where
    U : Type 0
    U = LinksAreUsed talk (outside_of before x.door before.written) (outside_of after after.door x.written) x.last

    by : (end : Result RunEnd Halt) → IfOk end (λ e. U) → IfOk end (λ e. (u : U) × EachTells talk x.last u.links)
    by (Ok e) u = (
      u,
      links_tell talk (outside_of before x.door before.written) (outside_of after after.door x.written) x.last u
          (links_came_fresh talk (outside_of before x.door before.written) (outside_of after after.door x.written) x.last u dialled arrived),
    )
    by (Err halt) u = tt

pub stopped_nodes_tell : {L W : Type 0} (talk : L → Option (List Said)) (drawn : NodeEvent → W → W → Type 0) → StoppedNodesTell talk drawn
stopped_nodes_tell {L} {W} talk drawn asked before after s x dialled arrived = by x.end (stopped_nodes_use_links talk drawn asked before after s x)
  where
    S : Log → Type 0
    S M = HasStopped talk (made_by asked.settings) x.lines (outside_of before x.door before.written) (outside_of after after.door x.written) M

    by : (end : Result RunEnd Halt) → IfErr end (λ halt. (M : Log) × S M) → IfErr end (λ halt. (M : Log) × (r : S M) × EachTells talk M r.links.links)
    by (Ok e) h = tt
    by (Err halt) (M, r) =
        (M, r, stopped_links_tell talk (outside_of before x.door before.written) (outside_of after after.door x.written) M r.links dialled arrived)
