-- What a run of a node promises of its log.
use Rattle.std.specs.Prelude.{◌≡◌, ℕ, Bool, IsTrue, List, [], map, Option, Ok}
use Rattle.bsc_edge.specs.declared.said.Said.{Said}
use Rattle.bsc_frame.specs.Payloads.{IsNode}
use Rattle.bsc_node.specs.declared.node_event.NodeEvent.{NodeEvent}
use Rattle.bsc_node.specs.declared.timed_event.TimedEvent.{TimedEvent}
use Rattle.bsc_node.specs.Conditions.{may_all_come}
use Rattle.bsc_node.specs.Logs.{Made, Log}
use Rattle.bsc_node.specs.Node.{log}
use Rattle.bsc_node_run.specs.declared.due.Due.{Due}
use Rattle.bsc_node_run.specs.declared.run_end.RunEnd.{RunEnd}
use Rattle.bsc_node_run.specs.declared.run_terms.RunTerms.{RunTerms}
use Rattle.bsc_node_run.specs.Drawing.{GoesDrawing, at_rest}
use Rattle.bsc_node_run.specs.Moments.{run_moment}
use Rattle.bsc_node_run.specs.Running.{Run, RunsTo}
use Rattle.bsc_node_run.specs.Scripts.{script_of, wish_of}
use Rattle.bsc_node_laws.specs.Courses.{GoesAsDefined}
use Rattle.bsc_node_links.specs.Stopped.{HasStopped}
use Rattle.bsc_node_links.specs.Using.{Outside}
use Rattle.bsc_network_of_runs.specs.Nodes.{NodeRun, log_of}

-- The log is that of a node to which these events came, each of which might come.
pub record IsLogOf (a : Made) (L : Log) : Type 0 where
  pub events : List TimedEvent
  pub is : L ≡ log a events
  pub may : IsTrue (may_all_come a events)

-- The log of each run that began with none is that of a node to which events came.
abbrev pub RunsHaveLogs : {L : Type 0} → (L → Option (List Said)) → Type 0
RunsHaveLogs {L} talk = (a : Made) (terms : RunTerms) (end : RunEnd) (o p : Outside L) (M : Log)
    → RunsTo (GoesAsDefined a) talk terms (run_moment [] o.dialled o.written o.door o.readings)
    (run_moment M p.dialled p.written p.door p.readings) end → IsLogOf a M

-- A run by the text of a script, of a node that was made with the identity of a node, is one of a node of a network: with what that
-- was made with, and with the log of the run. It may draw whichever words it draws.
abbrev pub RunsAreOfNodes : {L W : Type 0} → (L → Option (List Said)) → (NodeEvent → W → W → Type 0) → Type 0
RunsAreOfNodes {L} {W} talk drawn = (a : Made) → IsNode a.own → (text : List ℕ) (lines : List Due)
    → script_of text ≡ Ok (map wish_of lines)
    → (listens : Bool) (end : RunEnd) (turns : ℕ) (u u' : W) (o p : Outside L) (M : Log)
    → Run (GoesDrawing (GoesAsDefined a) drawn) talk listens end turns lines
    (run_moment (at_rest [] u) o.dialled o.written o.door o.readings) (run_moment
    (at_rest M u') p.dialled p.written p.door p.readings)
    → (n : NodeRun) × (n.made ≡ a) × (log_of n ≡ M)

-- So is one by the text of a script that a fault stopped, with the log that it has.
abbrev pub StoppedRunsAreOfNodes : {L : Type 0} → (L → Option (List Said)) → Type 0
StoppedRunsAreOfNodes {L} talk = (a : Made) → IsNode a.own → (text : List ℕ) (lines : List Due) → script_of text ≡ Ok (map wish_of lines)
    → (o p : Outside L) (M : Log) → HasStopped talk a lines o p M → (n : NodeRun) × (n.made ≡ a) × (log_of n ≡ M)
