-- A run of a node is one of a node of a network.
-- It serves the clauses of `runs_are_of_nodes` and `stopped_runs_are_of_nodes`.
use Rattle.std.proofs.Common.{List, [], ◌∷◌, ◌++◌, Option, None, refl, sym, subst}
use Rattle.bsc_edge.specs.declared.said.Said.{Said}
use Rattle.bsc_node.specs.declared.node_event.NodeEvent.{NodeEvent}
use Rattle.bsc_node.specs.declared.timed_event.TimedEvent.{TimedEvent}
use Rattle.bsc_node.specs.Logs.{Made, Log}
use Rattle.bsc_node.specs.Node.{goes_on, log}
use Rattle.bsc_node_run.specs.declared.due.Due.{Due}
use Rattle.bsc_node_run.specs.Drawing.{Drawing, GoesDrawing, at_rest}
use Rattle.bsc_node_run.specs.Moments.{run_moment}
use Rattle.bsc_node_run.specs.Running.{Run}
use Rattle.bsc_node_laws.specs.Courses.{GoesAsDefined}
use Rattle.bsc_node_laws.proofs.Mapping.{Maps, run_map}
use Rattle.bsc_node_links.proofs.Walking.{log_alone}
use Rattle.bsc_node_links.specs.Stopped.{MightCome}
use Rattle.bsc_network_of_runs.specs.Running.{IsLogOf, RunsAreOfNodes, StoppedRunsAreOfNodes}
use Rattle.bsc_network_of_runs.proofs.Running as Running
use Rattle.bsc_network_of_runs.proofs.Scripts.{whole_of}
use Rattle.bsc_network_of_runs.proofs.Wholly as Wholly

pub runs_are_of_nodes : {L W : Type 0} (talk : L → Option (List Said)) (drawn : NodeEvent → W → W → Type 0) → RunsAreOfNodes talk drawn
runs_are_of_nodes {L} {W} talk drawn a is_node text lines reads listens end turns u u' o p M run = (
  record {
    made = a;
    events = went.events;
    may = went.may;
    whole = λ place e c. Wholly.whole_event a (log a went.events) whole place e c;
    is_node = is_node;
  },
  refl,
  sym went.is,
)
  where
    r : Run (GoesAsDefined a) talk listens end turns lines (run_moment [] o.dialled o.written o.door o.readings) (run_moment M p.dialled p.written p.door p.readings)
    r = run_map (GoesDrawing (GoesAsDefined a) drawn) (GoesAsDefined a) (λ (d : Drawing Log W). d.node) (log_alone drawn a) talk listens end turns lines
        (at_rest [] u) (at_rest M u') o.dialled p.dialled o.written p.written o.door p.door o.readings p.readings run

    went : IsLogOf a M
    went = Running.is_log a M (Running.turns a talk listens r.times None lines [] r.first o.door M r.last p.door r.went)

    whole : Wholly.EachWhole (log a went.events)
    whole = subst Wholly.EachWhole went.is (Wholly.turns a talk listens r.times None lines (whole_of text lines reads) [] r.first o.door M r.last p.door r.went tt)

-- ---- a run that a fault stopped

may_from : (a : Made) (script : List Due) (M : Log) (events : List TimedEvent) → MightCome a script M events → Running.MayFrom a M events
may_from a script M [] h = tt
may_from a script M (e ∷ events) h = (h.0, may_from a script (M ++ goes_on a e M) events h.2)

pub stopped_runs_are_of_nodes : {L : Type 0} (talk : L → Option (List Said)) → StoppedRunsAreOfNodes talk
stopped_runs_are_of_nodes talk a is_node text lines reads o p M s = (
  record {
    made = a;
    events = went.events;
    may = went.may;
    whole = λ place e c. Wholly.whole_event a (log a went.events) whole place e c;
    is_node = is_node;
  },
  refl,
  sym went.is,
)
  where
    went : IsLogOf a M
    went = Running.is_log a M (record { events = s.events; is = s.is; may = may_from a lines [] s.events s.might })

    whole : Wholly.EachWhole (log a went.events)
    whole = subst Wholly.EachWhole went.is (subst Wholly.EachWhole (sym s.is) (Wholly.whole_all a lines (whole_of text lines reads) [] s.events s.might tt))
