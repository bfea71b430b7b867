-- For which log a node stands, from one event to the next.
use Rattle.std.specs.Prelude.{◌≡◌, IsTrue, List, [], ◌++◌, None}
use Rattle.std.specs.List.{list_all}
use Rattle.bsc_node.specs.declared.timed_event.TimedEvent.{TimedEvent}
use Rattle.bsc_node.specs.declared.action.Action.{Action}
use Rattle.bsc_node.specs.Logs.{Made, Log, now}
use Rattle.bsc_node.specs.Ways.{resolve_calls}
use Rattle.bsc_node.specs.Node.{goes_on, actions_at}
use Rattle.bsc_node.specs.Conditions.{may_come}
use Rattle.bsc_node.specs.Links.{begins_in_slots}
use Rattle.bsc_node_core.specs.declared.node.Node.{Node}
use Rattle.bsc_node_core.specs.declared.state.State.{State}
use Rattle.bsc_node_core.specs.Standing.{Base}
use Rattle.bsc_node_core.specs.Resolving.{BothStand}

-- between two events: nothing was done since this log, and no step of a link's machine is left to carry out
abbrev pub at_rest : Made → Log → State → Base
at_rest a L spare = record { made = a; before = L; now = now L; asked = resolve_calls L; busy = None; spare = spare }

-- A node was made so, and what it keeps is what this log says; what wasn't touched of it since, its spare keeps too. No link
-- began in the log but those of its hubs and slots.
pub record NodeStands (node : Node) (a : Made) (L : Log) : Type 0 where
  pub limits : a.limits ≡ node.limits
  pub kept : BothStand (at_rest a L node.spare) [] node.state node.resolve L
  pub begun : IsTrue (list_all begins_in_slots L)

-- For whatever log it stood after which the event may come, it does what the definition asks for, and stands for the log
-- as it goes on.
abbrev pub NodeAnswers : Node → Node → TimedEvent → List Action → Type 0
NodeAnswers old new e actions =
    (a : Made) (L : Log) → NodeStands old a L → IsTrue (may_come L e) → (actions ≡ actions_at a L e) × NodeStands new a (L ++ goes_on a e L)

-- Whatever log it stood for, it stands for still.
abbrev pub IsUnchanged : Node → Node → Type 0
IsUnchanged old new = (a : Made) (L : Log) → NodeStands old a L → NodeStands new a L
