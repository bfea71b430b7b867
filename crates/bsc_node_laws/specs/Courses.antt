-- A node as its definition alone has it: what it is, is the log of what came to it.
use Rattle.std.specs.Prelude.{◌≡◌, ◌≤◌, ℕ, ◌-◌, IsTrue, List, [], ◌∷◌, ◌++◌, Option}
use Rattle.std.specs.List.{Contains}
use Rattle.bsc_edge.specs.Told.{Grows}
use Rattle.bsc_node.specs.declared.node_event.NodeEvent.{NodeEvent}
use Rattle.bsc_node.specs.declared.node_event.NodeEvent.TheVariants.{Finish}
use Rattle.bsc_node.specs.declared.timed_event.TimedEvent.{TimedEvent}
use Rattle.bsc_node.specs.declared.action.Action.{Action}
use Rattle.bsc_node.specs.Logs.{Made, Log}
use Rattle.bsc_node.specs.Node.{goes_on, actions_at}
use Rattle.bsc_node.specs.Conditions.{may_come}
use Rattle.bsc_node_run.specs.declared.due.Due.{Due}

-- An event that may come after the log: this is done, and so the log goes on.
abbrev pub GoesAt : Made → Log → TimedEvent → List Action → Log → Type 0
GoesAt a L e actions M = IsTrue (may_come L e) × (actions ≡ actions_at a L e) × (M ≡ L ++ goes_on a e L)

-- It comes at this time.
abbrev pub GoesAsDefined : Made → Log → ℕ → NodeEvent → List Action → Log → Type 0
GoesAsDefined a L now e actions M = GoesAt a L (record { now = now; event = e }) actions M

-- the last of some readings, the first of which is this
abbrev pub last_from : ℕ → List ℕ → ℕ
last_from t [] = t
last_from t (u ∷ times) = last_from u times

-- How much time passed from the first of these readings to the last.
abbrev pub passed_over : List ℕ → ℕ
passed_over [] = 0
passed_over (t ∷ times) = last_from t times - t

-- A line of the script is `finish`, and its time passed over these readings.
abbrev pub FinishIsOver : List Due → List ℕ → Type 0
FinishIsOver script times = (line : Due) × Contains script line × (line.event ≡ Finish) × (line.at ≤ passed_over times)

-- It passed over the readings that were given between these two moments.
abbrev pub FinishCame : List Due → Option (List ℕ) → Option (List ℕ) → Type 0
FinishCame script before after = (times : List ℕ) × Grows before after times × FinishIsOver script times
