-- For which log a node's state and its address resolution stand together.
use Rattle.std.specs.Prelude.{List}
use Rattle.bsc_resolve.specs.declared.resolve.Resolve.{Resolve}
use Rattle.bsc_resolve.specs.Standing.{ResolveStands}
use Rattle.bsc_node.specs.declared.action.Action.{Action}
use Rattle.bsc_node.specs.Logs.{Log}
use Rattle.bsc_node.specs.Ways.{resolve_calls}
use Rattle.bsc_node_core.specs.declared.state.State.{State}
use Rattle.bsc_node_core.specs.Standing.{Base, Stands}

-- the same base, with what the log says of address resolution
abbrev pub asked_by : Log → Base → Base
asked_by L b = record b { asked = resolve_calls L }

-- What a node keeps is what the log says, and so is its address resolution, where a question waits for the connect wait.
pub record BothStand (b : Base) (out : List Action) (s : State) (r : Resolve) (L : Log) : Type 0 where
  pub state : Stands (asked_by L b) out s L
  pub resolution : ResolveStands r b.made.limits.times.connect_wait (resolve_calls L)
