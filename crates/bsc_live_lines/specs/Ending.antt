-- That an input's lines ask a node to end.
use Rattle.std.specs.Prelude.{◌≡◌, List, Some}
use Rattle.std.specs.List.{Contains}
use Rattle.bsc_input.specs.declared.inbox.taken.Taken.{Taken}
use Rattle.bsc_node.specs.declared.node_event.NodeEvent.TheVariants.{Finish}
use Rattle.bsc_live_lines.specs.Requests.{request_of}

-- A line that asks the node to end was taken, or the end of the input.
abbrev pub EndWasTaken : List Taken → Type 0
EndWasTaken taken = (one : Taken) × Contains taken one × (request_of one ≡ Some Finish)
