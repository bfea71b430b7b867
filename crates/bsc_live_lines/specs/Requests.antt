-- What is asked of a node by the lines of an input, as they are taken of an inbox.
use Rattle.std.specs.Prelude.{ℕ, nat_lt, Bool, true, false, if◌then◌else◌, List, [], ◌∷◌, length, filter_map, Option, Some, None}
use Rattle.std.specs.List.{list_any}
use Rattle.bsc_text.specs.declared.bounds.TheConstants.{MAX_LINE_LEN}
use Rattle.bsc_input.specs.declared.inbox.taken.Taken.{Taken}
use Rattle.bsc_input.specs.declared.inbox.taken.Taken.TheVariants.{Line as OneLine, Nothing as NoLine, End}
use Rattle.bsc_node.specs.declared.node_event.NodeEvent.{NodeEvent}
use Rattle.bsc_node.specs.declared.node_event.NodeEvent.TheVariants.{Finish}
use Rattle.bsc_node_run.specs.declared.line.Line.{Line}
use Rattle.bsc_node_run.specs.declared.line.Line.TheVariants.{Ask}
use Rattle.bsc_node_run.specs.Saying.{line_of}

-- What a line says, as in a script; None where it has no form of a line, or is too long.
abbrev pub said_by : List ℕ → Option Line
said_by o = if nat_lt MAX_LINE_LEN (length o) then None else line_of o

-- what is asked by what a line says
abbrev pub asked_by : Option Line → Option NodeEvent
asked_by (Some (Ask event)) = Some event
asked_by said = None

-- What is asked by what was taken: by a line what it says, and by the end of the input that the node ends.
abbrev pub request_of : Taken → Option NodeEvent
request_of (OneLine o) = asked_by (said_by o)
request_of NoLine = None
request_of End = Some Finish

-- whether the node is asked to end
abbrev pub is_finish : NodeEvent → Bool
is_finish Finish = true
is_finish event = false

abbrev pub has_finish : List NodeEvent → Bool
has_finish events = list_any is_finish events

-- These up to the first that asks the node to end.
abbrev pub up_to_finish : List NodeEvent → List NodeEvent
up_to_finish [] = []
up_to_finish (event ∷ events) = event ∷ (if is_finish event then [] else up_to_finish events)

-- All that is asked by what was taken, in order. Behind what asks the node to end nothing is asked.
abbrev pub requests : List Taken → List NodeEvent
requests taken = up_to_finish (filter_map request_of taken)
