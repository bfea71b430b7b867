-- That a node was asked to end.
use Rattle.std.specs.Prelude.{List, Option, Some}
use Rattle.std.specs.List.{Contains}
use Rattle.bsc_edge.specs.Told.{Grows}
use Rattle.bsc_node.specs.declared.node_event.NodeEvent.{NodeEvent}
use Rattle.bsc_node.specs.declared.node_event.NodeEvent.TheVariants.{Finish}
use Rattle.bsc_application.specs.Living.{Answered}

-- Between two moments the application asked that the node ends.
abbrev pub WasAskedToEnd : Answered → Answered → Type 0
WasAskedToEnd answered answered' = (given : List (Option NodeEvent)) × Grows answered answered' given × Contains given (Some Finish)
