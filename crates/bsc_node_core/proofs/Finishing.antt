-- What a node keeps goes on standing for its log, where the machine of a link is told to finish.
-- It serves the clauses of `finish_machine`.
use Rattle.std.proofs.Common.{◌≡◌, true, List, [], ◌∷◌, ◌++◌, None, ap, sym, ◌∙◌}
use Rattle.bsc_node.specs.declared.link_name.LinkName.{LinkName}
use Rattle.bsc_node.specs.declared.action.Action.{Action}
use Rattle.bsc_node.specs.Logs.{Log, in_order}
use Rattle.bsc_node.specs.Links.{Outcome, is_there, finishes}
use Rattle.bsc_node.specs.Ending.{carries_out_by, carries_out, finishes_machine}
use Rattle.bsc_node.proofs.Calm.{is_calm}
use Rattle.bsc_node.proofs.Quiet.{calm-finished}
use Rattle.bsc_node_core.specs.declared.state.State.{State}
use Rattle.bsc_node_core.specs.Tables.{is_name}
use Rattle.bsc_node_core.specs.Standing.{Base, Stands}
use Rattle.bsc_node_core.specs.Telling.{HasTold}
use Rattle.bsc_node_core.proofs.Branching.{when-so}
use Rattle.bsc_node_core.proofs.Carrying.{carried}
use Rattle.bsc_node_core.proofs.Together.{first-then, none-left}

-- The machine of a link that is there was told to finish, and what it puts and closes is carried out.
pub finished : (b : Base) (out later : List Action) (s s' : State) (L : Log) (name : LinkName) (u : Outcome) → b.busy ≡ None → is_name name ≡ true → is_there name L ≡ true
    → HasTold b out s (L ++ finishes name L) name u
    → ((c : Base) → Stands c out s (L ++ finishes name L) → Stands c later s' ((L ++ finishes name L) ++ carries_out_by name u (L ++ finishes name L)))
    → Stands b later s' (L ++ finishes_machine b.made name L)
finished b out later s s' L name u none n t told g =
    when-so (Stands b later s') L (is_there name) (in_order (finishes name ∷ carries_out b.made name ∷ [])) t
    (first-then b later s' L (finishes name) (carries_out b.made name ∷ [])
    (first-then b later s' (L ++ finishes name L) (carries_out b.made name) []
    (none-left b later s' ((L ++ finishes name L) ++ carries_out b.made name (L ++ finishes name L))
    (carried b out later s s' (L ++ finishes name L) name u none n (ap is_calm (sym told.newest) ∙ calm-finished b.made name L) told g))))
