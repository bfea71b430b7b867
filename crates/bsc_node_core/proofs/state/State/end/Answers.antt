use Rattle.std.proofs.Common.{◌++◌}
use Rattle.std.proofs.lemmas.Result.{on_ok_weaker}
use Rattle.bsc_node.specs.Ending.{ends_by, tells_finished}
use Rattle.bsc_node_core.specs.Standing.{Stands}
use Rattle.bsc_node_core.proofs.Asking.{two-in-order}
use Rattle.bsc_node_core.proofs.state.State.end.Goals as goal

pub returns : goal.returns
returns c = on_ok_weaker c.tell_finished.result
    (λ g b L r h.
    two-in-order (Stands b _ _) L (ends_by b.made c.args.name) tells_finished (g b (L ++ ends_by b.made c.args.name L) (c.in_ok-end_by.ensures b L r h)))
    c.tell_finished.ensures
