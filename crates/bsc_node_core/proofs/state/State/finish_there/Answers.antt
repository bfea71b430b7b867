use Rattle.std.proofs.Common.{◌++◌}
use Rattle.std.proofs.lemmas.Result.{on_ok_weaker}
use Rattle.bsc_node.specs.Logs.{nothing, either}
use Rattle.bsc_node.specs.Links.{is_there}
use Rattle.bsc_node.specs.Ending.{ends, finishes_machine}
use Rattle.bsc_node_core.specs.Standing.{Stands}
use Rattle.bsc_node_core.proofs.Asking.{two-in-order}
use Rattle.bsc_node_core.proofs.state.State.finish_there.Goals as goal

pub returns : goal.returns
returns c = on_ok_weaker c.end_gone.result
    (λ g b L r name h.
    two-in-order (Stands b _ _) L (finishes_machine b.made c.args.name) (either (is_there c.args.name) nothing (ends b.made c.args.name))
    (g b (L ++ finishes_machine b.made c.args.name L) r name (c.in_ok-finish_machine.ensures b L r.1 r.2 name h)))
    c.end_gone.ensures
