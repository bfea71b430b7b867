use Rattle.std.proofs.Common.{◌++◌, refl}
use Rattle.std.proofs.lemmas.Result.{on_ok_weaker}
use Rattle.bsc_node.specs.declared.action.Action.TheVariants.{Close}
use Rattle.bsc_node.specs.Logs.{did, does}
use Rattle.bsc_node.specs.Ending.{ends}
use Rattle.bsc_node.proofs.Told.{same_link-self}
use Rattle.bsc_node_core.specs.Standing.{Stands}
use Rattle.bsc_node_core.specs.Telling.{busy_with}
use Rattle.bsc_node_core.proofs.Asking.{two-in-order}
use Rattle.bsc_node_core.proofs.Settling.{settles-gone}
use Rattle.bsc_node_core.proofs.state.State.close_link.Goals as goal
use Rattle.bsc_node.proofs.There.{there-over}

pub returns : goal.returns
returns c = on_ok_weaker c.end.result
    (λ g b L r name h.
    let close = does (Close c.args.name c.args.closing) in
    let M = L ++ close L in
    let closed = settles-gone b _ _ M c.args.name r.2 name (there-over c.args.name L (did (Close c.args.name c.args.closing)) refl (same_link-self c.args.name))
    (c.in_ok-close.ensures.goes (busy_with c.args.name b) L h) in
    two-in-order (Stands b _ _) L close (ends b.made c.args.name) (g b M r closed))
    c.end.ensures
