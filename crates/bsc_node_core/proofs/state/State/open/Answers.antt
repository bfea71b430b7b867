use Rattle.std.proofs.Common.{◌++◌, None, refl}
use Rattle.std.proofs.lemmas.Result.{on_ok_weaker}
use Rattle.bsc_node.specs.Links.{opens}
use Rattle.bsc_node.specs.Events.{obeys}
use Rattle.bsc_node_core.specs.Standing.{Stands}
use Rattle.bsc_node_core.proofs.Ticking.{unmet-opened}
use Rattle.bsc_node_core.proofs.Asking.{two-in-order}
use Rattle.bsc_node_core.proofs.state.State.open.Goals as goal

pub returns : goal.returns
returns c = on_ok_weaker c.apply_step.result
    (λ g b L r n t h.
    two-in-order (Stands b _ _) L (opens c.args.name) (obeys b.made c.args.name)
    (g b (L ++ opens c.args.name L) None r n (λ who. unmet-opened b.made c.args.name L who t) (λ e. refl) (c.opens-step.ensures b c.args.out.now L r.1 r.2 n t h)))
    c.apply_step.ensures
