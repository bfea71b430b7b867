use Rattle.std.proofs.Common.{ap, sym, ◌∙◌, ◌++◌}
use Rattle.std.proofs.lemmas.Result.{on_ok_weaker}
use Rattle.bsc_node.specs.Links.{hears, verdict}
use Rattle.bsc_node.specs.Events.{obeys}
use Rattle.bsc_node.proofs.Named.{met-unicast}
use Rattle.bsc_node_core.specs.Resolving.{BothStand, asked_by}
use Rattle.bsc_node_core.proofs.Asking.{two-in-order}
use Rattle.bsc_node_core.proofs.following.hear.Goals as goal

pub returns-clause-goes : goal.returns-clause-goes
returns-clause-goes c = on_ok_weaker c.obey_heard.result
    (λ g b L r n o both.
    let h = both.state in
    let a = asked_by L b in
    let M = L ++ hears b.made c.args.name c.args.octets.now L in
    let v = ap (verdict b.made L c.args.name) (sym c.as_slice.ensures) ∙ c.in_ok-verdict.ensures a c.args.out.now L r.2 n o h in
    let told = c.hears-step.ensures a c.args.out.now L c.args.octets.now r.1 r.2 n o v h in
    two-in-order (BothStand b _ _ _) L (hears b.made c.args.name c.args.octets.now) (obeys b.made c.args.name)
    (g b L M r n (λ who. met-unicast b.made c.args.name c.args.octets.now L who) both.resolution told))
    c.obey_heard.ensures.goes
