use Rattle.std.proofs.Common.{◌++◌}
use Rattle.std.proofs.lemmas.Result.{on_ok_weaker}
use Rattle.bsc_node.specs.declared.link_name.LinkName.TheVariants.{Direct}
use Rattle.bsc_node.specs.declared.note.Note.TheVariants.{NoDirect}
use Rattle.bsc_node.specs.Logs.{nothing, tells, where_found}
use Rattle.bsc_node.specs.Ways.{wanted}
use Rattle.bsc_node.specs.Ending.{ends}
use Rattle.bsc_node_core.specs.Standing.{Stands}
use Rattle.bsc_node_core.proofs.Asking.{two-in-order}
use Rattle.bsc_node_core.proofs.failing.give_up.Goals as goal

pub returns : goal.returns
returns c = on_ok_weaker c.end.result
    (λ g b L r w h.
    let first = where_found (wanted c.args.k) (λ v. tells (NoDirect v)) nothing in
    two-in-order (λ M. Stands b c.end.new.out c.end.new.self M) L first (ends b.made (Direct c.args.k)) (g b (L ++ first L) r (c.in_ok-tell_none.ensures b c.args.state.now L w h)))
    c.end.ensures
