use Rattle.std.proofs.Common.{[], ◌∷◌, ◌++◌}
use Rattle.std.proofs.lemmas.Result.{on_ok_weaker}
use Rattle.bsc_node.specs.declared.action.Action.TheVariants.{Put, Close}
use Rattle.bsc_node.specs.Logs.{does}
use Rattle.bsc_node_core.proofs.Together.{first-then, none-left}
use Rattle.bsc_node_core.proofs.state.State.put_and_close.Goals as goal

pub returns-clause-goes : goal.returns-clause-goes
returns-clause-goes c = on_ok_weaker c.close.result
    (λ g b L h.
    let put = does (Put c.args.name c.args.octets.now.items) in
    let close = does (Close c.args.name c.args.closing) in
    first-then b _ _ L put (close ∷ []) (first-then b _ _ (L ++ put L) close [] (none-left b _ _ ((L ++ put L) ++ close (L ++ put L)) (g b (L ++ put L) (c.in_ok-put_made.ensures.goes b L h)))))
    c.close.ensures.goes
