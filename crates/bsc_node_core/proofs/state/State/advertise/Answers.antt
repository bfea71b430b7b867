use Rattle.std.proofs.lemmas.Result.{on_ok_weaker}
use Rattle.bsc_node_core.proofs.Wants.{same-lines}
use Rattle.bsc_node_core.proofs.Receipts.{advertised-lines}
use Rattle.bsc_node_core.proofs.state.State.advertise.Goals as goal

pub returns : goal.returns
returns c = on_ok_weaker c.put.result
    (λ g b L msg l d h.
    same-lines b _ _ L _ _ (advertised-lines b c.args.out.now c.args.self.now L c.args.name msg c.args.dest _ _ d (c.advert.ensures.told b c.args.out.now L l h) c.in_ok-octets.ensures h) (g b L h))
    c.put.ensures.goes
