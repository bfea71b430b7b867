use Rattle.std.proofs.lemmas.Result.{on_ok_weaker}
use Rattle.bsc_node_core.proofs.Taking.{delivered-lines, delivered-stands}
use Rattle.bsc_node_core.proofs.receiving.deliver.Goals as goal

pub returns-in-Some : goal.returns-in-Some
returns-in-Some c = on_ok_weaker c.push.result
    (λ o b s L name msg f a d h.
    delivered-stands b c.args.out.now _ s L _ _ o (delivered-lines name msg c.args.npdu L c.args.from c.in-Some.v c.args.broadcast c.args.data_options f c.in-Some.is a d) h)
    c.push.ensures.ok
