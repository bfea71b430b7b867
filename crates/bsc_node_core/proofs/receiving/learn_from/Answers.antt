use Rattle.std.proofs.lemmas.Result.{on_ok_weaker}
use Rattle.bsc_node.specs.Receiving.{learns}
use Rattle.bsc_node_core.proofs.Taking.{both-known}
use Rattle.bsc_node_core.proofs.receiving.learn_from.Goals as goal

pub returns-in-Some-clause-goes : goal.returns-in-Some-clause-goes
returns-in-Some-clause-goes c = on_ok_weaker c.learn.result
    (λ g b s L name msg i f h. both-known b _ s _ L name msg (learns b.made msg c.args.uris) c.args.from c.in-Some.v f c.in-Some.is (g b s L msg i h))
    c.learn.ensures.goes
