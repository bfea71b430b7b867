use Rattle.std.proofs.Common.{ap}
use Rattle.std.proofs.lemmas.Result.{on_ok_weaker}
use Rattle.bsc_frame.specs.declared.answer.Answer.{Answer}
use Rattle.bsc_node.specs.Receiving.{takes_answer}
use Rattle.bsc_node_core.proofs.Taking.{both-answered}
use Rattle.bsc_node_core.proofs.Answering.{both-at-rest}
use Rattle.bsc_node_core.proofs.receiving.take_answer.Goals as goal

pub returns-in-Nak-clause-goes : goal.returns-in-Nak-clause-goes
returns-in-Nak-clause-goes c = on_ok_weaker c.take_nak.result
    (λ g b s L name msg i f h. both-answered b _ s _ L name msg c.args.answer.now _ c.in-Nak.is (g b s L name msg i f h))
    c.take_nak.ensures.goes

pub returns-in-Ack-clause-goes : goal.returns-in-Ack-clause-goes
returns-in-Ack-clause-goes c = λ b s L name msg i f h.
    both-at-rest b c.args.out.now s c.args.resolve.now L (takes_answer b.made name msg c.args.answer.now L) (ap (λ (x : Answer). takes_answer b.made name msg x L) c.in-Ack.is) h
