use Rattle.bsc_node_core.proofs.Answering.{both-refused-by}
use Rattle.bsc_node_core.proofs.receiving.take_nak.Goals as goal

pub returns-clause-goes : goal.returns-clause-goes
returns-clause-goes c = λ b s L name msg i f h.
    both-refused-by b c.args.out.now _ s c.args.resolve.now _ L name msg c.args.from c.args.id c.args.function c.args.code i f c.in_ok-tell.ensures c.drop_question.ensures h
