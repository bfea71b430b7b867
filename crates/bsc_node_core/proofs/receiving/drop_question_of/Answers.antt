use Rattle.bsc_node_core.proofs.Answering.{both-dropped}
use Rattle.bsc_node_core.proofs.receiving.drop_question_of.Goals as goal

pub returns-then-function-eq-ADDRESS_RESOLUTION : goal.returns-then-function-eq-ADDRESS_RESOLUTION
returns-then-function-eq-ADDRESS_RESOLUTION c = λ b out s L h.
    both-dropped b out s c.args.resolve.now _ L c.args.function c.args.id c.args.v _ c.if-function-eq-ADDRESS_RESOLUTION.true c.refused.ensures.counts h
