use Rattle.std.proofs.Common.{sym, ◌∙◌}
use Rattle.bsc_node_core.proofs.Answering.{both-learnt, both-not-learnt}
use Rattle.bsc_node_core.proofs.receiving.learn.Goals as goal

pub returns-in_ok-tell-clause-goes : goal.returns-in_ok-tell-clause-goes
returns-in_ok-tell-clause-goes c = λ b s L msg i h.
    both-learnt b c.args.out.now _ s c.args.resolve.now _ L msg c.args.id c.args.uris _ c.args.from _ i c.in_ok-copy.ensures c.in_ok-tell.ensures c.answered.ensures.counts
    (λ wait calls stands. sym c.if-awaits.true ∙ c.awaits.ensures wait calls stands) h

pub returns-else-awaits-clause-goes : goal.returns-else-awaits-clause-goes
returns-else-awaits-clause-goes c = λ b s L msg i h.
    both-not-learnt b c.args.out.now s c.args.resolve.now L msg c.args.id c.args.uris c.args.from i (λ wait calls stands. sym c.if-awaits.false ∙ c.awaits.ensures wait calls stands) h
