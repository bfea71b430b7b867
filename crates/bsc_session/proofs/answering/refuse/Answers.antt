use Rattle.bsc_session.proofs.Asking.{refuse_carries}
use Rattle.bsc_session.proofs.answering.refuse.Goals as goal

pub returns-clause-refused : goal.returns-clause-refused
returns-clause-refused g c v s stood = refuse_carries v s c.args.at.now.machine c.refused-step.new.self c.args.refusal c.refused-step.result (g.L.Link.talk c.args.link.now)
    (g.L.Link.talk c.carry_out.new.link) c.carry_out.result stood c.refused-step.ensures.step c.carry_out.ensures.carried
