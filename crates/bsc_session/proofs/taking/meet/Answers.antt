use Rattle.bsc_session.proofs.Opening.{meets}
use Rattle.bsc_session.proofs.taking.meet.Goals as goal

pub returns-clause-met : goal.returns-clause-met
returns-clause-met g c v s stood tied = meets v s c.args.now c.args.end c.args.at.now c.ended-step.new.self c.ended-step.result (g.L.Link.talk c.args.link.now)
    (g.L.Link.talk c.carry_out.new.link) c.carry_out.result stood tied c.ended-step.ensures.step c.ended-step.ensures.left c.carry_out.ensures.carried
