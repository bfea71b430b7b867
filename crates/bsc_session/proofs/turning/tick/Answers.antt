use Rattle.std.proofs.Common.{◌∙◌, sym}
use Rattle.bsc_session.proofs.Opening.{ticks_closed, ticks_on}
use Rattle.bsc_session.proofs.turning.tick.Goals as goal

pub returns-in-Some-clause-told : goal.returns-in-Some-clause-told
returns-in-Some-clause-told c v s f r =
    ticks_closed v s c.args.now c.args.at.now c.tick-step.new.self c.tick-step.result c.in-Some.closing c.waiting_for-why.result c.stop_closing.result f r c.tick-step.ensures.step
    (sym c.closing_in.ensures ∙ c.in-Some.is) c.waiting_for-why.ensures.waits c.stop_closing.ensures

pub returns-in-None-clause-told : goal.returns-in-None-clause-told
returns-in-None-clause-told c v s f r = ticks_on v s c.args.now c.args.at.now c.tick-step.new.self c.tick-step.result f r c.tick-step.ensures.step c.tick-step.ensures.left
    (sym c.closing_in.ensures ∙ c.in-None.is)
