use Rattle.std.proofs.Common.{List, ℕ, length, refl, ap, ◌∙◌}
use Rattle.bsc_load.proofs.StormFacts.Taking.{took_closed, took_empty, took_frame}
use Rattle.bsc_load.proofs.storm.staying.take_some.Goals as goal

pub loop-k-init : goal.loop-k-init
loop-k-init c = (refl, ap (λ (l : List (List ℕ)). length l) c.requires.0, c.requires.1)

pub loop-k-preserved : goal.loop-k-preserved
loop-k-preserved c = (
  c.take.ensures.mark ∙ c.loop-k.invariant.0,
  took_frame c.loop-k.outlet c.take.new.self _ c.loop-k.k c.in-Frame.ensures.took c.loop-k.invariant.1,
  c.in-Frame.ensures.took.2 ∙ c.loop-k.invariant.2,
)

pub returns-in-Empty-clause-took : goal.returns-in-Empty-clause-took
returns-in-Empty-clause-took c = took_empty c.loop-k.outlet c.take.new.self c.loop-k.k c.in-Empty.ensures.took c.loop-k.invariant.1 c.loop-k.invariant.2 c.loop-k-test.true

pub returns-in-Closed-clause-took : goal.returns-in-Closed-clause-took
returns-in-Closed-clause-took c = took_closed c.loop-k.outlet c.take.new.self _ c.loop-k.k c.in-Closed.ensures.took c.loop-k.invariant.1 c.loop-k.invariant.2 c.loop-k-test.true
