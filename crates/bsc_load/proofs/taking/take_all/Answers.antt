use Rattle.std.proofs.Common.{List, ℕ, length, refl, ap, ◌∙◌}
use Rattle.std.specs.Prelude.{◌-◌}
use Rattle.bsc_load.proofs.Emptying.{counted_more, emptied_closed, emptied_empty, emptied_still}
use Rattle.bsc_load.proofs.taking.take_all.Goals as goal

pub loop-init : goal.loop-init
loop-init g c = (tt, tt, refl, c.requires, λ n so. so)

pub loop-preserved : goal.loop-preserved
loop-preserved g c = (
  tt,
  tt,
  c.take.ensures.mark ∙ c.loop.invariant.2,
  counted_more c.loop.outlet c.take.new.self _ c.loop.octets c.npdu_len.result c.saturating_add-octets.result c.in-Frame.ensures.took c.loop.invariant.3
      (c.npdu_len.ensures ∙ ap (λ (l : List ℕ). length l - 10) c.as_slice.ensures) c.saturating_add-octets.ensures,
  λ n so. emptied_still c.loop.outlet c.take.new.self _ n c.in-Frame.ensures.took (c.loop.invariant.4 n so),
)

pub returns-in-Empty-clause-emptied : goal.returns-in-Empty-clause-emptied
returns-in-Empty-clause-emptied g c n few so = emptied_empty c.loop.outlet c.take.new.self c.in-Empty.ensures.took n few (c.loop.invariant.4 n so)

pub returns-in-Closed-clause-emptied : goal.returns-in-Closed-clause-emptied
returns-in-Closed-clause-emptied g c n few so = emptied_closed c.loop.outlet c.take.new.self _ c.in-Closed.ensures.took n few (c.loop.invariant.4 n so)
