use Rattle.std.proofs.Common.{rules, ◌≡◌, [], ◌∷◌, ◌++◌}
use Rattle.bsc_ws.proofs.Offering.{next_is_left}
use Rattle.bsc_ws.proofs.protocol.asks_for.Goals as goal

pub loop-value-preserved : goal.loop-value-preserved
loop-value-preserved c =
    let before = c.loop-value.invariant.2 in
    let cut : c.loop-value.value-iterator ≡ c.in-Some.value.now ∷ c.next.new.self = search rules in (
      search rules,
      search rules,
      (
        before.0 ++ c.in-Some.value.now ∷ [],
        next_is_left before.0 c.loop-value.value-iterator c.next.new.self c.in-Some.value.now before.1 cut,
      ),
    )
