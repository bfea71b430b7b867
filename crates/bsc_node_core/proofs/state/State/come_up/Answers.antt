use Rattle.std.proofs.lemmas.Result.{on_ok_weaker}
use Rattle.bsc_node_core.proofs.Meets.{answered-up, came-up, not-up}
use Rattle.bsc_node_core.proofs.state.State.come_up.Goals as goal

pub returns-in-Up : goal.returns-in-Up
returns-in-Up c = on_ok_weaker c.finish_replaced.result
    (λ g b L replaced r e h.
    came-up b c.args.out.now _ _ c.args.self.now _ L c.args.k c.args.who _ _ c.in-Up.replaced replaced c.establish-answer.ensures.answer c.in-Up.is c.in_ok-tell.ensures e h
    (λ M names st. g b M r names st))
    c.finish_replaced.ensures

pub returns-in-Duplicate : goal.returns-in-Duplicate
returns-in-Duplicate c = λ b L replaced r e h.
    absurd (not-up _ c.in-Duplicate.is (answered-up b c.args.out.now c.args.self.now L c.args.k c.args.who _ _ replaced c.establish-answer.ensures.answer e h))
