use Rattle.std.proofs.Common.{sym, subst, Option, ℕ, ◌++◌}
use Rattle.std.proofs.lemmas.Result.{on_ok_weaker}
use Rattle.bsc_node.specs.Meeting.{finishes_replaced}
use Rattle.bsc_node_core.specs.Standing.{Stands}
use Rattle.bsc_node_core.proofs.Carrying.{nothing-more}
use Rattle.bsc_node_core.proofs.state.State.finish_replaced.Goals as goal

pub returns-in-Some : goal.returns-in-Some
returns-in-Some c = on_ok_weaker c.finish_link.result
    (λ g b L r names h.
    subst (λ (k : Option ℕ). Stands b c.finish_link.new.out c.finish_link.new.self (L ++ finishes_replaced b.made k L)) (sym c.in-Some.is) (g b L r (names c.in-Some.k c.in-Some.is) h))
    c.finish_link.ensures

pub returns-in-None : goal.returns-in-None
returns-in-None c = λ b L r names h.
    subst (λ (k : Option ℕ). Stands b c.args.out.now c.args.self.now (L ++ finishes_replaced b.made k L)) (sym c.in-None.is) (nothing-more b c.args.out.now c.args.self.now L h)
