use Rattle.bsc_turn.specs.Passes.{IsPassOf}
use Rattle.test_hub.proofs.turn.count_often.Given as goal

abbrev pub invariant-loop : goal.invariant-loop
invariant-loop g l = IsPassOf (λ s. s.about) l.turn l.pass
