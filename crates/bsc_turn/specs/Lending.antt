-- What a guard lends.
use Rattle.std.specs.Borrow.{Lends, MutBor, Fml}
use denote.RattleType.{RattleType}
use Rattle.bsc_turn.specs.declared.guard.Guard.{Guard}
use Rattle.bsc_turn.specs.contracts.guard.Guard.{the_row}

-- What is written through the reference r is the state of the guard from then on.
abbrev pub LendsState : (T S : RattleType) → MutBor (Guard T.Denot S.Denot) → MutBor S.Denot → Fml
LendsState T S g r = Lends (the_row T S) S g r (λ w. record g.now { state = w })
