-- The pass clause of a call that asked for numbers, and of calls after it.
-- It serves the clauses of `run_jobs` and `run`.
use Rattle.std.proofs.Common.{ℕ, List, ◌++◌, Option, None, subst, add-zero}
use Rattle.bsc_turn.specs.declared.pass.Pass.{Pass}
use Rattle.bsc_turn.specs.declared.view.EndedCaller.{EndedCaller}
use Rattle.bsc_hub.specs.declared.hub.Hub.{Hub}
use Rattle.bsc_hub.specs.Passing.{Passed, Placed, Went}
use Rattle.bsc_hub.proofs.Following.{went_then}

-- calls that asked for none come after it
pub went_on : (h : Hub) (p m q : Pass) (drew : ℕ) (xs ys : List EndedCaller) (made : Option Placed) → Went h p drew xs None m → Passed h m ys made q → Went h p drew (xs ++ ys) made q
went_on h p m q drew xs ys made a b = subst (λ (n : ℕ). Went h p n (xs ++ ys) made q) (add-zero drew) (went_then h p m q drew 0 xs ys made a b)
