use Rattle.bsc_turn.proofs.Owning.{two_callers_own}
use Rattle.bsc_turn.proofs.laws.two_callers.Goals as goal

pub returns : goal.returns
returns c = two_callers_own
