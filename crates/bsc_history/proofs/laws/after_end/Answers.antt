use Rattle.bsc_history.proofs.Uniqueness.{none_after_end}
use Rattle.bsc_history.proofs.laws.after_end.Goals as goal

pub returns : goal.returns
returns c = none_after_end
