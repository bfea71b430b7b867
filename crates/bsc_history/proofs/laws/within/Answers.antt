use Rattle.bsc_history.proofs.Capacity.{within_capacity}
use Rattle.bsc_history.proofs.laws.within.Goals as goal

pub returns : goal.returns
returns c = within_capacity
