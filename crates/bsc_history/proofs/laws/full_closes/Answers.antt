use Rattle.bsc_history.proofs.Closing.{full_closes}
use Rattle.bsc_history.proofs.laws.full_closes.Goals as goal

pub returns : goal.returns
returns c = full_closes
