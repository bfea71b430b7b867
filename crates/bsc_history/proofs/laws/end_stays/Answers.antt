use Rattle.bsc_history.proofs.Causes.{end_stays}
use Rattle.bsc_history.proofs.laws.end_stays.Goals as goal

pub returns : goal.returns
returns c = end_stays
