use Rattle.bsc_history.proofs.Causes.{ends_by_cause}
use Rattle.bsc_history.proofs.laws.ends_by_cause.Goals as goal

pub returns : goal.returns
returns c = ends_by_cause
