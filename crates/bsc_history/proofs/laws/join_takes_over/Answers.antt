use Rattle.bsc_history.proofs.Takeover.{join_takes_over}
use Rattle.bsc_history.proofs.laws.join_takes_over.Goals as goal

pub returns : goal.returns
returns c = join_takes_over
