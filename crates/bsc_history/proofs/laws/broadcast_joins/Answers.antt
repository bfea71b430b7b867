use Rattle.bsc_history.proofs.Gains.{broadcast_joins}
use Rattle.bsc_history.proofs.laws.broadcast_joins.Goals as goal

pub returns : goal.returns
returns c = broadcast_joins
