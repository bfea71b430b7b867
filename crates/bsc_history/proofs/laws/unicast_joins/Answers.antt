use Rattle.bsc_history.proofs.Gains.{unicast_joins}
use Rattle.bsc_history.proofs.laws.unicast_joins.Goals as goal

pub returns : goal.returns
returns c = unicast_joins
