use Rattle.bsc_history.proofs.Gains.{unicast_to_holder_alone}
use Rattle.bsc_history.proofs.laws.unicast_to_holder_alone.Goals as goal

pub returns : goal.returns
returns c = unicast_to_holder_alone
