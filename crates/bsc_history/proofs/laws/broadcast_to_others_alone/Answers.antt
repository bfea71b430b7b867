use Rattle.bsc_history.proofs.Gains.{broadcast_to_others_alone}
use Rattle.bsc_history.proofs.laws.broadcast_to_others_alone.Goals as goal

pub returns : goal.returns
returns c = broadcast_to_others_alone
