use Rattle.bsc_history.proofs.Uniqueness.{settled}
use Rattle.bsc_history.proofs.laws.one_holder.Goals as goal

pub returns : goal.returns
returns c = λ a H legal. (settled a H legal).holders
