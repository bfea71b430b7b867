use Rattle.bsc_history.proofs.Uniqueness.{settled}
use Rattle.bsc_history.proofs.laws.numbering.Goals as goal

pub returns : goal.returns
returns c = λ a H legal. (settled a H legal).numbered
