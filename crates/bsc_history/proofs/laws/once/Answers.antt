use Rattle.bsc_history.proofs.Gains.{adds_once}
use Rattle.bsc_history.proofs.laws.once.Goals as goal

pub returns : goal.returns
returns c = adds_once
