use Rattle.bsc_history.proofs.Missing.{one_of_three}
use Rattle.bsc_history.proofs.laws.one_of_three.Goals as goal

pub returns : goal.returns
returns c = one_of_three
