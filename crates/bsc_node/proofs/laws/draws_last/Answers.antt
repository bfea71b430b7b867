use Rattle.bsc_node.proofs.Drawing.{draws_last}
use Rattle.bsc_node.proofs.laws.draws_last.Goals as goal

pub returns : goal.returns
returns c = λ a. draws_last a
