use Rattle.bsc_node.proofs.Delivering.{delivers_what_came}
use Rattle.bsc_node.proofs.laws.delivers_what_came.Goals as goal

pub returns : goal.returns
returns c = λ a. delivers_what_came a
