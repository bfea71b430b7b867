use Rattle.bsc_node.proofs.Apart.{slots_keep_apart}
use Rattle.bsc_node.proofs.laws.slots_keep_apart.Goals as goal

pub returns : goal.returns
returns c = λ a. slots_keep_apart a
