use Rattle.bsc_node.proofs.Apart.{broadcasts_keep_off_slots}
use Rattle.bsc_node.proofs.laws.broadcasts_keep_off_slots.Goals as goal

pub returns : goal.returns
returns c = λ a. broadcasts_keep_off_slots a
