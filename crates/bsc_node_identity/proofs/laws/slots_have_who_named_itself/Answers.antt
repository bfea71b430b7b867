use Rattle.bsc_node_identity.proofs.Events.{slots_have_who_named_itself}
use Rattle.bsc_node_identity.proofs.laws.slots_have_who_named_itself.Goals as goal

pub returns : goal.returns
returns c = slots_have_who_named_itself
