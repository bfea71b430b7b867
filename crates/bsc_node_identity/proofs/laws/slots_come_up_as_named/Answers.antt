use Rattle.bsc_node_identity.proofs.Events.{slots_come_up_as_named}
use Rattle.bsc_node_identity.proofs.laws.slots_come_up_as_named.Goals as goal

pub returns : goal.returns
returns c = slots_come_up_as_named
