use Rattle.bsc_node_identity.proofs.Events.{names_itself}
use Rattle.bsc_node_identity.proofs.laws.names_itself.Goals as goal

pub returns : goal.returns
returns c = names_itself
