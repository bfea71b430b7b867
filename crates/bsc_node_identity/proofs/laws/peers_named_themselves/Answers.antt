use Rattle.bsc_node_identity.proofs.Events.{peers_named_themselves}
use Rattle.bsc_node_identity.proofs.laws.peers_named_themselves.Goals as goal

pub returns : goal.returns
returns c = peers_named_themselves
