use Rattle.bsc_node_identity.proofs.Peers.{slots_have_their_peers}
use Rattle.bsc_node_identity.proofs.laws.slots_have_their_peers.Goals as goal

pub returns : goal.returns
returns c = slots_have_their_peers
