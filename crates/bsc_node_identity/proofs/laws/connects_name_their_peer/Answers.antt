use Rattle.bsc_node_identity.proofs.Carried.{connects_name_their_peer, others_name_nobody}
use Rattle.bsc_node_identity.proofs.laws.connects_name_their_peer.Goals as goal

pub returns : goal.returns
returns c = record { named = connects_name_their_peer; others = others_name_nobody }
