use Rattle.bsc_network_laws.proofs.Carried.{peers_are_there}
use Rattle.bsc_network_laws.proofs.laws.peers_are_there.Goals as goal

pub returns : goal.returns
returns c = peers_are_there
