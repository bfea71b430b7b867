use Rattle.bsc_network_laws.proofs.Carried.{connections_joined_by_their_links}
use Rattle.bsc_network_laws.proofs.laws.connections_joined_by_their_links.Goals as goal

pub returns : goal.returns
returns c = connections_joined_by_their_links
