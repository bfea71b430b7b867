use Rattle.bsc_network_laws.proofs.Carried.{connections_join_by_links}
use Rattle.bsc_network_laws.proofs.laws.connections_join_by_links.Goals as goal

pub returns : goal.returns
returns c = connections_join_by_links
