use Rattle.bsc_node_links.proofs.Telling.{links_are_fresh}
use Rattle.bsc_node_links.proofs.laws.links_are_fresh.Goals as goal

pub returns : goal.returns
returns g c = links_are_fresh _
