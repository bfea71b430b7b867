use Rattle.bsc_node_links.proofs.Telling.{links_came_fresh}
use Rattle.bsc_node_links.proofs.laws.links_came_fresh.Goals as goal

pub returns : goal.returns
returns g c = links_came_fresh _
