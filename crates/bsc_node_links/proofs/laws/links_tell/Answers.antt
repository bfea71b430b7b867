use Rattle.bsc_node_links.proofs.Telling.{links_tell}
use Rattle.bsc_node_links.proofs.laws.links_tell.Goals as goal

pub returns : goal.returns
returns g c = links_tell _
