use Rattle.bsc_node_links.proofs.Telling.{stopped_links_tell}
use Rattle.bsc_node_links.proofs.laws.stopped_links_tell.Goals as goal

pub returns : goal.returns
returns g c = stopped_links_tell _
