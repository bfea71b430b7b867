use Rattle.bsc_node_command.proofs.Ran.{stopped_nodes_use_links}
use Rattle.bsc_node_command.proofs.laws.stopped_nodes_use_links.Goals as goal

pub returns : goal.returns
returns g c = stopped_nodes_use_links _ _
