use Rattle.bsc_node_command.proofs.Ran.{ran_nodes_use_links}
use Rattle.bsc_node_command.proofs.laws.ran_nodes_use_links.Goals as goal

pub returns : goal.returns
returns g c = ran_nodes_use_links _ _
