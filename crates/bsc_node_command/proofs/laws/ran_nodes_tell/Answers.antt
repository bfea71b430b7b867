use Rattle.bsc_node_command.proofs.Ran.{ran_nodes_tell}
use Rattle.bsc_node_command.proofs.laws.ran_nodes_tell.Goals as goal

pub returns : goal.returns
returns g c = ran_nodes_tell _ _
