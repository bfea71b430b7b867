use Rattle.bsc_node_command.proofs.Ran.{stopped_nodes_tell}
use Rattle.bsc_node_command.proofs.laws.stopped_nodes_tell.Goals as goal

pub returns : goal.returns
returns g c = stopped_nodes_tell _ _
