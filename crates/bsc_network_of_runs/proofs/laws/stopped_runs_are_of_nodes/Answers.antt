use Rattle.bsc_network_of_runs.proofs.OfNodes.{stopped_runs_are_of_nodes}
use Rattle.bsc_network_of_runs.proofs.laws.stopped_runs_are_of_nodes.Goals as goal

pub returns : goal.returns
returns g c = stopped_runs_are_of_nodes _
