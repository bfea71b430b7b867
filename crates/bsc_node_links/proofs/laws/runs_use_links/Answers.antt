use Rattle.bsc_node_links.proofs.Walking.{runs_use_links}
use Rattle.bsc_node_links.proofs.laws.runs_use_links.Goals as goal

pub returns : goal.returns
returns g c = runs_use_links _
