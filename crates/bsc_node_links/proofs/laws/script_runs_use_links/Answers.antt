use Rattle.bsc_node_links.proofs.Walking.{script_runs_use_links}
use Rattle.bsc_node_links.proofs.laws.script_runs_use_links.Goals as goal

pub returns : goal.returns
returns g c = script_runs_use_links _ _
