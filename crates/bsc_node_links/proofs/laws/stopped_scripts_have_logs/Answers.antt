use Rattle.bsc_node_links.proofs.Stopped.{stopped_scripts_have_logs}
use Rattle.bsc_node_links.proofs.laws.stopped_scripts_have_logs.Goals as goal

pub returns : goal.returns
returns g c = stopped_scripts_have_logs _ _
