use Rattle.bsc_node_links.proofs.Stopped.{stopped_runs_have_logs}
use Rattle.bsc_node_links.proofs.laws.stopped_runs_have_logs.Goals as goal

pub returns : goal.returns
returns g c = stopped_runs_have_logs _
