use Rattle.bsc_network_laws.proofs.SameNetwork.{failures_are_all_heard}
use Rattle.bsc_network_laws.proofs.laws.failures_are_all_heard.Goals as goal

pub returns : goal.returns
returns c = failures_are_all_heard
