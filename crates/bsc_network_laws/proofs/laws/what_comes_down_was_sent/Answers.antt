use Rattle.bsc_network_laws.proofs.Carried.{what_comes_down_was_sent}
use Rattle.bsc_network_laws.proofs.laws.what_comes_down_was_sent.Goals as goal

pub returns : goal.returns
returns c = what_comes_down_was_sent
