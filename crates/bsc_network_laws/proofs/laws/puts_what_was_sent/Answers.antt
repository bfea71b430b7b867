use Rattle.bsc_network_laws.proofs.Carried.{puts_what_was_sent}
use Rattle.bsc_network_laws.proofs.laws.puts_what_was_sent.Goals as goal

pub returns : goal.returns
returns c = puts_what_was_sent
