use Rattle.bsc_network_laws.proofs.Carried.{connections_are_of_diallers}
use Rattle.bsc_network_laws.proofs.laws.connections_are_of_diallers.Goals as goal

pub returns : goal.returns
returns c = connections_are_of_diallers
