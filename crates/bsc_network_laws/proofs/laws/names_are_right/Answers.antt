use Rattle.bsc_network_laws.proofs.Carried.{names_are_right}
use Rattle.bsc_network_laws.proofs.laws.names_are_right.Goals as goal

pub returns : goal.returns
returns c = names_are_right
