use Rattle.bsc_network_laws.proofs.Carried.{taken_comes_down}
use Rattle.bsc_network_laws.proofs.laws.taken_comes_down.Goals as goal

pub returns : goal.returns
returns c = taken_comes_down
