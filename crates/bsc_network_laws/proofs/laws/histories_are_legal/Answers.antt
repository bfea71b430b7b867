use Rattle.bsc_network_laws.proofs.Carried.{histories_are_legal}
use Rattle.bsc_network_laws.proofs.laws.histories_are_legal.Goals as goal

pub returns : goal.returns
returns c = histories_are_legal
