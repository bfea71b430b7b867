use Rattle.bsc_network_laws.proofs.Carried.{deliveries_are_all}
use Rattle.bsc_network_laws.proofs.laws.deliveries_are_all.Goals as goal

pub returns : goal.returns
returns c = deliveries_are_all
