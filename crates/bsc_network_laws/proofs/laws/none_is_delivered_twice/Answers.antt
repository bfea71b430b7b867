use Rattle.bsc_network_laws.proofs.DeliveredOnce.{none_is_delivered_twice}
use Rattle.bsc_network_laws.proofs.laws.none_is_delivered_twice.Goals as goal

pub returns : goal.returns
returns c = none_is_delivered_twice
