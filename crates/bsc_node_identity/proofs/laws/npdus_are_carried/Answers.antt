use Rattle.bsc_node_identity.proofs.Carried.{npdus_on, npdus_plainly}
use Rattle.bsc_node_identity.proofs.laws.npdus_are_carried.Goals as goal

pub returns : goal.returns
returns c = record { passed_on = npdus_on; plain = npdus_plainly }
