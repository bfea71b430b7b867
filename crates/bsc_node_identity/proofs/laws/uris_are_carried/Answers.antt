use Rattle.bsc_node_identity.proofs.Carried.{uris_on, uris_plainly}
use Rattle.bsc_node_identity.proofs.laws.uris_are_carried.Goals as goal

pub returns : goal.returns
returns c = record { passed_on = uris_on; plain = uris_plainly }
