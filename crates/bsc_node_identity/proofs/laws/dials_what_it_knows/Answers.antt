use Rattle.bsc_node_identity.proofs.Events.{dials_what_it_knows}
use Rattle.bsc_node_identity.proofs.laws.dials_what_it_knows.Goals as goal

pub returns : goal.returns
returns c = dials_what_it_knows
