use Rattle.bsc_node_identity.proofs.Leading.{ways_lead_there}
use Rattle.bsc_node_identity.proofs.laws.ways_lead_there.Goals as goal

pub returns : goal.returns
returns c = ways_lead_there
