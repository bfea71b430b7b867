use Rattle.bsc_node_identity.proofs.Events.{begun_is_not_established}
use Rattle.bsc_node_identity.proofs.laws.begun_is_not_established.Goals as goal

pub returns : goal.returns
returns c = begun_is_not_established
