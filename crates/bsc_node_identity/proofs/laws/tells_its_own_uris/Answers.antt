use Rattle.bsc_node_identity.proofs.Events.{tells_its_own_uris}
use Rattle.bsc_node_identity.proofs.laws.tells_its_own_uris.Goals as goal

pub returns : goal.returns
returns c = tells_its_own_uris
