use Rattle.bsc_hub.proofs.Owning.{owned_kept}
use Rattle.bsc_hub.proofs.laws.own_stays.Goals as goal

pub returns : goal.returns
returns c h p q drew took made k v = owned_kept h p q took made k v
