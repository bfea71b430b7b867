use Rattle.bsc_hub.proofs.Owning.{mark_kept}
use Rattle.bsc_hub.proofs.laws.mark_stays.Goals as goal

pub returns : goal.returns
returns c h p q drew took made k m = mark_kept h p q took made k m
