use Rattle.std.proofs.Common.{refl}
use Rattle.bsc_turn.specs.Effects.{having_seen}
use Rattle.bsc_turn.proofs.Owning.{same_own}
use Rattle.bsc_turn.proofs.laws.entering_keeps_own.Goals as goal

pub returns : goal.returns
returns c v seen before after = same_own v (having_seen seen v) seen refl before after
