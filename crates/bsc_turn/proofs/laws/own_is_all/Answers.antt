use Rattle.bsc_turn.proofs.Owning.{own_is}
use Rattle.bsc_turn.proofs.laws.own_is_all.Goals as goal

pub returns : goal.returns
returns c = own_is
