use Rattle.bsc_resolve.proofs.Following.{learnt_stays}
use Rattle.bsc_resolve.proofs.laws.what_is_learnt_stays.Goals as goal

pub returns : goal.returns
returns c = λ calls call v none. learnt_stays calls call v none
