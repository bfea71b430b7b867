use Rattle.bsc_direct.proofs.Following.{never_broadcast}
use Rattle.bsc_direct.proofs.laws.no_slot_is_established_for_the_broadcast.Goals as goal

pub returns : goal.returns
returns c = λ d calls s. never_broadcast d calls s
