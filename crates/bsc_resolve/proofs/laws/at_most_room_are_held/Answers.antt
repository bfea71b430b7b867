use Rattle.bsc_resolve.proofs.Following.{few_held}
use Rattle.bsc_resolve.proofs.laws.at_most_room_are_held.Goals as goal

pub returns : goal.returns
returns c = λ r wait calls s. few_held r wait calls s
