use Rattle.bsc_history.proofs.Entering.{enter_by_forwards}
use Rattle.bsc_history.proofs.laws.frames_enter_by_forwards.Goals as goal

pub returns : goal.returns
returns c = enter_by_forwards
