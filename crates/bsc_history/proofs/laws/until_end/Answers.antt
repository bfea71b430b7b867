use Rattle.bsc_history.proofs.Named.{live_until_ended}
use Rattle.bsc_history.proofs.laws.until_end.Goals as goal

pub returns : goal.returns
returns c = live_until_ended
