use Rattle.bsc_history.proofs.Missing.{full_misses}
use Rattle.bsc_history.proofs.laws.full_misses.Goals as goal

pub returns : goal.returns
returns c = full_misses
