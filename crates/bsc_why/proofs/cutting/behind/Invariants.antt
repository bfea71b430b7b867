use Rattle.std.proofs.Common.{length}
use Rattle.bsc_why.proofs.cutting.behind.Given as goal

abbrev pub decreases-loop-after : goal.decreases-loop-after
decreases-loop-after l = length l.rest
