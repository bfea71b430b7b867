use Rattle.std.proofs.Common.{length}
use Rattle.bsc_why.proofs.refused_line.why_in.Given as goal

abbrev pub decreases-loop-line : goal.decreases-loop-line
decreases-loop-line l = length l.rest
