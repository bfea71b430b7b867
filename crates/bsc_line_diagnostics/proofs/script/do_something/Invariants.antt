use Rattle.std.proofs.Common.{length}
use Rattle.bsc_line_diagnostics.proofs.script.do_something.Given as goal

abbrev pub decreases-loop-line : goal.decreases-loop-line
decreases-loop-line l = length l.rest
