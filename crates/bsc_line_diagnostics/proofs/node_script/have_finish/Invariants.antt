use Rattle.std.proofs.Common.{length}
use Rattle.bsc_line_diagnostics.proofs.node_script.have_finish.Given as goal

abbrev pub decreases-loop-line : goal.decreases-loop-line
decreases-loop-line l = length l.rest
