use Rattle.std.proofs.Common.{length}
use Rattle.bsc_network_diagnostics.proofs.place.after_lines.Given as goal

abbrev pub decreases-loop-line : goal.decreases-loop-line
decreases-loop-line l = length l.rest
