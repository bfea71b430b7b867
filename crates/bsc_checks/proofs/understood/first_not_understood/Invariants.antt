use Rattle.std.proofs.Common.{length}
use Rattle.bsc_checks.proofs.Behind.{RefusedLeft}
use Rattle.bsc_checks.proofs.understood.first_not_understood.Given as goal

abbrev pub invariant-loop-marker : goal.invariant-loop-marker
invariant-loop-marker l = RefusedLeft l.list l.rest

abbrev pub decreases-loop-marker : goal.decreases-loop-marker
decreases-loop-marker l = length l.rest
