use Rattle.std.proofs.Common.{length}
use Rattle.bsc_options.proofs.Rest.{FaultLeft}
use Rattle.bsc_options.proofs.reading.first_fault.Given as goal

abbrev pub invariant-loop-first : goal.invariant-loop-first
invariant-loop-first l = FaultLeft l.list l.rest

abbrev pub decreases-loop-first : goal.decreases-loop-first
decreases-loop-first l = length l.rest
