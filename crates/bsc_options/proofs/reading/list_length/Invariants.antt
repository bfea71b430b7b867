use Rattle.std.proofs.Common.{length}
use Rattle.bsc_options.proofs.Chains.{WalkedTo}
use Rattle.bsc_options.proofs.reading.list_length.Given as goal

abbrev pub invariant-loop-first : goal.invariant-loop-first
invariant-loop-first l = WalkedTo l.o l.rest

abbrev pub decreases-loop-first : goal.decreases-loop-first
decreases-loop-first l = length l.rest
