use Rattle.std.proofs.Common.{length}
use Rattle.bsc_options.proofs.Rest.{ItemsLeft}
use Rattle.bsc_options.proofs.reading.items_of.Given as goal

abbrev pub invariant-loop-first : goal.invariant-loop-first
invariant-loop-first l = ItemsLeft l.list l.rest l.options

abbrev pub decreases-loop-first : goal.decreases-loop-first
decreases-loop-first l = length l.rest
