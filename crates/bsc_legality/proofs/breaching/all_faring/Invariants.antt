-- The numbers so far, and then those of the looks that are left.
use Rattle.std.proofs.Common.{◌≡◌, ◌++◌, filter, length}
use Rattle.bsc_legality.specs.Deciding.{conns, fares_so}
use Rattle.bsc_legality.proofs.breaching.all_faring.Given as goal

abbrev pub invariant-loop-look : goal.invariant-loop-look
invariant-loop-look l = l.numbers.items ++ conns (filter (fares_so l.full l.outbox l.rows) l.looks)
    ≡ conns (filter (fares_so l.full l.outbox l.rows) l.initial.looks)

abbrev pub decreases-loop-look : goal.decreases-loop-look
decreases-loop-look l = length l.looks
