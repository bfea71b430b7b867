-- The numbers so far, and then those of the rows that are left.
use Rattle.std.proofs.Common.{◌≡◌, ◌++◌, length}
use Rattle.bsc_legality.specs.Deciding.{all_skipped}
use Rattle.bsc_legality.proofs.breaching.all_skipped.Given as goal

abbrev pub invariant-loop-rows : goal.invariant-loop-rows
invariant-loop-rows l = l.numbers.items ++ all_skipped l.sender l.size l.rows ≡ all_skipped l.sender l.size l.initial.rows

abbrev pub decreases-loop-rows : goal.decreases-loop-rows
decreases-loop-rows l = length l.rows
