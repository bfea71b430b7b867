-- The looks so far, and then those of the numbers that are left.
use Rattle.std.proofs.Common.{◌≡◌, ◌++◌, length}
use Rattle.bsc_journal.specs.Reading.{looks_of}
use Rattle.bsc_journal.proofs.reading.looks_of.Given as goal

abbrev pub invariant-loop-numbers : goal.invariant-loop-numbers
invariant-loop-numbers l = l.looks.items ++ looks_of l.numbers ≡ looks_of l.initial.numbers

abbrev pub decreases-loop-numbers : goal.decreases-loop-numbers
decreases-loop-numbers l = length l.numbers
