-- The numbers so far, and then those that come first in the words that are left.
use Rattle.std.proofs.Common.{◌≡◌, ◌++◌, length}
use Rattle.bsc_text.specs.Words.{words_of}
use Rattle.bsc_journal.specs.Reading.{numbers_in, read}
use Rattle.bsc_journal.proofs.reading.numbers_in.Given as goal

abbrev pub invariant-loop-n : goal.invariant-loop-n
invariant-loop-n l = numbers_in (words_of l.initial.words)
    ≡ read (l.numbers.items ++ (numbers_in (words_of l.words)).value) (numbers_in (words_of l.words)).rest

abbrev pub decreases-loop-n : goal.decreases-loop-n
decreases-loop-n l = length l.words
