-- The numbers so far, and then those among the words that are left.
use Rattle.std.proofs.Common.{◌≡◌, ◌++◌, length}
use Rattle.bsc_text.specs.Words.{words_of}
use Rattle.bsc_journal.specs.Reading.{numbers_among}
use Rattle.bsc_journal.proofs.read_replies.numbers_among.Given as goal

abbrev pub invariant-loop-word : goal.invariant-loop-word
invariant-loop-word l = l.numbers.items ++ numbers_among (words_of l.words) ≡ numbers_among (words_of l.initial.words)

abbrev pub decreases-loop-word : goal.decreases-loop-word
decreases-loop-word l = length l.words
