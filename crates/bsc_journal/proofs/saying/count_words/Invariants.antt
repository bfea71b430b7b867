-- The words so far, and then those that are left; each has an octet of the line.
use Rattle.std.proofs.Common.{◌≡◌, ◌≤◌, ◌+◌, length}
use Rattle.bsc_text.specs.Words.{words_of}
use Rattle.bsc_journal.proofs.saying.count_words.Given as goal

abbrev pub invariant-loop-rest : goal.invariant-loop-rest
invariant-loop-rest l = record {
  words : l.count + length (words_of l.line) ≡ length (words_of l.initial.line);
  few : l.count + length l.line ≤ length l.initial.line;
}

abbrev pub decreases-loop-rest : goal.decreases-loop-rest
decreases-loop-rest l = length l.line
