-- The octets of the words so far, and then those of the words that are left.
use Rattle.std.proofs.Common.{◌≡◌, ◌++◌, length}
use Rattle.std.specs.List.{flat_map}
use Rattle.bsc_text.specs.Words.{words_of}
use Rattle.bsc_text.proofs.words.joined.Given as goal

abbrev pub invariant-loop-word : goal.invariant-loop-word
invariant-loop-word l = l.octets.items ++ flat_map (λ w. w) (words_of l.line) ≡ flat_map (λ w. w) (words_of l.initial.line)

abbrev pub decreases-loop-word : goal.decreases-loop-word
decreases-loop-word l = length l.line
