-- What the line breaks is what is left of it, with whether an odd number of digits stood before.
use Rattle.std.proofs.Common.{◌≡◌, length}
use Rattle.bsc_text.specs.Words.{words_of}
use Rattle.bsc_diagnostics.specs.Forms.{are_odd, differ, first, no_digits, octets_broken, odd}
use Rattle.bsc_diagnostics.proofs.rules.hold_octets.Given as goal

abbrev pub decreases-loop-word : goal.decreases-loop-word
decreases-loop-word l = length l.rest

abbrev pub invariant-loop-word : goal.invariant-loop-word
invariant-loop-word l = octets_broken (words_of l.fn.words) ≡ first (no_digits (words_of l.rest)) (odd (differ l.is_odd (are_odd (words_of l.rest))))
