use Rattle.std.proofs.Common.{◌≡◌, ◌++◌, drop}
use Rattle.bsc_options.specs.Spelling.{spelling_of}
use Rattle.bsc_options.proofs.writing.write_options.Given as goal

abbrev pub invariant-loop-i : goal.invariant-loop-i
invariant-loop-i l = l.out.items ++ spelling_of (drop l.i l.list) ≡ spelling_of l.list
