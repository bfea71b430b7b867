use Rattle.std.proofs.Common.{◌≡◌, map, take}
use Rattle.bsc_journal.specs.Reading.{loosened}
use Rattle.bsc_journal.proofs.reading.loosen.Given as goal

abbrev pub invariant-loop-c : goal.invariant-loop-c
invariant-loop-c l = l.loose.items ≡ map loosened (take l.c-index l.line)
