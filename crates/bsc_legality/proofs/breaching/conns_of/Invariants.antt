use Rattle.std.proofs.Common.{◌≡◌, take}
use Rattle.bsc_legality.specs.Deciding.{conns}
use Rattle.bsc_legality.proofs.breaching.conns_of.Given as goal

abbrev pub invariant-loop-look : goal.invariant-loop-look
invariant-loop-look l = l.numbers.items ≡ conns (take l.look-index l.looks)
