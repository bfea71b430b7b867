use Rattle.std.proofs.Common.{◌≡◌, map, take}
use Rattle.bsc_legality.specs.Following.{seen}
use Rattle.bsc_legality.proofs.changing.look_at_all.Given as goal

abbrev pub invariant-loop-look : goal.invariant-loop-look
invariant-loop-look l = l.rows ≡ map (seen (take l.look-index l.looks)) l.initial.rows
