use Rattle.std.proofs.Common.{◌≡◌, map, take}
use Rattle.bsc_legality.specs.Following.{added_to}
use Rattle.bsc_legality.proofs.changing.add_to_all.Given as goal

abbrev pub invariant-loop-conn : goal.invariant-loop-conn
invariant-loop-conn l = l.rows ≡ map (added_to (take l.conn-index l.to)) l.initial.rows
