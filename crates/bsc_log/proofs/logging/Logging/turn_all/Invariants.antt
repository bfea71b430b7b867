use Rattle.std.proofs.Common.{◌≡◌, ◌++◌, take, flat_map}
use Rattle.bsc_log.specs.Turnings.{turned_for}
use Rattle.bsc_log.proofs.logging.Logging.turn_all.Given as goal

-- Those before this place are told of.
abbrev pub invariant-loop-one : goal.invariant-loop-one
invariant-loop-one g l = l.self.turned.items ≡ l.fn.self.turned.items ++ flat_map (turned_for l.since) (take l.one-index l.counts)
