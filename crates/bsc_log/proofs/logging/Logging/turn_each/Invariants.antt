use Rattle.std.proofs.Common.{◌≡◌, ◌++◌, replicate}
use Rattle.bsc_log.specs.Turnings.{turned_at}
use Rattle.bsc_log.proofs.logging.Logging.turn_each.Given as goal

-- So many are told of as were counted.
abbrev pub invariant-loop-at : goal.invariant-loop-at
invariant-loop-at g l = l.self.turned.items ≡ l.fn.self.turned.items ++ replicate l.at (turned_at l.since l.fn.count.0)
