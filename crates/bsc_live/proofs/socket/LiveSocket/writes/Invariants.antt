use Rattle.std.proofs.Common.{◌≡◌}
use Rattle.bsc_live.proofs.socket.LiveSocket.writes.Given as goal

-- Nothing has left yet.
abbrev pub invariant-loop : goal.invariant-loop
invariant-loop g l = l.self.raw.left.items ≡ l.fn.self.raw.left.items
