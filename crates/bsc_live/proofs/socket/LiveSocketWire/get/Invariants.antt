use Rattle.std.proofs.Common.{◌≡◌}
use Rattle.bsc_live.proofs.socket.LiveSocketWire.get.Given as goal

-- A read lets nothing leave.
abbrev pub invariant-loop : goal.invariant-loop
invariant-loop g l = l.self.raw.left.items ≡ l.fn.self.raw.left.items
