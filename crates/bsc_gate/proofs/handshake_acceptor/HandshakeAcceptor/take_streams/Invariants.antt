use Rattle.std.proofs.Common.{◌≡◌}
use Rattle.bsc_gate.proofs.handshake_acceptor.HandshakeAcceptor.take_streams.Given as goal

-- The counts, the port and the kind are those of the call.
abbrev pub invariant-loop : goal.invariant-loop
invariant-loop g l =
    (l.self.faults ≡ l.fn.self.faults) × (l.self.quiets ≡ l.fn.self.quiets) × (l.self.bound ≡ l.fn.self.bound)
    × (l.self.kind ≡ l.fn.self.kind)
