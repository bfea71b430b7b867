use Rattle.std.proofs.Common.{◌≡◌, vec_len}
use Rattle.bsc_gate.proofs.handshakes.Handshakes.drop_late.Given as goal

-- The table has as many rows as at the call, and the same counts.
abbrev pub invariant-loop-place : goal.invariant-loop-place
invariant-loop-place l = (vec_len l.self.rows ≡ vec_len l.fn.self.rows) × (l.self.turned ≡ l.fn.self.turned)
