use Rattle.std.proofs.Common.{◌≡◌, ◌<◌, IfSome, vec_len}
use Rattle.bsc_gate.proofs.OldestSoFar.{SoFar}
use Rattle.bsc_gate.proofs.handshakes.Handshakes.place.Given as goal

-- The oldest so far is that of the places that were looked at, none of which is free.
abbrev pub invariant-loop-place : goal.invariant-loop-place
invariant-loop-place l =
    IfSome l.oldest.place (λ p. p < l.place-end) × (l.place-end ≡ vec_len l.self.rows)
    × SoFar (λ r. r.until.micros) l.self.rows.items l.place l.oldest.place l.oldest.until.micros
