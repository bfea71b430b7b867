-- The three waits of an accepting peer. Times are in milliseconds; a wait that is over is over from that moment on.
use Rattle.std.specs.Prelude.{ℕ, ◌-◌, ◌*◌, Bool, nat_le}
use Rattle.bsc_accept.specs.declared.start.Start.{Start}
use Rattle.bsc_accept.specs.declared.pending_disconnect.PendingDisconnect.{PendingDisconnect}

infix 20 ◌≥◌
abbrev pub ◌≥◌ : ℕ → ℕ → Bool
a ≥ b = nat_le b a

-- The connect wait is over: so long ago the machine started.
abbrev pub connect_wait_is_over : Start → ℕ → Bool
connect_wait_is_over s now = (now - s.at) ≥ s.times.connect_wait

-- The connection is idle: the last message came twice the heartbeat ago.
abbrev pub is_idle : Start → ℕ → ℕ → Bool
is_idle s last_message now = (now - last_message) ≥ (2 * s.times.heartbeat)

-- The disconnect wait is over: so long ago the Disconnect-Request went out.
abbrev pub disconnect_wait_is_over : Start → PendingDisconnect → ℕ → Bool
disconnect_wait_is_over s f now = (now - f.since) ≥ s.times.disconnect_wait
