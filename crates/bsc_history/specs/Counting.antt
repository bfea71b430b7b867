-- What a hub counts over its history.
use Rattle.std.specs.Prelude.{ℕ, ◌+◌, ◌==◌, Bool, true, false, not, ◌&&◌, if◌then◌else◌, List, length, sum_by, count_by, is_some}
use Rattle.bsc_octets.specs.Forwarding.{is_broadcast}
use Rattle.bsc_history.specs.declared.entry.Entry.{Entry}
use Rattle.bsc_history.specs.declared.call.Call.{Call}
use Rattle.bsc_history.specs.declared.call.Call.TheVariants.{Forward}
use Rattle.bsc_history.specs.declared.reply.Reply.{Reply}
use Rattle.bsc_history.specs.declared.reply.Reply.TheVariants.{Joined, Refused, Appended, Closed, SentAll}
use Rattle.bsc_history.specs.declared.counts.Counts.{Counts}

-- whether a connect joined
abbrev pub is_joined : Reply → Bool
is_joined (Joined conn replaced) = true
is_joined reply = false

-- whether it took over from a connection
abbrev pub is_replacing : Reply → Bool
is_replacing (Joined conn replaced) = is_some replaced
is_replacing reply = false

-- whether a connect was refused
abbrev pub is_refused : Reply → Bool
is_refused (Refused refusal) = true
is_refused reply = false

-- whether a call forwards a unicast
abbrev pub is_unicast_call : Call → Bool
is_unicast_call (Forward conn frame) = not (is_broadcast frame)
is_unicast_call call = false

-- whether a call forwards a broadcast
abbrev pub is_broadcast_call : Call → Bool
is_broadcast_call (Forward conn frame) = is_broadcast frame
is_broadcast_call call = false

-- whether a call forwards
abbrev pub is_forward_call : Call → Bool
is_forward_call (Forward conn frame) = true
is_forward_call call = false

-- how many outboxes a reply names as appended to
abbrev pub appended_in : Reply → ℕ
appended_in (Appended conn) = 1
appended_in (SentAll to missed skipped) = length to
appended_in reply = 0

-- whether a reply says that a connection was closed
abbrev pub is_closing : Reply → Bool
is_closing (Closed conn) = true
is_closing reply = false

-- how many connections a reply names as missed
abbrev pub missed_in : Reply → ℕ
missed_in (SentAll to missed skipped) = length missed
missed_in reply = 0

-- 1 where a test passes
abbrev pub one_if : Bool → ℕ
one_if b = if b then 1 else 0

-- what one entry adds to the counts
abbrev pub counts_of : Entry → Counts
counts_of e = record {
  joined = one_if (is_joined e.reply);
  replaced = one_if (is_replacing e.reply);
  refused = one_if (is_refused e.reply);
  unicasts = one_if (is_unicast_call e.call);
  broadcasts = one_if (is_broadcast_call e.call);
  appended = appended_in e.reply;
  dropped = one_if (is_forward_call e.call && (appended_in e.reply == 0));
  full = one_if (is_closing e.reply);
  missed = missed_in e.reply;
}

-- the counts of two parts of a history together
abbrev pub plus : Counts → Counts → Counts
plus k m = record {
  joined = k.joined + m.joined;
  replaced = k.replaced + m.replaced;
  refused = k.refused + m.refused;
  unicasts = k.unicasts + m.unicasts;
  broadcasts = k.broadcasts + m.broadcasts;
  appended = k.appended + m.appended;
  dropped = k.dropped + m.dropped;
  full = k.full + m.full;
  missed = k.missed + m.missed;
}

-- The counts of a history: how many entries are of each kind, and how many connections the replies name as appended
-- to and as missed.
unfoldable pub counts : List Entry → Counts
counts H = record {
  joined = count_by (λ e. is_joined e.reply) H;
  replaced = count_by (λ e. is_replacing e.reply) H;
  refused = count_by (λ e. is_refused e.reply) H;
  unicasts = count_by (λ e. is_unicast_call e.call) H;
  broadcasts = count_by (λ e. is_broadcast_call e.call) H;
  appended = sum_by (λ e. appended_in e.reply) H;
  dropped = count_by (λ e. is_forward_call e.call && (appended_in e.reply == 0)) H;
  full = count_by (λ e. is_closing e.reply) H;
  missed = sum_by (λ e. missed_in e.reply) H;
}
