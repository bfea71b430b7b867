-- What a forward counts, by its reply.
use Rattle.std.specs.Prelude.{ℕ, ◌==◌}
use Rattle.bsc_history.specs.declared.counts.Counts.{Counts}
use Rattle.bsc_history.specs.declared.reply.Reply.{Reply}
use Rattle.bsc_history.specs.Counting.{appended_in, is_closing, one_if}
use Rattle.bsc_desk.specs.Tallies.{no_counts}

-- a unicast
abbrev pub unicast_counts : Reply → Counts
unicast_counts reply = record no_counts {
  unicasts = 1;
  appended = appended_in reply;
  dropped = one_if (appended_in reply == 0);
  full = one_if (is_closing reply);
}

-- a broadcast that joined so many outboxes, and that so many connections missed
abbrev pub broadcast_counts : ℕ → ℕ → Counts
broadcast_counts to missed = record no_counts { broadcasts = 1; appended = to; dropped = one_if (to == 0); missed = missed }
