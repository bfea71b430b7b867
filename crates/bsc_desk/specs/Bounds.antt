-- The bounds that a desk keeps, by which its numbers fit.
use Rattle.std.specs.Prelude.{◌≤◌, ℕ, Option, Some, None}
use Rattle.bsc_history.specs.declared.limits.Limits.{Limits}
use Rattle.bsc_history.specs.declared.limits.TheConstants.{MOST_CALLS, MOST_OUTBOX, MOST_ROWS}

-- The limits are in their ranges.
pub record AreLimits (l : Limits) : Type 0 where
  pub some_rows : 1 ≤ l.rows
  pub few_rows : l.rows ≤ MOST_ROWS
  pub some_room : 2 ≤ l.outbox
  pub little_room : l.outbox ≤ MOST_OUTBOX
  pub few_calls : l.calls ≤ MOST_CALLS

-- the Stop entry that may still come
abbrev pub stops_left : Option ℕ → ℕ
stops_left None = 1
stops_left (Some place) = 0
