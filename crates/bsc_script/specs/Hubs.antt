-- Which hubs a line may make.
use Rattle.std.specs.Prelude.{◌≤◌, ⊤}
use Rattle.bsc_history.specs.declared.limits.About.{About}
use Rattle.bsc_history.specs.declared.limits.TheConstants.{MOST_CALLERS, MOST_CALLS, MOST_OUTBOX, MOST_ROWS}
use Rattle.bsc_script.specs.declared.line.Line.{Line}
use Rattle.bsc_script.specs.declared.line.Line.TheVariants.{Hub}

-- A hub may be made with these limits.
pub record IsHub (a : About) : Type 0 where
  pub some_rows : 1 ≤ a.limits.rows
  pub few_rows : a.limits.rows ≤ MOST_ROWS
  pub some_room : 2 ≤ a.limits.outbox
  pub little_room : a.limits.outbox ≤ MOST_OUTBOX
  pub some_calls : 1 ≤ a.limits.calls
  pub few_calls : a.limits.calls ≤ MOST_CALLS
  pub some_callers : 1 ≤ a.limits.callers
  pub few_callers : a.limits.callers ≤ MOST_CALLERS

-- A hub line says a hub that may be made.
abbrev pub IsFit : Line → Type 0
IsFit (Hub about) = IsHub about
IsFit line = ⊤
