-- What it is for a state to stand for a history.
use Rattle.std.specs.Prelude.{◌≡◌, List, length, map}
use Rattle.std.specs.List.{AllByRecursion}
use Rattle.bsc_history.specs.declared.limits.About.{About}
use Rattle.bsc_history.specs.declared.entry.Entry.{Entry}
use Rattle.bsc_history.specs.Ends.{ended, unleft}
use Rattle.bsc_history.specs.Outboxes.{looked, sent}
use Rattle.bsc_history.specs.Counting.{counts}
use Rattle.bsc_history.specs.Replies.{is_stopped}
use Rattle.bsc_history.specs.Legality.{Legal}
use Rattle.bsc_legality.specs.declared.row.Row.{Row}
use Rattle.bsc_legality.specs.declared.legality.Legality.{Legality}
use Rattle.bsc_legality.specs.Rows.{connection}

-- A row tells of its connection how it has ended, how many frames entered its outbox, and what the newest look at it
-- found.
pub record IsRowOf (a : About) (H : List Entry) (r : Row) : Type 0 where
  pub ends : r.ending ≡ ended H r.connection.number
  pub frames : r.entered ≡ length (sent a H r.connection.number)
  pub newest : r.looked ≡ looked H r.connection.number

-- A state stands for the history H of a hub: the history is legal, the numbers are those of the history, and the rows
-- are the connections that haven't left, in the order of joining.
pub record LegalityStands (l : Legality) (about : About) (H : List Entry) : Type 0 where
  pub legal : Legal about H
  pub about_so : l.about ≡ about
  pub count : l.entries ≡ length H
  pub stopped_so : l.stopped ≡ is_stopped H
  pub counted : l.counts ≡ counts H
  pub unleft_rows : map connection l.rows.items ≡ unleft H
  pub each_row : AllByRecursion (IsRowOf about H) l.rows.items
