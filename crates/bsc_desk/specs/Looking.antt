-- How a hub is doing.
use Rattle.std.specs.Prelude.{◌≡◌, List, length}
use Rattle.bsc_history.specs.declared.entry.Entry.{Entry}
use Rattle.bsc_history.specs.Counting.{counts}
use Rattle.bsc_history.specs.Ends.{live, unleft}
use Rattle.bsc_desk.specs.declared.looking.HubStatus.{HubStatus}

-- What is told of how a hub is doing is so after this history: its counts, the connections that are live, and those that
-- haven't left. Of what waits in outboxes nothing is said, for it changes meanwhile.
pub record IsStatusOf (H : List Entry) (s : HubStatus) : Type 0 where
  pub counted : s.counts ≡ counts H
  pub connections : s.connections ≡ length (live H)
  pub rows : s.rows ≡ length (unleft H)
