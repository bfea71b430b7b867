-- What is said where the outlet of a connection meets the desk, and where it is handed back.
use Rattle.std.specs.Prelude.{◌≡◌, ◌≤◌, ℕ, List, length, take, is_some, Some}
use Rattle.bsc_history.specs.declared.limits.About.{About}
use Rattle.bsc_history.specs.declared.ending.End.{End}
use Rattle.bsc_history.specs.declared.entry.Entry.{Entry}
use Rattle.bsc_history.specs.Ends.{ended}
use Rattle.bsc_history.specs.Outboxes.{looked, sent}
use Rattle.bsc_ring.specs.declared.ends.Outlet.{Outlet}
use Rattle.bsc_ring.specs.Ends.{FoundEnd, given, known_end, known_pushed, knows_all}
use Rattle.bsc_ring.specs.Lists.{StartsWith}

-- The outlet o is that of connection c after the history H: what it gave is the first part of what entered the outbox,
-- the newest look at c found no more than that taken, and an End that its loads found is the End of c.
pub record IsOutletOf (a : About) (H : List Entry) (c : ℕ) (o : Outlet) : Type 0 where
  pub begins : StartsWith (sent a H c) (given o)
  pub behind : looked H c ≤ length (given o)
  pub ends : (e : End) → FoundEnd o e → ended H c ≡ Some e

-- The outlet o knows all that there is to take for c after H: each later take finds all that entered the outbox, and the
-- End of c where it has one.
pub record KnowsOutbox (a : About) (H : List Entry) (c : ℕ) (o : Outlet) : Type 0 where
  pub items : known_pushed o ≡ sent a H c
  pub ending : known_end o ≡ ended H c
  pub all : knows_all o ≡ is_some (ended H c)
