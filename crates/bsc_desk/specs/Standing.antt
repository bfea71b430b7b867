-- What it is for a desk to stand for a history.
use Rattle.std.specs.Prelude.{◌≡◌, ℕ, ◌==◌, List, length, map, filter, flat_map, position, Some}
use Rattle.std.specs.List.{AllByRecursion}
use Rattle.bsc_history.specs.declared.limits.About.{About}
use Rattle.bsc_history.specs.declared.entry.Entry.{Entry}
use Rattle.bsc_history.specs.declared.looks.Look.{Look}
use Rattle.bsc_history.specs.declared.mark.Stamped.{Stamped}
use Rattle.bsc_history.specs.Entries.{stops}
use Rattle.bsc_history.specs.Ends.{ended, unleft}
use Rattle.bsc_history.specs.Marks.{entries, mark_of}
use Rattle.bsc_history.specs.Outboxes.{sent}
use Rattle.bsc_history.specs.Counting.{counts}
use Rattle.bsc_history.specs.Legality.{Legal}
use Rattle.bsc_ring.specs.declared.ends.Inlet.{Inlet}
use Rattle.bsc_ring.specs.Ends.{capacity_of, ending_of, inlet_mark, loads, pushed}
use Rattle.bsc_desk.specs.declared.desk.Desk.{Desk}
use Rattle.bsc_desk.specs.Live.{connection}

-- what those of some looks that are at c found, in order: how many frames were taken from its outbox
abbrev pub found_at : ℕ → List Look → List ℕ
found_at c looks = map (λ k. k.taken) (filter (λ k. k.conn == c) looks)

-- What all looks at c found, in order.
unfoldable pub all_found : List Entry → ℕ → List ℕ
all_found H c = found_at c (flat_map (λ e. e.looks) H)

-- The inlet of connection c: it has the capacity of an outbox and the mark that the history keeps with the Connect of
-- c; what was pushed is what entered the outbox of c; its loads found just what the looks at c found, so that each look
-- is a load of its own; and it is finished with an End exactly where c has that End.
pub record IsInletOf (a : About) (S : List Stamped) (c : ℕ) (i : Inlet) : Type 0 where
  pub holds : capacity_of i ≡ a.limits.outbox
  pub marked : mark_of S c ≡ Some (inlet_mark i)
  pub items : pushed i ≡ sent a (entries S) c
  pub looks : loads i ≡ all_found (entries S) c
  pub finished : ending_of i ≡ ended (entries S) c

-- A desk stands for a history with its marks: the history is legal, the numbers are those of the history, the rows are
-- the connections that haven't left, in the order of joining, and each row's inlet is its connection's.
pub record DeskStands (d : Desk) (S : List Stamped) : Type 0 where
  pub legal : Legal d.about (entries S)
  pub stop_place : d.stopped_at ≡ position stops (entries S)
  pub entered : d.tally.made ≡ length S
  pub counted : d.tally.counts ≡ counts (entries S)
  pub unleft_rows : map connection d.rows.items ≡ unleft (entries S)
  pub inlets : AllByRecursion (λ r. IsInletOf d.about S r.connection.number r.inlet) d.rows.items
