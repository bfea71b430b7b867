-- What a workload says of the pass that it was given.
use Rattle.std.specs.Prelude.{◌≡◌, ◌≤◌, ◌<◌, ℕ, ◌+◌, ◌-◌, min, Bool, true, false, List, length, map, position, Option, Some, None, Result, Ok, Err, IsTrue}
use Rattle.std.specs.List.{AllByRecursion, count_by, range_with_len, sum_by}
use Rattle.bsc_history.specs.declared.counts.Counts.{Counts}
use Rattle.bsc_history.specs.declared.entry.Entry.{Entry}
use Rattle.bsc_history.specs.declared.told.AlreadyStopped.{AlreadyStopped}
use Rattle.bsc_history.specs.declared.told.Told.{Told}
use Rattle.bsc_history.specs.Counting.{counts}
use Rattle.bsc_history.specs.Entries.{stops}
use Rattle.bsc_history.specs.Marks.{entries}
use Rattle.bsc_history.specs.Replies.{is_stopped}
use Rattle.bsc_turn.specs.declared.pass.Pass.{Pass}
use Rattle.bsc_turn.specs.declared.view.EndedCaller.{EndedCaller}
use Rattle.bsc_turn.specs.Passes.{newest_number, number_of, seen}
use Rattle.bsc_hub.specs.declared.hub.Hub.{Hub}
use Rattle.bsc_hub.specs.Calls.{stop_made}
use Rattle.bsc_hub.specs.Passing.{Placed, Went, about_of, found_history}
use Rattle.bsc_load.specs.declared.ends.LoadEnd.{LoadEnd}
use Rattle.bsc_load.specs.declared.ends.LoadStop.{LoadStop}
use Rattle.bsc_load.specs.declared.ends.LoadStop.TheVariants.{NoMemory, Short, Stopped}
use Rattle.bsc_load.specs.Workers.{IsPart, IsWholeWorker, ShowsShort, octets_taken, within_64_bits}

-- A worker that got a pass: its number, its caller as that ended, whether it was cut short, and of a whole one its
-- receiver's connection and how many frames that took.
pub record Worker : Type 0 where
  pub index : ℕ
  pub caller : EndedCaller
  pub is_cut : Bool
  pub receiver : ℕ
  pub taken : ℕ

-- Its own entries are its calls as far as it came, and it asked for no number, so it made no other caller.
pub record WorksPart (w : Worker) : Type 0 where
  pub part : IsPart w.index w.caller.own
  pub draws_none : w.caller.loads ≡ 0

-- They are all of a worker's, and it wasn't cut short.
abbrev pub WorksWhole : Worker → Type 0
WorksWhole w = (w.is_cut ≡ false) × IsWholeWorker w.index w.caller.own w.receiver w.taken

-- Where it was cut short, they show it, by what the pass q has seen.
abbrev pub ShowsCut : Hub → Pass → Worker → Type 0
ShowsCut h q w = w.is_cut ≡ true → ShowsShort (about_of h) w.caller.own (length (entries (seen q)))

-- The callers that a call took in, of n workers: those that got a pass, in order, each with its calls as far as it came.
-- The call asked for so many numbers, no fewer than these and at most one for each worker, and made this entry with its own
-- pass, or none.
pub record LoadRan (h : Hub) (p q : Pass) (n : ℕ) (workers : List Worker) (made : Option Placed) : Type 0 where
  pub drew : ℕ
  pub went : Went h p drew (map (λ w. w.caller) workers) made q
  pub numbered : map (λ w. w.index) workers ≡ range_with_len 0 (length workers)
  pub within : length workers ≤ drew
  pub few : drew ≤ n
  pub parts : AllByRecursion WorksPart workers

-- The octets of NPDU that all receivers took, by the history H.
abbrev pub all_octets : Hub → List Entry → List Worker → ℕ
all_octets h H workers = within_64_bits (sum_by (λ w. octets_taken (about_of h) H w.receiver w.taken) workers)

-- All workers got a pass and are whole, and the hub was stopped after them: its counts are those of the history before the
-- stop, and the octets are those that the receivers took.
pub record LoadHasEnded (h : Hub) (p q : Pass) (n : ℕ) (end : LoadEnd) : Type 0 where
  pub workers : List Worker
  pub told : Told Counts
  pub ran : LoadRan h p q n workers (stop_made (number_of p) (Ok told))
  pub all : length workers ≡ n
  pub whole : AllByRecursion WorksWhole workers
  pub counts : end.counts ≡ counts (found_history (stop_made (number_of p) (Ok told)) q)
  pub octets : end.octets ≡ all_octets h (entries (seen q)) workers

-- So many workers were cut short or got no pass, at least one: each that was cut short shows it, and where one got no pass
-- the number word was found at its limit, and no number was asked for after that. The hub is stopped.
pub record WasShort (h : Hub) (p q : Pass) (n short : ℕ) : Type 0 where
  pub workers : List Worker
  pub told : Result (Told Counts) AlreadyStopped
  pub ran : LoadRan h p q n workers (stop_made (number_of p) told)
  pub some : 0 < short
  pub count : short ≡ count_by (λ w. w.is_cut) workers + (n - length workers)
  pub cut : AllByRecursion (ShowsCut h q) workers
  pub without : length workers < n → newest_number q ≡ (about_of h).limits.callers
  pub tried : ran.drew ≡ min n (length workers + 1)
  pub stopped : IsTrue (is_stopped (entries (seen q)))

-- All workers got a pass and are whole, and the hub had been stopped before, by the entry at this place.
pub record WasStopped (h : Hub) (p q : Pass) (n at : ℕ) : Type 0 where
  pub workers : List Worker
  pub ran : LoadRan h p q n workers None
  pub all : length workers ≡ n
  pub whole : AllByRecursion WorksWhole workers
  pub place : position stops (entries (seen q)) ≡ Some at

-- What a workload of n workers says, by its answer. Where memory ran out it made no entry of its own.
abbrev pub Loads : Hub → Pass → Pass → ℕ → Result LoadEnd LoadStop → Type 0
Loads h p q n (Ok end) = LoadHasEnded h p q n end
Loads h p q n (Err NoMemory) = (workers : List Worker) × LoadRan h p q n workers None
Loads h p q n (Err (Short short)) = WasShort h p q n short
Loads h p q n (Err (Stopped at)) = WasStopped h p q n at
