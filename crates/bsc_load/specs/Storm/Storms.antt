-- What a storm says of the pass that it was given: two workers take over from each other, and a third forwards to their
-- address meanwhile.
use Rattle.std.specs.Prelude.{◌≡◌, ◌≤◌, ◌<◌, ℕ, ◌+◌, Bool, true, false, cond, IsTrue}
use Rattle.std.specs.Prelude.{List, [], ◌∷◌, ◌++◌, length, position, Option, Some, None, Result, Ok, Err}
use Rattle.bsc_history.specs.declared.counts.Counts.{Counts}
use Rattle.bsc_history.specs.declared.entry.Entry.{Entry}
use Rattle.bsc_history.specs.declared.told.AlreadyStopped.{AlreadyStopped}
use Rattle.bsc_history.specs.declared.told.Told.{Told}
use Rattle.bsc_history.specs.Counting.{counts}
use Rattle.bsc_history.specs.Entries.{stops}
use Rattle.bsc_history.specs.Marks.{entries}
use Rattle.bsc_history.specs.Replies.{is_stopped}
use Rattle.bsc_turn.specs.declared.pass.Pass.{Pass}
use Rattle.bsc_turn.specs.declared.view.EndedCaller.{EndedCaller}
use Rattle.bsc_turn.specs.Passes.{newest_number, number_of, seen}
use Rattle.bsc_hub.specs.declared.hub.Hub.{Hub}
use Rattle.bsc_hub.specs.Calls.{stop_made}
use Rattle.bsc_hub.specs.Passing.{Placed, Went, about_of, found_history}
use Rattle.bsc_load.specs.declared.ends.LoadStop.{LoadStop}
use Rattle.bsc_load.specs.declared.ends.LoadStop.TheVariants.{NoMemory, Short, Stopped}
use Rattle.bsc_load.specs.Workers.{within_64_bits}
use Rattle.bsc_load.specs.declared.storm.ends.StormEnd.{StormEnd}
use Rattle.bsc_load.specs.Storm.Workers.{IsPart, IsWholeStormWorker, ShowsShort}

-- A worker: its caller as that ended, where it got a pass; whether it was cut short; and how many frames a whole one took.
pub record Worker : Type 0 where
  pub caller : Option EndedCaller
  pub is_cut : Bool
  pub taken : ℕ

-- its caller, if there is one
abbrev pub in_list : Option EndedCaller → List EndedCaller
in_list None = []
in_list (Some e) = e ∷ []

-- its entries
abbrev pub own_in : Option EndedCaller → List Entry
own_in None = []
own_in (Some e) = e.own

-- how many numbers it asked for
abbrev pub loads_in : Option EndedCaller → ℕ
loads_in None = 0
loads_in (Some e) = e.loads

-- The workers of a storm: two that stay, and the one that sends.
pub record Crew : Type 0 where
  pub one : Worker
  pub other : Worker
  pub sends : Worker

-- the callers of those that got passes, in this order
abbrev pub callers : Crew → List EndedCaller
callers w = in_list w.one.caller ++ (in_list w.other.caller ++ in_list w.sends.caller)

-- Its entries are its calls as far as it came, and it asked for no number, so it made no other caller.
pub record WorksPart (sends : Bool) (rounds : ℕ) (w : Worker) : Type 0 where
  pub part : IsPart sends rounds (own_in w.caller)
  pub draws_none : loads_in w.caller ≡ 0

-- The callers that a call took in are those of the workers, as far as they got passes, each with its calls as far as it
-- came. The call asked for three numbers, one for each, and made this entry with its own pass, or none.
pub record StormRan (h : Hub) (p q : Pass) (rounds : ℕ) (w : Crew) (made : Option Placed) : Type 0 where
  pub went : Went h p 3 (callers w) made q
  pub one : WorksPart false rounds w.one
  pub other : WorksPart false rounds w.other
  pub sends : WorksPart true rounds w.sends

-- It got a pass, is whole, and wasn't cut short.
pub record WorksWhole (sends : Bool) (rounds : ℕ) (w : Worker) : Type 0 where
  pub ended : EndedCaller
  pub caller : w.caller ≡ Some ended
  pub uncut : w.is_cut ≡ false
  pub whole : IsWholeStormWorker sends rounds ended.own w.taken

-- All three are whole.
pub record AllWhole (rounds : ℕ) (w : Crew) : Type 0 where
  pub one : WorksWhole false rounds w.one
  pub other : WorksWhole false rounds w.other
  pub sends : WorksWhole true rounds w.sends

-- Where it was cut short, its entries show it, by what the pass q has seen; where it got no pass, as many numbers of
-- callers are drawn as there may be.
pub record ShowsCut (h : Hub) (q : Pass) (sends : Bool) (rounds : ℕ) (w : Worker) : Type 0 where
  pub cut : w.is_cut ≡ true → ShowsShort sends rounds (about_of h) (own_in w.caller) (length (entries (seen q)))
  pub without : w.caller ≡ None → newest_number q ≡ (about_of h).limits.callers

-- All three are whole, and the hub was stopped after them: the counts are those of the history before the stop. What was
-- taken is what the outlets of the two gave, and is no more than was appended.
pub record HasStormed (h : Hub) (p q : Pass) (rounds : ℕ) (end : StormEnd) : Type 0 where
  pub workers : Crew
  pub told : Told Counts
  pub ran : StormRan h p q rounds workers (stop_made (number_of p) (Ok told))
  pub whole : AllWhole rounds workers
  pub counts : end.counts ≡ counts (found_history (stop_made (number_of p) (Ok told)) q)
  pub taken : end.taken ≡ within_64_bits (workers.one.taken + workers.other.taken)
  pub few : workers.one.taken + workers.other.taken ≤ end.counts.appended

-- 1 for a worker that got no pass or was cut short, and else 0
abbrev pub short_as : Option EndedCaller → Bool → ℕ
short_as None is_cut = 1
short_as (Some e) is_cut = cond is_cut 1 0

-- how many of three that are
abbrev pub cut_short : Crew → ℕ
cut_short w = short_as w.one.caller w.one.is_cut + short_as w.other.caller w.other.is_cut + short_as w.sends.caller w.sends.is_cut

-- So many workers were cut short or got no pass, at least one, and each shows it. The hub is stopped.
pub record WasShort (h : Hub) (p q : Pass) (rounds short : ℕ) : Type 0 where
  pub workers : Crew
  pub told : Result (Told Counts) AlreadyStopped
  pub ran : StormRan h p q rounds workers (stop_made (number_of p) told)
  pub some : 0 < short
  pub count : short ≡ cut_short workers
  pub one : ShowsCut h q false rounds workers.one
  pub other : ShowsCut h q false rounds workers.other
  pub sends : ShowsCut h q true rounds workers.sends
  pub stopped : IsTrue (is_stopped (entries (seen q)))

-- All three are whole, and the hub had been stopped before, by the entry at this place.
pub record WasStopped (h : Hub) (p q : Pass) (rounds at : ℕ) : Type 0 where
  pub workers : Crew
  pub ran : StormRan h p q rounds workers None
  pub whole : AllWhole rounds workers
  pub place : position stops (entries (seen q)) ≡ Some at

-- Memory ran out in one of the three. The hub wasn't stopped.
pub record LackedMemory (h : Hub) (p q : Pass) (rounds : ℕ) : Type 0 where
  pub workers : Crew
  pub ran : StormRan h p q rounds workers None

-- What a storm of so many rounds says, by its answer.
abbrev pub Storms : Hub → Pass → Pass → ℕ → Result StormEnd LoadStop → Type 0
Storms h p q rounds (Ok end) = HasStormed h p q rounds end
Storms h p q rounds (Err NoMemory) = LackedMemory h p q rounds
Storms h p q rounds (Err (Short short)) = WasShort h p q rounds short
Storms h p q rounds (Err (Stopped at)) = WasStopped h p q rounds at
