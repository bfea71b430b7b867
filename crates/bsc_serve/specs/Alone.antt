-- Who called a hub that was served: its own pass and the passes of its jobs, and nobody else.
use Rattle.std.specs.Prelude.{◌≡◌, ◌⊎◌, ℕ, List, [], ◌∷◌, ◌++◌, Option, Some, slice_get, true, ⊤}
use Rattle.std.specs.List.{AllByRecursion}
use Rattle.bsc_history.specs.declared.entry.Entry.{Entry}
use Rattle.bsc_history.specs.Laws.{Apart}
use Rattle.bsc_history.specs.Replies.{is_stopped}
use Rattle.bsc_history.specs.declared.call.Call.{Call}
use Rattle.bsc_history.specs.declared.call.Call.TheVariants.{Connect, Forward, Leave, Stop, Count}
use Rattle.bsc_history.specs.declared.reply.Refusal.TheVariants.{Stopped as RefusedStopped}
use Rattle.bsc_history.specs.declared.reply.Reply.{Reply}
use Rattle.bsc_history.specs.declared.reply.Reply.TheVariants.{Refused, Stopped}
use Rattle.bsc_history.specs.Marks.{entries}
use Rattle.bsc_history.specs.Entries.{own}
use Rattle.bsc_turn.specs.declared.pass.Pass.{Pass}
use Rattle.bsc_turn.specs.Histories.{StartsWith}
use Rattle.bsc_turn.specs.Passes.{number_of, own_list, seen}
use Rattle.bsc_hub.specs.Calls.{stop_made}
use Rattle.bsc_hub.specs.Passing.{found_history}
use Rattle.bsc_hub.specs.Whole.{EachIsOf, IsFirst}
use Rattle.bsc_edge.specs.declared.said.Said.{Said}
use Rattle.bsc_session.specs.declared.job.SessionJob.{SessionJob}
use Rattle.bsc_session.specs.declared.session_end.SessionEnd.{SessionEnd}
use Rattle.bsc_serve.specs.declared.end.ServeEnd.{ServeEnd}
use Rattle.bsc_serve.specs.Events.{callers_of, jobs_of}
use Rattle.bsc_serve.specs.Serving.{Serving, cut_callers}
use Rattle.bsc_serve.specs.Terms.{Terms}
use Rattle.bsc_serve.specs.Worlds.{ServedWorld}

-- This is the number of the pass of one of these jobs.
abbrev pub IsOfJob : {L C N : Type 0} → List (SessionJob L C N) → ℕ → Type 0
IsOfJob {L} {C} {N} jobs n = (k : ℕ) × (j : SessionJob L C N) × (slice_get jobs k ≡ Some j) × (number_of j.pass ≡ n)

-- What a call may be told once the hub has stopped: a Connect is refused, a Forward does nothing, and there is no other Stop.
abbrev pub IsToldStopped : Call → Reply → Type 0
IsToldStopped (Connect who) r = r ≡ Refused RefusedStopped
IsToldStopped (Forward sender message) r = r ≡ Stopped
IsToldStopped (Leave conn taken empties) r = ⊤
IsToldStopped Stop r = ⊥
IsToldStopped Count r = ⊤

module _ {L C N : Type 0} (works : SessionJob L C N → SessionEnd L C N → Type 0) where
  -- A job has ended, and this is left of it: the pass q has seen all that its pass had; and in the history H, and in what q has
  -- seen, the entries of its pass are those that this had at its end.
  abbrev pub HasEnded : List Entry → Pass → SessionJob L C N → Type 0
  HasEnded H q j = (d : SessionEnd L C N) × works j d × (own H (number_of j.pass) ≡ own_list d.pass) × (own (entries (seen q)) (number_of j.pass) ≡ own_list d.pass)
      × StartsWith (seen q) (seen d.pass)

  -- The same of a job that may have ended after the Stop: in what q has at last seen the entries of its pass are those that this
  -- had at its end, and those in H, which stand before the Stop, come first.
  abbrev pub HasEndedAtLast : List Entry → Pass → SessionJob L C N → Type 0
  HasEndedAtLast H q j = (d : SessionEnd L C N) × works j d × (own (entries (seen q)) (number_of j.pass) ≡ own_list d.pass) × StartsWith (seen q) (seen d.pass)
      × ((behind : List Entry) × (own_list d.pass ≡ own H (number_of j.pass) ++ behind))

module _ {L C N : Type 0} (works : SessionJob L C N → SessionEnd L C N → Type 0) (begins : Option (List ℕ) → ℕ → N → Type 0) (talk : L → Option (List Said)) where
  -- Where a hub's first pass served it, nobody else called it: each entry that the pass has at last seen is of its own caller, or of
  -- one that it took in, before it stopped the hub or after.
  abbrev pub ServingIsAlone : Type 0
  ServingIsAlone = (terms : Terms) (before after : ServedWorld L C N) (end : ServeEnd) → IsFirst before.beside.pass
      → (s : Serving works begins talk terms before after end) → EachIsOf ((callers_of s.events ++ cut_callers s.cut) ++ callers_of s.late) after.beside.pass

  -- Then each of these entries, before the Stop and behind it, is of its own caller, or of the pass of a job that the spawner took:
  -- the jobs that came back made none.
  abbrev pub SeenAreOfJobs : Type 0
  SeenAreOfJobs = (terms : Terms) (before after : ServedWorld L C N) (end : ServeEnd) → IsFirst before.beside.pass
      → (s : Serving works begins talk terms before after end) → (earlier later : List Entry) (e : Entry)
      → entries (seen after.beside.pass) ≡ earlier ++ e ∷ later → (number_of after.beside.pass ≡ e.caller) ⊎ IsOfJob (jobs_of s.events) e.caller

  -- Where the own pass had made none before, each of these entries is the Stop or of the pass of a job that the spawner took.
  abbrev pub AllButStopAreOfJobs : Type 0
  AllButStopAreOfJobs = (terms : Terms) (before after : ServedWorld L C N) (end : ServeEnd) → IsFirst before.beside.pass → own_list before.beside.pass ≡ []
      → (s : Serving works begins talk terms before after end) → (earlier later : List Entry) (e : Entry)
      → entries (seen after.beside.pass) ≡ earlier ++ e ∷ later → (e.call ≡ Stop) ⊎ IsOfJob (jobs_of s.events) e.caller

  -- And each entry that stands before the Stop is of the pass of a job that the spawner took: the hub's own pass made none before
  -- it.
  abbrev pub EntriesAreOfJobs : Type 0
  EntriesAreOfJobs = (terms : Terms) (before after : ServedWorld L C N) (end : ServeEnd) → IsFirst before.beside.pass → own_list before.beside.pass ≡ []
      → (s : Serving works begins talk terms before after end) → (earlier later : List Entry) (e : Entry)
      → found_history (stop_made (number_of before.beside.pass) s.stop) after.beside.pass ≡ earlier ++ e ∷ later → IsOfJob (jobs_of s.events) e.caller

  -- Each job that the spawner took has ended at last, and what is left of it stands in what the pass has seen.
  abbrev pub JobsEndAtLast : Type 0
  JobsEndAtLast = (terms : Terms) (before after : ServedWorld L C N) (end : ServeEnd) → (s : Serving works begins talk terms before after end)
      → AllByRecursion (HasEndedAtLast works (found_history (stop_made (number_of before.beside.pass) s.stop) after.beside.pass) after.beside.pass) (jobs_of s.events)

  -- Where no job was out when the hub was stopped, all that is left of it stands before the Stop.
  abbrev pub JobsHaveEnded : Type 0
  JobsHaveEnded = (terms : Terms) (before after : ServedWorld L C N) (end : ServeEnd) → (s : Serving works begins talk terms before after end) → s.still ≡ []
      → AllByRecursion (HasEnded works (found_history (stop_made (number_of before.beside.pass) s.stop) after.beside.pass) after.beside.pass) (jobs_of s.events)

  -- In all that the pass has at last seen, an entry behind a Stop joins nobody and forwards nothing.
  abbrev pub NothingBehindStop : Type 0
  NothingBehindStop = (terms : Terms) (before after : ServedWorld L C N) (end : ServeEnd) → (s : Serving works begins talk terms before after end)
      → (earlier later : List Entry) (e : Entry) → entries (seen after.beside.pass) ≡ earlier ++ e ∷ later → is_stopped earlier ≡ true → IsToldStopped e.call e.reply

  -- No two jobs have passes of one number.
  abbrev pub JobsAreApart : Type 0
  JobsAreApart = (terms : Terms) (before after : ServedWorld L C N) (end : ServeEnd) → (s : Serving works begins talk terms before after end)
      → Apart (λ (j : SessionJob L C N). number_of j.pass) (jobs_of s.events)
