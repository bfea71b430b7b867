-- What the inner functions of a workload say of each other; no public clause cites any of it.
use Rattle.std.specs.Prelude.{◌≡◌, ◌≢◌, ◌⊎◌, ◌≤◌, ◌<◌, ◌↔◌, ℕ, ◌+◌, ◌-◌, ◌^◌, min, nat_lt, true, false, if◌then◌else◌, IsTrue, ⊤}
use Rattle.std.specs.Prelude.{List, [], ◌∷◌, ◌++◌, length, map, take, count_by, position, Some, None, Result, Ok, Err, IfOk, IfErr, IsErr}
use Rattle.std.specs.List.{AllByRecursion, list_any, range_with_len}
use Rattle.bsc_octets.specs.declared.identity.Identity.{Identity}
use Rattle.bsc_octets.specs.declared.vmac.Vmac.{Vmac}
use Rattle.bsc_history.specs.declared.call.Call.{Call}
use Rattle.bsc_history.specs.declared.call.Call.TheVariants.{Connect, Forward, Leave}
use Rattle.bsc_history.specs.declared.counts.Counts.{Counts}
use Rattle.bsc_history.specs.declared.ending.End.{End}
use Rattle.bsc_history.specs.declared.ending.End.TheVariants.{Left}
use Rattle.bsc_history.specs.declared.entry.Entry.{Entry}
use Rattle.bsc_history.specs.declared.limits.About.{About}
use Rattle.bsc_history.specs.declared.mark.Stamped.{Stamped}
use Rattle.bsc_history.specs.declared.told.AlreadyStopped.{AlreadyStopped}
use Rattle.bsc_history.specs.declared.told.Told.{Told}
use Rattle.bsc_history.specs.declared.told.Worn.{Worn}
use Rattle.bsc_history.specs.Counting.{counts, is_refused}
use Rattle.bsc_history.specs.Ends.{joined}
use Rattle.bsc_history.specs.Entries.{stops}
use Rattle.bsc_history.specs.Marks.{entries}
use Rattle.bsc_history.specs.Outboxes.{sent}
use Rattle.bsc_history.specs.Replies.{is_stopped, numbers}
use Rattle.bsc_ring.specs.declared.ends.Outlet.{Outlet}
use Rattle.bsc_ring.specs.Ends.{FoundEnd, empties_of, given}
use Rattle.bsc_turn.specs.declared.pass.Pass.{Pass}
use Rattle.bsc_turn.specs.Histories.{StartsWith}
use Rattle.bsc_turn.specs.Passes.{ended_callers, loads_made, newest_number, number_of, own_list, seen}
use Rattle.bsc_desk.specs.declared.forwarding.OneReply.{OneReply}
use Rattle.bsc_hub.specs.declared.hub.Hub.{Hub}
use Rattle.bsc_hub.specs.declared.joined.ConnectRefusal.{ConnectRefusal}
use Rattle.bsc_hub.specs.declared.joined.ConnectRefusal.TheVariants.{NoMemory as NoMemoryRefusal, Worn as WornRefusal, Refused}
use Rattle.bsc_hub.specs.Calls.{stop_made}
use Rattle.bsc_hub.specs.Passing.{IsCaller, IsOwnAs, Passed, Went, about_of, found_history}
use Rattle.bsc_load.specs.declared.bounds.TheConstants.{WORKERS}
use Rattle.bsc_load.specs.declared.ends.LoadEnd.{LoadEnd}
use Rattle.bsc_load.specs.declared.ends.LoadStop.{LoadStop}
use Rattle.bsc_load.specs.declared.ends.LoadStop.TheVariants.{NoMemory as NoMemoryStop, Short as ShortStop, Stopped}
use Rattle.bsc_load.specs.declared.jobs.Cut.{Cut}
use Rattle.bsc_load.specs.declared.jobs.Cut.TheVariants.{NoMemory, Short}
use Rattle.bsc_load.specs.declared.jobs.Job.{Job}
use Rattle.bsc_load.specs.declared.jobs.Sum.{Sum}
use Rattle.bsc_load.specs.declared.jobs.Work.{Work}
use Rattle.bsc_load.specs.Frames.{frame, npdu_octets}
use Rattle.bsc_load.specs.Load.{Loads, ShowsCut, Worker, WorksPart, WorksWhole, all_octets}
use Rattle.bsc_load.specs.Peers.{receiver, sender}
use Rattle.bsc_load.specs.Workers.{EmptiedEachTime, IsPart, IsWholeWorker, calls, forwards, within_64_bits}

-- the octets of NPDU that an outlet gave are so many
abbrev pub IsCounted : Outlet → ℕ → Type 0
IsCounted o octets = octets ≡ within_64_bits (npdu_octets (given o))

-- an outlet was taken from n times, each time until it was empty or closed: it was found empty n times, or fewer times, and
-- then an End was found that no leave set
abbrev pub Emptied : ℕ → Outlet → Type 0
Emptied n o = (empties_of o ≡ n) ⊎ ((empties_of o < n) × ((e : End) × FoundEnd o e × (e ≢ Left)))

-- it was so taken from once more, as often as a number of 64 bits counts
abbrev pub EmptiedOnce : Outlet → Outlet → Type 0
EmptiedOnce o p = (n : ℕ) → n < 2 ^ 64 - 1 → Emptied n o → Emptied (n + 1) p

-- The pass went on, and its own list grew by these. It asked for no number.
pub record WorkerGoes (h : Hub) (p : Pass) (E : List Entry) (q : Pass) : Type 0 where
  pub caller : IsCaller h q
  pub number : number_of q ≡ number_of p
  pub sees : StartsWith (seen q) (seen p)
  pub own : own_list q ≡ own_list p ++ E
  pub took_in : ended_callers q ≡ ended_callers p
  pub draws_none : loads_made q ≡ loads_made p

-- what was the caller's own is so still
abbrev pub KeepsOwn : Pass → Pass → Type 0
KeepsOwn p q = (c : ℕ) (v : Vmac) → IsOwnAs p c v → IsOwnAs q c v

-- a worker that was cut short, but not for want of memory, met a hub that was worn
abbrev pub LoadWasWorn : Hub → Pass → Cut → Type 0
LoadWasWorn h q NoMemory = ⊤
LoadWasWorn h q Short = (about_of h).limits.calls ≤ length (entries (seen q))

-- a forward that was told a reply went on, and one that was worn was cut short
abbrev pub goes_on : Result (Told OneReply) Worn → Result ⊤ Cut
goes_on (Ok t) = Ok tt
goes_on (Err worn) = Err Short

-- one forward
abbrev pub LoadForwards : Hub → ℕ → ℕ → ℕ → Pass → Pass → Result ⊤ Cut → Type 0
LoadForwards h i s k p q (Ok u) = (e : Entry) × (e.call ≡ Forward s (frame i k)) × WorkerGoes h p (e ∷ []) q × KeepsOwn p q
LoadForwards h i s k p q (Err cut) = WorkerGoes h p [] q × KeepsOwn p q × LoadWasWorn h q cut

-- n forwards
pub record RanForwards (h : Hub) (i s n : ℕ) (p q : Pass) : Type 0 where
  pub made : List Entry
  pub calls : calls made ≡ forwards i s n
  pub quiet : joined made ≡ []
  pub goes : WorkerGoes h p made q
  pub holds : KeepsOwn p q

-- all forwards, each with what was taken after it
abbrev pub RanAll : Hub → ℕ → ℕ → Pass → Pass → Outlet → Result ℕ Cut → Type 0
RanAll h i s p q o (Ok octets) = RanForwards h i s 1000 p q × IsCounted o octets × Emptied 1000 o
RanAll h i s p q o (Err cut) = (n : ℕ) × (n < 1000) × RanForwards h i s n p q × LoadWasWorn h q cut × Emptied n o

-- the sign of a worker that was cut short, but for want of memory, by its entries, which are fewer than so many
abbrev pub ShowsBy : ℕ → Hub → List Stamped → List Entry → Cut → Type 0
ShowsBy n h S E NoMemory = ⊤
ShowsBy n h S E Short = IsTrue (list_any (λ e. is_refused e.reply) E) ⊎ ((length E < n) × ((about_of h).limits.calls ≤ length (entries S)))

-- why a worker was cut short whose connect was refused
abbrev pub cut_of : ConnectRefusal → Cut
cut_of NoMemoryRefusal = NoMemory
cut_of (WornRefusal worn) = Short
cut_of (Refused at refusal) = Short

-- a connect that didn't join
pub record Unjoined (h : Hub) (who : Identity) (p q : Pass) (cut : Cut) : Type 0 where
  pub made : List Entry
  pub calls : (calls made ≡ []) ⊎ (calls made ≡ Connect who ∷ [])
  pub quiet : joined made ≡ []
  pub goes : WorkerGoes h p made q
  pub holds : KeepsOwn p q
  pub shows : ShowsBy 1 h (seen q) made cut

-- the frames are the first of what entered the outbox of c, by a history
abbrev pub AreFirst : About → List Stamped → ℕ → List (List ℕ) → Type 0
AreFirst a S c frames = frames ≡ take (length frames) (sent a (entries S) c)

-- all that a worker did from its receiver's connect to its receiver's leave
pub record RanBoth (h : Hub) (i s : ℕ) (p q : Pass) (octets : ℕ) : Type 0 where
  pub conn : ℕ
  pub taken : ℕ
  pub empties : ℕ
  pub frames : List (List ℕ)
  pub made : List Entry
  pub calls : calls made ≡ Connect (receiver i) ∷ forwards i s 1000 ++ Leave conn taken empties ∷ []
  pub joined : numbers (joined made) ≡ conn ∷ []
  pub goes : WorkerGoes h p made q
  pub owns : IsOwnAs q s (sender i).vmac
  pub many : length frames ≡ taken
  pub first : AreFirst (about_of h) (seen q) conn frames
  pub counted : octets ≡ within_64_bits (npdu_octets frames)
  pub emptied : EmptiedEachTime made 1000 conn taken empties

-- what a worker that was cut short calls between its sender's connect and its sender's leave, by its receiver's connection,
-- where that joined
abbrev pub inner_calls : ℕ → ℕ → List ℕ → ℕ → ℕ → ℕ → List Call
inner_calls i s [] n taken empties = take n (Connect (receiver i) ∷ [])
inner_calls i s (r ∷ others) n taken empties = Connect (receiver i) ∷ take n (forwards i s 1000) ++ Leave r taken empties ∷ []

-- and what was taken from the receiver's outlet in between
abbrev pub InnerEmptied : List Entry → List ℕ → ℕ → ℕ → ℕ → Type 0
InnerEmptied E [] n taken empties = ⊤
InnerEmptied E (r ∷ others) n taken empties = (n ≤ 1000) × EmptiedEachTime E n r taken empties

-- the first of it
pub record CutBoth (h : Hub) (i s : ℕ) (p q : Pass) (cut : Cut) : Type 0 where
  pub who : List ℕ
  pub more : ℕ
  pub taken : ℕ
  pub empties : ℕ
  pub made : List Entry
  pub calls : calls made ≡ inner_calls i s who more taken empties
  pub joined : numbers (joined made) ≡ who
  pub goes : WorkerGoes h p made q
  pub owns : IsOwnAs q s (sender i).vmac
  pub shows : ShowsBy 1002 h (seen q) made cut
  pub emptied : InnerEmptied made who more taken empties

abbrev pub AfterBoth : Hub → ℕ → ℕ → Pass → Pass → Result ℕ Cut → Type 0
AfterBoth h i s p q (Ok octets) = RanBoth h i s p q octets
AfterBoth h i s p q (Err cut) = CutBoth h i s p q cut

-- all of a worker's entries, and what its receiver took, by the history S
pub record DidAll (h : Hub) (i : ℕ) (E : List Entry) (S : List Stamped) (octets : ℕ) : Type 0 where
  pub conn : ℕ
  pub taken : ℕ
  pub frames : List (List ℕ)
  pub whole : IsWholeWorker i E conn taken
  pub many : length frames ≡ taken
  pub first : AreFirst (about_of h) S conn frames
  pub counted : octets ≡ within_64_bits (npdu_octets frames)

-- what a worker did, by its answer
abbrev pub LoadWorkerDid : Hub → ℕ → List Entry → List Stamped → Result ℕ Cut → Type 0
LoadWorkerDid h i E S (Ok octets) = DidAll h i E S octets
LoadWorkerDid h i E S (Err cut) = IsPart i E × ShowsBy 1004 h S E cut

-- a worker's run
abbrev pub LoadWorkerRuns : Hub → ℕ → Pass → Pass → Result ℕ Cut → Type 0
LoadWorkerRuns h i p q result = (made : List Entry) × WorkerGoes h p made q × LoadWorkerDid h i made (seen q) result

-- a job has a pass that made no entry and asked for no number, and in which nobody ended
pub record IsJob (h : Hub) (j : Job) : Type 0 where
  pub caller : IsCaller h j.pass
  pub own : own_list j.pass ≡ []
  pub ended : ended_callers j.pass ≡ []
  pub fresh : loads_made j.pass ≡ 0
  pub index : j.index < WORKERS

-- a worker that has run: all that its pass made is what the worker did
pub record HasRun (h : Hub) (w : Work) : Type 0 where
  pub caller : IsCaller h w.pass
  pub ended : ended_callers w.pass ≡ []
  pub draws_none : loads_made w.pass ≡ 0
  pub did : LoadWorkerDid h w.index (own_list w.pass) (seen w.pass) w.octets

-- a job was run
abbrev pub RunsJob : Hub → Job → Work → Type 0
RunsJob h j w = (w.index ≡ j.index) × HasRun h w

-- the numbers of the workers of some jobs, of those that have run, and of those that the public clause names
abbrev pub job_indices : List Job → List ℕ
job_indices js = map (λ j. j.index) js

abbrev pub work_indices : List Work → List ℕ
work_indices ws = map (λ w. w.index) ws

abbrev pub indices : List Worker → List ℕ
indices ws = map (λ w. w.index) ws

-- the pass asked for at most n numbers, and made no entry
pub record Asks (h : Hub) (p q : Pass) (n : ℕ) : Type 0 where
  pub drew : ℕ
  pub few : drew ≤ n
  pub went : Went h p drew [] None q

-- jobs were split off for so many workers, or for as many as there are numbers for, and one number more was asked for
pub record Splits (h : Hub) (p q : Pass) (n : ℕ) (js : List Job) : Type 0 where
  pub went : Went h p (min n (length js + 1)) [] None q
  pub jobs : AllByRecursion (IsJob h) js
  pub numbered : job_indices js ≡ range_with_len 0 (length js)
  pub within : length js ≤ n
  pub spent : length js < n → newest_number q ≡ (about_of h).limits.callers

-- all jobs were run, in order
pub record HaveRun (h : Hub) (js : List Job) (ws : List Work) : Type 0 where
  pub many : length ws ≡ length js
  pub same : work_indices ws ≡ job_indices js
  pub run : AllByRecursion (HasRun h) ws

-- what a worker's receiver took is the first of what entered its outbox
abbrev pub Took : About → List Stamped → Worker → Type 0
Took a S w = (frames : List (List ℕ)) × (length frames ≡ w.taken) × AreFirst a S w.receiver frames

-- a number of 32 bits says so many, or its greatest where they are more
abbrev pub within_32_bits : ℕ → ℕ
within_32_bits n = min n (2 ^ 32 - 1)

abbrev pub cut_short : List Worker → ℕ
cut_short workers = count_by (λ w. w.is_cut) workers

-- all passes of workers that have run were joined
pub record LoadJoins (h : Hub) (ws : List Work) (p q : Pass) (sum : Sum) : Type 0 where
  pub workers : List Worker
  pub passed : Passed h p (map (λ w. w.caller) workers) None q
  pub loaded : newest_number q ≡ newest_number p
  pub same : indices workers ≡ work_indices ws
  pub parts : AllByRecursion WorksPart workers
  pub cut : AllByRecursion (ShowsCut h q) workers
  pub took : AllByRecursion (Took (about_of h) (seen q)) workers
  pub short : sum.short ≡ within_32_bits (cut_short workers)
  pub whole : sum.lacks_memory ≡ false → cut_short workers ≡ 0 →
      AllByRecursion WorksWhole workers × (sum.octets ≡ all_octets h (entries (seen q)) workers)

-- one worker's answer was counted in
abbrev pub CountsIn : Sum → Result ℕ Cut → Sum → Type 0
CountsIn s (Ok octets) t = (t.octets ≡ within_64_bits (s.octets + octets)) × (t.short ≡ s.short) × (t.lacks_memory ≡ s.lacks_memory)
CountsIn s (Err Short) t = (t.octets ≡ s.octets) × (t.short ≡ within_32_bits (s.short + 1)) × (t.lacks_memory ≡ s.lacks_memory)
CountsIn s (Err NoMemory) t = (t.octets ≡ s.octets) × (t.short ≡ s.short) × (t.lacks_memory ≡ true)

-- the hub was stopped, or had been
pub record Stops (h : Hub) (p q : Pass) (told : Result (Told Counts) AlreadyStopped) : Type 0 where
  pub passed : Passed h p [] (stop_made (number_of p) told) q
  pub due : IfOk told (λ t. t.said ≡ counts (found_history (stop_made (number_of p) told) q))
  pub refused : IsErr told ↔ IsTrue (is_stopped (found_history (stop_made (number_of p) told) q))
  pub place : IfErr told (λ already. position stops (entries (seen q)) ≡ Some already.at)
  pub loaded : newest_number q ≡ newest_number p

-- what a workload answers whose hub was stopped, where so many octets were taken and so many workers were cut short
abbrev pub ends_as : Result (Told Counts) AlreadyStopped → ℕ → Result LoadEnd LoadStop
ends_as (Ok told) octets = Ok (record { counts = told.said; octets = octets })
ends_as (Err already) octets = Err (Stopped already.at)

abbrev pub answer : Result (Told Counts) AlreadyStopped → ℕ → ℕ → Result LoadEnd LoadStop
answer told octets short = if nat_lt 0 short then Err (ShortStop short) else ends_as told octets

-- the hub was stopped, and that was answered
abbrev pub LoadAnswers : Hub → Pass → Pass → ℕ → ℕ → Result LoadEnd LoadStop → Type 0
LoadAnswers h p q octets short result = (told : Result (Told Counts) AlreadyStopped) × Stops h p q told × (result ≡ answer told octets short)

-- from the jobs on, a workload ends as its public clause says
abbrev pub LoadsFrom : Hub → Pass → ℕ → List Job → Pass → Result LoadEnd LoadStop → Type 0
LoadsFrom h m n js q result = (p : Pass) → Splits h p m n js → Loads h p q n result

-- the workers were joined; where memory ran out that was all, and else the hub was stopped, and that was answered, with
-- those who got no pass among those who were cut short
pub record LoadFinishes (h : Hub) (ws : List Work) (without : ℕ) (m q : Pass) (result : Result LoadEnd LoadStop) : Type 0 where
  pub pass : Pass
  pub sum : Sum
  pub joins : LoadJoins h ws m pass sum
  pub ends : ((sum.lacks_memory ≡ true) × (q ≡ pass) × (result ≡ Err NoMemoryStop)) ⊎
      ((sum.lacks_memory ≡ false) × LoadAnswers h pass q sum.octets (within_32_bits (sum.short + without)) result)
