-- What the inner functions of a storm say of each other; no public clause cites any of it.
use Rattle.std.specs.Prelude.{◌≡◌, ◌≢◌, ◌⊎◌, ◌≤◌, ◌<◌, ℕ, ◌+◌, nat_lt, Bool, true, false, ◌||◌, if◌then◌else◌, IsTrue, ⊤}
use Rattle.std.specs.Prelude.{List, [], ◌∷◌, ◌++◌, length, map, Option, Some, None, Result, Ok, Err, IfSome}
use Rattle.std.specs.List.{list_any, sum_by}
use Rattle.bsc_history.specs.declared.call.Call.TheVariants.{Connect, Forward, Leave}
use Rattle.bsc_history.specs.declared.counts.Counts.{Counts}
use Rattle.bsc_history.specs.declared.ending.End.{End}
use Rattle.bsc_history.specs.declared.ending.End.TheVariants.{Left}
use Rattle.bsc_history.specs.declared.entry.Entry.{Entry}
use Rattle.bsc_history.specs.declared.mark.Stamped.{Stamped}
use Rattle.bsc_history.specs.declared.told.AlreadyStopped.{AlreadyStopped}
use Rattle.bsc_history.specs.declared.told.Told.{Told}
use Rattle.bsc_history.specs.declared.told.Worn.{Worn}
use Rattle.bsc_history.specs.Counting.{is_refused}
use Rattle.bsc_history.specs.Ends.{joined}
use Rattle.bsc_history.specs.Marks.{entries}
use Rattle.bsc_history.specs.Replies.{numbers}
use Rattle.bsc_ring.specs.declared.ends.Outlet.{Outlet}
use Rattle.bsc_ring.specs.Ends.{FoundEnd, empties_of, given}
use Rattle.bsc_turn.specs.declared.pass.Pass.{Pass}
use Rattle.bsc_turn.specs.declared.view.EndedCaller.{EndedCaller}
use Rattle.bsc_turn.specs.Effects.{ended_of}
use Rattle.bsc_turn.specs.Histories.{StartsWith}
use Rattle.bsc_turn.specs.Passes.{ended_callers, loads_made, newest_number, number_of, own_list, seen, view_of}
use Rattle.bsc_desk.specs.declared.forwarding.OneReply.{OneReply}
use Rattle.bsc_hub.specs.declared.hub.Hub.{Hub}
use Rattle.bsc_hub.specs.declared.joined.ConnectRefusal.{ConnectRefusal}
use Rattle.bsc_hub.specs.declared.joined.ConnectRefusal.TheVariants.{NoMemory as NoMemoryRefusal, Worn as WornRefusal, Refused}
use Rattle.bsc_hub.specs.Passing.{IsCaller, Passed, Went, about_of}
use Rattle.bsc_load.specs.declared.ends.LoadStop.{LoadStop}
use Rattle.bsc_load.specs.declared.ends.LoadStop.TheVariants.{NoMemory as NoMemoryStop, Short as ShortStop, Stopped}
use Rattle.bsc_load.specs.Inner.{KeepsOwn, Stops, WorkerGoes}
use Rattle.bsc_load.specs.Workers.{calls, within_64_bits}
use Rattle.bsc_load.specs.declared.storm.bounds.TheConstants.{TAKES}
use Rattle.bsc_load.specs.declared.storm.ends.StormEnd.{StormEnd}
use Rattle.bsc_load.specs.declared.storm.works.Cut.{Cut}
use Rattle.bsc_load.specs.declared.storm.works.Cut.TheVariants.{NoMemory, Short}
use Rattle.bsc_load.specs.declared.storm.works.Work.{Work}
use Rattle.bsc_load.specs.Storm.Peers.{storm_frame, taken_over}
use Rattle.bsc_load.specs.Storm.Storms.{Storms}
use Rattle.bsc_load.specs.Storm.Workers.{IsPart, IsWholeStormWorker, Stay, TakesAll, stay_calls, storm_forwards, whole_length}

-- why a worker was cut short whose connect was refused
abbrev pub cut_of : ConnectRefusal → Cut
cut_of NoMemoryRefusal = NoMemory
cut_of (WornRefusal worn) = Short
cut_of (Refused at refusal) = Short

-- a worker that was cut short, but not for want of memory, met a hub that was worn
abbrev pub StormWasWorn : Hub → Pass → Cut → Type 0
StormWasWorn h q NoMemory = ⊤
StormWasWorn h q Short = (about_of h).limits.calls ≤ length (entries (seen q))

-- the sign of a worker that was cut short, but for want of memory, by its entries, which are fewer than so many
abbrev pub ShowsBy : ℕ → Hub → List Stamped → List Entry → Cut → Type 0
ShowsBy n h S E NoMemory = ⊤
ShowsBy n h S E Short = IsTrue (list_any (λ e. is_refused e.reply) E) ⊎ ((length E < n) × ((about_of h).limits.calls ≤ length (entries S)))

-- an outlet from which a stay has taken: it gave as many frames as a stay takes, or fewer until it was found empty once, or
-- until its End was
abbrev pub TookSome : Outlet → Type 0
TookSome o =
    ((length (given o) ≡ TAKES) × (empties_of o ≡ 0)) ⊎ ((length (given o) < TAKES) × (empties_of o ≡ 1))
    ⊎ ((length (given o) < TAKES) × (empties_of o ≡ 0) × ((e : End) × (e ≢ Left) × FoundEnd o e))

-- one stay: a connect that joined, and a leave
pub record StaysOnce (h : Hub) (p q : Pass) (taken : ℕ) : Type 0 where
  pub conn : ℕ
  pub empties : ℕ
  pub first : Entry
  pub last : Entry
  pub joins : first.call ≡ Connect taken_over
  pub leaves : last.call ≡ Leave conn taken empties
  pub who : numbers (joined (first ∷ last ∷ [])) ≡ conn ∷ []
  pub takes : TakesAll (first ∷ last ∷ [])
  pub goes : WorkerGoes h p (first ∷ last ∷ []) q

-- a connect that didn't join, and nothing else
pub record NoStay (h : Hub) (p q : Pass) (cut : Cut) : Type 0 where
  pub made : List Entry
  pub calls : (calls made ≡ []) ⊎ (calls made ≡ Connect taken_over ∷ [])
  pub quiet : joined made ≡ []
  pub goes : WorkerGoes h p made q
  pub shows : ShowsBy 1 h (seen q) made cut

abbrev pub AfterStay : Hub → Pass → Pass → Result ℕ Cut → Type 0
AfterStay h p q (Ok taken) = StaysOnce h p q taken
AfterStay h p q (Err cut) = NoStay h p q cut

-- so many stays
pub record Stayed (h : Hub) (n : ℕ) (p q : Pass) (all : ℕ) : Type 0 where
  pub stays : List Stay
  pub many : length stays ≡ n
  pub made : List Entry
  pub calls : calls made ≡ stay_calls stays
  pub joined : numbers (joined made) ≡ map (λ s. s.conn) stays
  pub takes : TakesAll made
  pub goes : WorkerGoes h p made q
  pub taken : all ≡ within_64_bits (sum_by (λ s. s.taken) stays)

-- a worker that was cut short
pub record WasCut (h : Hub) (sends : Bool) (rounds : ℕ) (p q : Pass) (cut : Cut) : Type 0 where
  pub made : List Entry
  pub part : IsPart sends rounds made
  pub goes : WorkerGoes h p made q
  pub shows : ShowsBy (whole_length sends rounds) h (seen q) made cut

abbrev pub StayedOften : Hub → ℕ → Pass → Pass → Result ℕ Cut → Type 0
StayedOften h rounds p q (Ok taken) = Stayed h rounds p q taken
StayedOften h rounds p q (Err cut) = WasCut h false rounds p q cut

-- a forward that was told a reply went on, and one that was worn was cut short
abbrev pub goes_on : Result (Told OneReply) Worn → Result ⊤ Cut
goes_on (Ok t) = Ok tt
goes_on (Err worn) = Err Short

-- one forward
abbrev pub StormForwards : Hub → ℕ → ℕ → Pass → Pass → Result ⊤ Cut → Type 0
StormForwards h s k p q (Ok u) = (e : Entry) × (e.call ≡ Forward s (storm_frame k)) × WorkerGoes h p (e ∷ []) q × KeepsOwn p q
StormForwards h s k p q (Err cut) = WorkerGoes h p [] q × KeepsOwn p q × StormWasWorn h q cut

-- n forwards
pub record Sent (h : Hub) (s n : ℕ) (p q : Pass) : Type 0 where
  pub made : List Entry
  pub calls : calls made ≡ storm_forwards s n
  pub quiet : joined made ≡ []
  pub goes : WorkerGoes h p made q
  pub holds : KeepsOwn p q

-- all forwards
abbrev pub SentAll : Hub → ℕ → ℕ → Pass → Pass → Result ℕ Cut → Type 0
SentAll h s n p q (Ok taken) = Sent h s n p q × (taken ≡ 0)
SentAll h s n p q (Err cut) = (k : ℕ) × (k < n) × Sent h s k p q × StormWasWorn h q cut

-- all that a worker did, by its answer: what it says that it took is the greatest number of 64 bits where that was more
pub record DidAll (sends : Bool) (rounds : ℕ) (E : List Entry) (answer : ℕ) : Type 0 where
  pub taken : ℕ
  pub whole : IsWholeStormWorker sends rounds E taken
  pub said : answer ≡ within_64_bits taken

abbrev pub StormWorkerDid : Hub → Bool → ℕ → List Entry → List Stamped → Result ℕ Cut → Type 0
StormWorkerDid h sends rounds E S (Ok said) = DidAll sends rounds E said
StormWorkerDid h sends rounds E S (Err cut) = IsPart sends rounds E × ShowsBy (whole_length sends rounds) h S E cut

-- a worker's run
abbrev pub StormWorkerRuns : Hub → Bool → ℕ → Pass → Pass → Result ℕ Cut → Type 0
StormWorkerRuns h sends rounds p q result = (made : List Entry) × WorkerGoes h p made q × StormWorkerDid h sends rounds made (seen q) result

-- a pass for a worker: it made no entry and asked for no number, and nobody ended in it
pub record IsNew (h : Hub) (p : Pass) : Type 0 where
  pub caller : IsCaller h p
  pub own : own_list p ≡ []
  pub ended : ended_callers p ≡ []
  pub fresh : loads_made p ≡ 0

-- a worker that has run, of this caller: all that its pass made is what the worker did
pub record HasRun (h : Hub) (sends : Bool) (rounds k : ℕ) (w : Work) : Type 0 where
  pub caller : IsCaller h w.pass
  pub number : number_of w.pass ≡ k
  pub ended : ended_callers w.pass ≡ []
  pub draws_none : loads_made w.pass ≡ 0
  pub did : StormWorkerDid h sends rounds (own_list w.pass) (seen w.pass) w.taken

-- A pass was split off for a worker, with a greater number than was known; or as many numbers are drawn as there may be.
abbrev pub HasSplit : Hub → Pass → Pass → Option Pass → Type 0
HasSplit h p q None = newest_number q ≡ (about_of h).limits.callers
HasSplit h p q (Some x) = IsNew h x × (newest_number p < number_of x) × (number_of x ≡ newest_number q) × (newest_number q < (about_of h).limits.callers)

pub record SplitsOne (h : Hub) (p q : Pass) (x : Option Pass) : Type 0 where
  pub went : Went h p 1 [] None q
  pub split : HasSplit h p q x

-- passes were split off for three workers, or for the first of them
pub record Splits (h : Hub) (p q : Pass) (x y z : Option Pass) : Type 0 where
  pub went : Went h p 3 [] None q
  pub one : IfSome x (IsNew h)
  pub other : IfSome y (IsNew h)
  pub sends : IfSome z (IsNew h)
  pub rises : (a b : Pass) → x ≡ Some a → y ≡ Some b → number_of a < number_of b
  pub no_one : x ≡ None → newest_number q ≡ (about_of h).limits.callers
  pub no_other : y ≡ None → newest_number q ≡ (about_of h).limits.callers
  pub no_sender : z ≡ None → newest_number q ≡ (about_of h).limits.callers

-- a worker has run that got a pass
abbrev pub MayRun : Hub → Bool → ℕ → Option Pass → Option Work → Type 0
MayRun h sends rounds None None = ⊤
MayRun h sends rounds (Some p) (Some w) = HasRun h sends rounds (number_of p) w
MayRun h sends rounds p w = ⊥

-- what a worker came to: it was cut short where it got no pass
abbrev pub came_of : Option Work → Result ℕ Cut
came_of None = Err Short
came_of (Some w) = w.taken

-- its caller, if it got a pass
abbrev pub ended_in : Option Work → List EndedCaller
ended_in None = []
ended_in (Some w) = ended_of (view_of w.pass) ∷ []

-- a worker's pass may be joined: it is of this hub, and nobody ended in it
abbrev pub MayJoin : Hub → Option Work → Type 0
MayJoin h w = IfSome w (λ k. IsCaller h k.pass × (ended_callers k.pass ≡ []))

-- what a worker's pass has seen, another has
abbrev pub SeesAll : Pass → Option Work → Type 0
SeesAll q w = IfSome w (λ k. StartsWith (seen q) (seen k.pass))

-- the pass of a worker was joined, if it got one
pub record JoinsOne (h : Hub) (p q : Pass) (w : Option Work) : Type 0 where
  pub passed : Passed h p (ended_in w) None q
  pub loaded : newest_number q ≡ newest_number p
  pub sees : SeesAll q w

-- the passes of three were joined
pub record StormJoins (h : Hub) (p q : Pass) (x y z : Option Work) : Type 0 where
  pub passed : Passed h p (ended_in x ++ (ended_in y ++ ended_in z)) None q
  pub loaded : newest_number q ≡ newest_number p
  pub one : SeesAll q x
  pub other : SeesAll q y
  pub sends : SeesAll q z

-- what the answer of a worker counts as
abbrev pub short_of : Result ℕ Cut → ℕ
short_of (Ok taken) = 0
short_of (Err NoMemory) = 0
short_of (Err Short) = 1

abbrev pub lacks : Result ℕ Cut → Bool
lacks (Ok taken) = false
lacks (Err NoMemory) = true
lacks (Err Short) = false

abbrev pub taken_of : Result ℕ Cut → ℕ
taken_of (Ok taken) = taken
taken_of (Err cut) = 0

-- what a storm answers whose hub was stopped, where so many frames were taken and so many workers were cut short
abbrev pub ends_as : Result (Told Counts) AlreadyStopped → ℕ → Result StormEnd LoadStop
ends_as (Ok told) taken = Ok (record { counts = told.said; taken = taken })
ends_as (Err already) taken = Err (Stopped already.at)

abbrev pub answer : Result (Told Counts) AlreadyStopped → ℕ → ℕ → Result StormEnd LoadStop
answer told taken short = if nat_lt 0 short then Err (ShortStop short) else ends_as told taken

-- the hub was stopped, and that was answered
abbrev pub StormAnswers : Hub → Pass → Pass → ℕ → ℕ → Result StormEnd LoadStop → Type 0
StormAnswers h p q taken short result = (told : Result (Told Counts) AlreadyStopped) × Stops h p q told × (result ≡ answer told taken short)

-- what three came to: whether one lacked memory, how many frames the first two took, and how many were short
abbrev pub any_lacks : Option Work → Option Work → Option Work → Bool
any_lacks x y z = lacks (came_of x) || lacks (came_of y) || lacks (came_of z)

abbrev pub all_taken_of : Option Work → Option Work → ℕ
all_taken_of x y = within_64_bits (taken_of (came_of x) + taken_of (came_of y))

abbrev pub all_short : Option Work → Option Work → Option Work → ℕ
all_short x y z = short_of (came_of x) + short_of (came_of y) + short_of (came_of z)

-- the workers were joined; where memory ran out that was all, and else the hub was stopped, and that was answered
pub record StormFinishes (h : Hub) (p q : Pass) (x y z : Option Work) (result : Result StormEnd LoadStop) : Type 0 where
  pub pass : Pass
  pub joins : StormJoins h p pass x y z
  pub ends : ((any_lacks x y z ≡ true) × (q ≡ pass) × (result ≡ Err NoMemoryStop))
      ⊎ ((any_lacks x y z ≡ false) × StormAnswers h pass q (all_taken_of x y) (all_short x y z) result)

-- from the passes on, a storm ends as its public clause says
abbrev pub StormsFrom : Hub → Pass → Option Pass → Option Pass → Option Pass → ℕ → Pass → Result StormEnd LoadStop → Type 0
StormsFrom h m one other sends rounds q result = (p : Pass) → Splits h p m one other sends → Storms h p q rounds result
