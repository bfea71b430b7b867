-- What the inner functions of serving say of each other; no public clause cites any of it.
use Rattle.std.specs.Prelude.{◌≡◌, ◌≢◌, ℕ, ◌≤◌, ◌+◌, ◌⊎◌, Bool, true, false, ◌<◌, List, [], ◌∷◌, ◌++◌, length, map, position, replicate, Option, Some, None, Result}
use Rattle.std.specs.Prelude.{Ok, Err, IfErr, IfOk, IsErr, IsTrue, ◌↔◌, ⊤}
use Rattle.std.specs.Arc.{arc_value}
use Rattle.bsc_history.specs.declared.counts.Counts.{Counts}
use Rattle.bsc_history.specs.declared.told.AlreadyStopped.{AlreadyStopped}
use Rattle.bsc_history.specs.declared.told.Told.{Told}
use Rattle.bsc_history.specs.Counting.{counts}
use Rattle.bsc_history.specs.Entries.{stops}
use Rattle.bsc_history.specs.Marks.{entries}
use Rattle.bsc_history.specs.Replies.{is_stopped}
use Rattle.bsc_turn.specs.declared.pass.Pass.{Pass}
use Rattle.bsc_turn.specs.declared.view.EndedCaller.{EndedCaller}
use Rattle.bsc_turn.specs.Effects.{ended_of}
use Rattle.bsc_turn.specs.Passes.{drawn_list, ended_callers, loads_made, newest_number, number_of, own_list, seen, view_of}
use Rattle.bsc_hub.specs.declared.hub.Hub.{Hub}
use Rattle.bsc_hub.specs.Calls.{stop_made}
use Rattle.bsc_hub.specs.Passing.{IsCaller, Passed, Went, about_of, found_history}
use Rattle.bsc_outside.specs.Faults.{HasRisen}
use Rattle.bsc_edge.specs.declared.begun.Begun.{Begun}
use Rattle.bsc_edge.specs.declared.fault.LinkFault.{LinkFault}
use Rattle.bsc_edge.specs.declared.fault.LinkFault.TheVariants.{Failed as FaultFailed, NoMemory as FaultMemory}
use Rattle.bsc_edge.specs.declared.said.Said.{Said}
use Rattle.bsc_edge.specs.Told.{Grows, Stays}
use Rattle.bsc_serve.specs.declared.bounds.TheConstants.{WAIT_MS}
use Rattle.bsc_serve.specs.declared.accepted.Accepted.{Accepted}
use Rattle.bsc_serve.specs.declared.accepted.Accepted.TheVariants.{All, Asked, Halted as HaltedBy}
use Rattle.bsc_serve.specs.declared.halt.Halt.{Halt}
use Rattle.bsc_serve.specs.declared.halt.Halt.TheVariants.{AcceptFault as HaltFault, JournalFault as HaltJournal, NoMemory as HaltMemory}
use Rattle.bsc_serve.specs.declared.end.ServeEnd.{ServeEnd}
use Rattle.bsc_serve.specs.declared.end.ServeEnd.TheVariants.{Done, StoppedBefore, Requested, AcceptFault, JournalFault, NoMemory}
use Rattle.bsc_session.specs.declared.job.SessionJob.{SessionJob}
use Rattle.bsc_session.specs.declared.session_end.SessionEnd.{SessionEnd}
use Rattle.bsc_serve.specs.Events.{AreFates, Event, OutAfter, arrived, begun_call, begun_of, callers_of, ended, ends_of, jobs_of, links_of, numbers_in, numbers_of, returned_of, unstarted_of}
use Rattle.bsc_serve.specs.Fates.{Fate, IsFate, IsTurnedAway, IsUnused, caller_in, job_in, returned, spent, started, unstarted_in}
use Rattle.bsc_serve.specs.declared.tally.Tally.{Tally}
use Rattle.bsc_serve.specs.Tallies.{CountsUp, Remains, one_unless}
use Rattle.bsc_serve.specs.Serving.{Cut, CutSo, IsWithin, Loses, RoseBy, cut_begun, cut_callers, cut_links, cut_numbers}
use Rattle.bsc_serve.specs.Terms.{Terms}
use Rattle.bsc_serve.specs.Worlds.{ServeWorld, Stock}

-- What the newest load of the number word found, before and after a split: a number was drawn, or all are drawn.
abbrev pub limit_of : Hub → ℕ
limit_of h = (about_of h).limits.callers

abbrev pub Draws : Hub → Pass → Pass → Type 0
Draws h p q = (newest_number p < newest_number q) × (newest_number q < limit_of h)

abbrev pub DrawsFor : {J : Type 0} → Hub → Pass → Pass → Fate J → Type 0
DrawsFor h p q (started j) = Draws h p q
DrawsFor h p q (returned e) = Draws h p q
DrawsFor h p q spent = newest_number q ≡ limit_of h

-- how the loop halts where a job couldn't be made
abbrev pub fault_halt : LinkFault → Halt
fault_halt FaultFailed = HaltJournal
fault_halt FaultMemory = HaltMemory

-- The link that was cut, if one was, halted the loop. A fault of a journal cuts one.
abbrev pub CutAt : {L : Type 0} → Option (Cut L) → Halt → Type 0
CutAt None halt = halt ≢ HaltJournal
CutAt (Some c) halt = (halt ≡ fault_halt c.fault) × IsUnused c.caller

-- A pass x was split from p, which is m since.
pub record SplitsOff (h : Hub) (p m x : Pass) : Type 0 where
  pub went : Went h p 1 [] None m
  pub caller : IsCaller h x
  pub same : seen x ≡ seen p
  pub own : own_list x ≡ []
  pub ended : ended_callers x ≡ []
  pub fresh : loads_made x ≡ 0
  pub number : number_of x ≡ newest_number m
  pub more : number_of p < number_of x
  pub newer : newest_number p < number_of x
  pub room : newest_number m < limit_of h
  pub drew : drawn_list m ≡ drawn_list p ++ number_of x ∷ []

-- The pass x was joined to m, which is q since.
abbrev pub TakesBack : Hub → Pass → Pass → Pass → Type 0
TakesBack h m q x = Passed h m (ended_of (view_of x) ∷ ended_callers x) None q × (newest_number q ≡ newest_number m)

module _ {L C N : Type 0} where
  -- A job that is out: it is of this hub, and no caller has ended in its pass.
  abbrev pub IsOurs : Hub → SessionJob L C N → Type 0
  IsOurs h j = (arc_value j.hub ≡ h) × (ended_callers j.pass ≡ [])

  abbrev pub AllOurs : Hub → List (SessionJob L C N) → Type 0
  AllOurs h [] = ⊤
  AllOurs h (j ∷ more) = IsOurs h j × AllOurs h more

  -- What is left of a job is of this hub, and has its number.
  abbrev pub IsOurEnd : Hub → SessionJob L C N → SessionEnd L C N → Type 0
  IsOurEnd h j d = IsCaller h d.pass × (number_of d.pass ≡ number_of j.pass)

  abbrev pub AllEnded : Hub → List (Event L C N) → Type 0
  AllEnded h [] = ⊤
  AllEnded h (arrived l f ∷ more) = AllEnded h more
  AllEnded h (ended j d ∷ more) = IsOurEnd h j d × AllEnded h more

-- Some of the jobs that were out have ended, and one end of each was given back.
pub record GaveBack {J D : Type 0} (out still : List J) (before after : Option (List D)) : Type 0 where
  pub ends : List D
  pub one_each : length ends + length still ≡ length out
  pub given_back : Grows before after ends

-- What gives a link its session: the hub's own pass, what is seen of the spawner, and the calls that began a journal.
pub record Giver (L C N : Type 0) : Type 0 where
  pub pass : Pass
  pub stock : Stock L C N
  pub begun : Option (List Begun)

module _ {L C N : Type 0} where
  abbrev pub giver : Pass → Stock L C N → Option (List Begun) → Giver L C N
  giver pass stock begun = record { pass = pass; stock = stock; begun = begun }

  abbrev pub stock_of : ServeWorld L C N → Stock L C N
  stock_of w = record { jobs = w.jobs; given_back = w.given_back; out = w.out; unstarted = w.unstarted }

  -- the world with this pass and this of the spawner, and all else as there
  abbrev pub world_of : Pass → Stock L C N → ServeWorld L C N → ServeWorld L C N
  world_of p s w = record w {
    pass = p;
    jobs = s.jobs;
    given_back = s.given_back;
    out = s.out;
    unstarted = s.unstarted;
  }

-- A link whose job wasn't started was turned away.
abbrev pub TurnsAway : {L : Type 0} → (L → Option (List Said)) → L → Result Bool LinkFault → Type 0
TurnsAway talk l (Ok true) = ⊤
TurnsAway talk l (Ok false) = IsTurnedAway talk l
TurnsAway talk l (Err fault) = IsTurnedAway talk l

module _ {L C N : Type 0} (talk : L → Option (List Said)) where
  -- The job of a link couldn't be made, under this fault.
  pub record LacksRoom (h : Hub) (prefix : Option (List ℕ)) (l : L) (before after : Giver L C N) (fault : LinkFault) : Type 0 where
    pub caller : EndedCaller
    pub unused : IsUnused caller
    pub jobs : Grows before.stock.jobs after.stock.jobs []
    pub given_back : Stays before.stock.given_back after.stock.given_back
    pub out : after.stock.out ≡ before.stock.out
    pub went : Went h before.pass 1 (caller ∷ []) None after.pass
    pub draws : Draws h before.pass after.pass
    pub drew : drawn_list after.pass ≡ drawn_list before.pass ++ caller.number ∷ []
    pub later : before.stock.unstarted ≤ after.stock.unstarted
    pub came : Bool
    pub begun : Grows before.begun after.begun (begun_call prefix came caller.number ∷ [])
    pub none : fault ≡ FaultFailed → came ≡ false
    pub turned : IsTurnedAway talk l

module _ {L C N : Type 0} where
  -- A job was handed over, or it came back and its pass was joined.
  abbrev pub HandsOver : Hub → Pass → Pass → SessionJob L C N → Stock L C N → Stock L C N → Result Bool LinkFault → Type 0
  HandsOver h m q job s t (Ok true) =
      Grows s.jobs t.jobs (job ∷ []) × (t.out ≡ s.out ++ job ∷ []) × (s.unstarted ≤ t.unstarted) × (q ≡ m) × Stays s.given_back t.given_back
  HandsOver h m q job s t (Ok false) =
      Grows s.jobs t.jobs [] × (t.out ≡ s.out) × HasRisen s.unstarted t.unstarted × TakesBack h m q job.pass × Stays s.given_back t.given_back
  HandsOver h m q job s t (Err e) =
      Grows s.jobs t.jobs [] × (t.out ≡ s.out) × (s.unstarted ≤ t.unstarted) × TakesBack h m q job.pass × Stays s.given_back t.given_back

module _ {L C N : Type 0} (begins : Option (List ℕ) → ℕ → N → Type 0) (talk : L → Option (List Said)) where
  -- What became of one link.
  pub record Fared (h : Hub) (terms : Terms) (x : L) (before after : Giver L C N) (is_started : Bool) : Type 0 where
    pub fate : Fate (SessionJob L C N)
    pub is : IsFate begins talk h terms before.pass after.pass x fate
    pub jobs : Grows before.stock.jobs after.stock.jobs (job_in fate)
    pub given_back : Stays before.stock.given_back after.stock.given_back
    pub out : after.stock.out ≡ before.stock.out ++ job_in fate
    pub went : Went h before.pass 1 (caller_in fate) None after.pass
    pub draws : DrawsFor h before.pass after.pass fate
    pub drew : drawn_list after.pass ≡ drawn_list before.pass ++ numbers_in fate
    pub rose : RoseBy (length (caller_in fate)) before.stock.unstarted after.stock.unstarted
    pub begun : Grows before.begun after.begun (map (begun_call terms.prefix true) (numbers_in fate))
    pub counts : unstarted_in fate ≡ one_unless is_started

  abbrev pub Fares : Hub → Terms → L → Giver L C N → Giver L C N → Result Bool LinkFault → Type 0
  Fares h terms l before after (Ok is_started) = Fared h terms l before after is_started
  Fares h terms l before after (Err fault) = LacksRoom talk h terms.prefix l before after fault

module _ {L C N : Type 0} (works : SessionJob L C N → SessionEnd L C N → Type 0) where
  -- From one pass and what is seen of the spawner to another: jobs that were out have ended, in this order, and their callers were
  -- taken in. Where none has, the pass is as it was.
  pub record TakesIn (h : Hub) (p : Pass) (s : Stock L C N) (q : Pass) (t : Stock L C N) : Type 0 where
    pub late : List (Event L C N)
    pub none : links_of late ≡ []
    pub out : OutAfter works s.out late t.out
    pub all_ended : AllEnded h late
    pub went : Passed h p (callers_of late) None q
    pub loaded : newest_number q ≡ newest_number p
    pub same : late ≡ [] → q ≡ p
    pub jobs : Stays s.jobs t.jobs
    pub given_back : Grows s.given_back t.given_back (ends_of late)
    pub later : s.unstarted ≤ t.unstarted

module _ {L C N : Type 0} (works : SessionJob L C N → SessionEnd L C N → Type 0) (begins : Option (List ℕ) → ℕ → N → Type 0) (talk : L → Option (List Said)) where
  -- What has happened, in a loop that began with the world w and stands at v with this tally.
  pub record Taken (h : Hub) (terms : Terms) (w v : ServeWorld L C N) (tally : Tally) : Type 0 where
    pub events : List (Event L C N)
    pub left : Loses w.links v.links (links_of events)
    pub came : Grows w.came v.came (links_of events)
    pub asks : ℕ
    pub asked : Grows w.waits v.waits (replicate asks WAIT_MS)
    pub idle : ℕ
    pub quiet : RoseBy idle w.quiets v.quiets
    pub answered : asks ≡ length (links_of events) + idle
    pub begun : Grows w.begun v.begun (begun_of terms.prefix events)
    pub jobs : Grows w.jobs v.jobs (jobs_of events)
    pub given_back : Grows w.given_back v.given_back (ends_of events)
    pub fates : AreFates begins talk h terms w.pass v.pass events
    pub returned : RoseBy (returned_of events) w.unstarted v.unstarted
    pub out : OutAfter works [] events v.out
    pub ours : AllOurs h v.out
    pub all_ended : AllEnded h events
    pub went : Went h w.pass (length (links_of events)) (callers_of events) None v.pass
    pub drawn : (newest_number w.pass ≤ newest_number v.pass) ⊎ (newest_number v.pass ≡ limit_of h)
    pub drew : drawn_list v.pass ≡ drawn_list w.pass ++ numbers_of events
    pub remains : Remains terms.sessions (length (links_of events)) tally.remaining
    pub counted : CountsUp tally.unstarted (unstarted_of events)

  -- The loop halted.
  pub record Halted (h : Hub) (terms : Terms) (w v : ServeWorld L C N) (halt : Halt) : Type 0 where
    pub events : List (Event L C N)
    pub cut : Option (Cut L)
    pub cut_last : CutAt cut halt
    pub cut_so : CutSo talk cut
    pub left : Loses w.links v.links (links_of events ++ cut_links cut)
    pub came : Grows w.came v.came (links_of events ++ cut_links cut)
    pub within : IsWithin terms.sessions (length (links_of events) + length (cut_links cut))
    pub asks : ℕ
    pub asked : Grows w.waits v.waits (replicate asks WAIT_MS)
    pub idle : ℕ
    pub quiet : RoseBy idle w.quiets v.quiets
    pub answered : (asks ≡ length (links_of events) + length (cut_links cut) + idle) ⊎ ((asks ≡ length (links_of events) + length (cut_links cut) + idle + 1) × (cut ≡ None))
    pub begun : Grows w.begun v.begun (begun_of terms.prefix events ++ cut_begun terms.prefix cut)
    pub jobs : Grows w.jobs v.jobs (jobs_of events)
    pub given_back : Grows w.given_back v.given_back (ends_of events)
    pub fates : AreFates begins talk h terms w.pass v.pass events
    pub returned : RoseBy (returned_of events) w.unstarted v.unstarted
    pub out : OutAfter works [] events v.out
    pub ours : AllOurs h v.out
    pub all_ended : AllEnded h events
    pub went : Went h w.pass (length (links_of events) + length (cut_links cut)) (callers_of events ++ cut_callers cut) None v.pass
    pub drew : drawn_list v.pass ≡ drawn_list w.pass ++ (numbers_of events ++ cut_numbers cut)

  -- The loop goes on, or halts.
  abbrev pub TakesOn : Hub → Terms → ServeWorld L C N → ServeWorld L C N → Tally → Option Halt → Type 0
  TakesOn h terms w v tally None = Taken h terms w v tally
  TakesOn h terms w v tally (Some halt) = Halted h terms w v halt

  -- All that are awaited have arrived, or the stop was asked for, or the loop halted.
  abbrev pub Accepts : Hub → Terms → ServeWorld L C N → ServeWorld L C N → Accepted → Type 0
  Accepts h terms w v (All unstarted) = Taken h terms w v (record { remaining = Some 0; unstarted = unstarted })
  Accepts h terms w v (Asked unstarted) = (tally : Tally) × (tally.unstarted ≡ unstarted) × Taken h terms w v tally
  Accepts h terms w v (HaltedBy halt) = Halted h terms w v halt

  -- From one pass and what is seen of the spawner to another: whatever has happened, it may have so since.
  abbrev pub GoesOn : Hub → Pass → Stock L C N → Pass → Stock L C N → Type 0
  GoesOn h p s q t =
      (terms : Terms) (first beside : ServeWorld L C N) (tally : Tally)
      → Taken h terms first (world_of p s beside) tally → Taken h terms first (world_of q t beside) tally

-- What a stop of the hub says, whose pass was m and is q.
pub record Stopped (h : Hub) (m q : Pass) (r : Result (Told Counts) AlreadyStopped) : Type 0 where
  pub passed : Passed h m [] (stop_made (number_of m) r) q
  pub due : IfOk r (λ t. t.said ≡ counts (found_history (stop_made (number_of m) r) q))
  pub refused : IsErr r ↔ IsTrue (is_stopped (found_history (stop_made (number_of m) r) q))
  pub place : IfErr r (λ already. position stops (entries (seen q)) ≡ Some already.at)
  pub loaded : newest_number q ≡ newest_number m

module _ {L C N : Type 0} (works : SessionJob L C N → SessionEnd L C N → Type 0) where
  -- From one pass and what is seen of the spawner to another: the hub was stopped, and then the jobs that were out have ended, and
  -- their callers were taken in.
  pub record StopsFirst (h : Hub) (m : Pass) (s : Stock L C N) (q : Pass) (t : Stock L C N) (r : Result (Told Counts) AlreadyStopped) : Type 0 where
    pub at_stop : Pass
    pub stopped : Stopped h m at_stop r
    pub ended : TakesIn works h at_stop s q t

-- whether the loop ended as the stop was asked for
abbrev pub has_asked : Accepted → Bool
has_asked (All u) = false
has_asked (Asked u) = true
has_asked (HaltedBy halt) = false

-- How serving ends that would end so, by why the Stop's line wasn't put, if it wasn't.
abbrev pub lost_or : ServeEnd → Option LinkFault → ServeEnd
lost_or end None = end
lost_or end (Some FaultFailed) = JournalFault
lost_or end (Some FaultMemory) = NoMemory

-- How serving ends that wasn't cut short, where so many links have no job.
abbrev pub stop_end : ℕ → Result (Told Counts) AlreadyStopped → ServeEnd
stop_end u (Ok t) = Done t.said u
stop_end u (Err already) = StoppedBefore already.at u

abbrev pub whole_end : ℕ → Result (Told Counts) AlreadyStopped → Option LinkFault → ServeEnd
whole_end u stop lost = lost_or (stop_end u stop) lost

-- How serving ends whose stop was asked for, where so many links have no job.
abbrev pub request_end : ℕ → Result (Told Counts) AlreadyStopped → ServeEnd
request_end u (Ok t) = Requested (Some t.said) u
request_end u (Err already) = Requested None u

abbrev pub asked_end : ℕ → Result (Told Counts) AlreadyStopped → Option LinkFault → ServeEnd
asked_end u stop lost = lost_or (request_end u stop) lost

-- How serving ends that halted.
abbrev pub halt_end : Halt → Option LinkFault → ServeEnd
halt_end HaltJournal lost = JournalFault
halt_end HaltFault lost = lost_or AcceptFault lost
halt_end HaltMemory lost = lost_or NoMemory lost
