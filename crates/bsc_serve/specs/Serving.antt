-- What serving a hub comes to.
use Rattle.std.specs.Prelude.{◌≡◌, ℕ, ◌≤◌, ◌+◌, ◌⊎◌, Bool, false, List, [], ◌∷◌, ◌++◌, length, position, replicate, take, Option, Some, None, Result, Ok, Err, ⊤}
use Rattle.bsc_history.specs.declared.counts.Counts.{Counts}
use Rattle.bsc_history.specs.declared.told.AlreadyStopped.{AlreadyStopped}
use Rattle.bsc_history.specs.declared.told.Told.{Told}
use Rattle.bsc_history.specs.Counting.{counts}
use Rattle.bsc_history.specs.Entries.{stops}
use Rattle.bsc_history.specs.Marks.{entries}
use Rattle.bsc_history.specs.Replies.{is_stopped}
use Rattle.bsc_turn.specs.declared.pass.Pass.{Pass}
use Rattle.bsc_turn.specs.declared.view.EndedCaller.{EndedCaller}
use Rattle.bsc_turn.specs.Passes.{drawn_list, number_of, seen}
use Rattle.bsc_hub.specs.Calls.{stop_made}
use Rattle.bsc_hub.specs.Passing.{Passed, Went, found_history}
use Rattle.bsc_edge.specs.declared.begun.Begun.{Begun}
use Rattle.bsc_edge.specs.declared.fault.LinkFault.{LinkFault}
use Rattle.bsc_edge.specs.declared.fault.LinkFault.TheVariants.{Failed}
use Rattle.bsc_edge.specs.declared.said.Said.{Said}
use Rattle.bsc_edge.specs.Told.{Grows}
use Rattle.bsc_desk.specs.Entries.{stop_entry}
use Rattle.bsc_session.specs.Notes.Notes.{HasLine, Note, Records, made}
use Rattle.bsc_serve.specs.declared.bounds.TheConstants.{WAIT_MS}
use Rattle.bsc_serve.specs.declared.end.ServeEnd.{ServeEnd}
use Rattle.bsc_serve.specs.declared.end.ServeEnd.TheVariants.{Done, StoppedBefore, Requested, AcceptFault, JournalFault, NoMemory}
use Rattle.bsc_session.specs.declared.job.SessionJob.{SessionJob}
use Rattle.bsc_session.specs.declared.session_end.SessionEnd.{SessionEnd}
use Rattle.bsc_serve.specs.Events.{AllStand, AreFates, Event, OutAfter, begun_call, begun_of, callers_of, ends_of, jobs_of, links_of, numbers_of, returned_of, unstarted_of}
use Rattle.bsc_serve.specs.Fates.{IsTurnedAway, IsUnused}
use Rattle.bsc_serve.specs.Tallies.{CountsUp}
use Rattle.bsc_serve.specs.Terms.{Terms}
use Rattle.bsc_serve.specs.Worlds.{ServedWorld}

-- What is left lost these, in order, and was told before. What isn't told any more says nothing.
abbrev pub Loses : {A : Type 0} → Option (List A) → Option (List A) → List A → Type 0
Loses old None xs = ⊤
Loses None (Some new) xs = ⊥
Loses (Some old) (Some new) xs = old ≡ xs ++ new

-- A count rose by n at least, or stands at its last value, the greatest u64.
abbrev pub RoseBy : ℕ → ℕ → ℕ → Type 0
RoseBy n old new = (old + n ≤ new) ⊎ (18446744073709551615 ≤ new)

-- A link whose job couldn't be made, the caller whose pass was split for it, and whether its journal came: it couldn't be begun,
-- or there was no memory.
pub record Cut (L : Type 0) : Type 0 where
  pub link : L
  pub caller : EndedCaller
  pub came : Bool
  pub fault : LinkFault

module _ {L : Type 0} where
  abbrev pub cut_links : Option (Cut L) → List L
  cut_links None = []
  cut_links (Some c) = c.link ∷ []

  abbrev pub cut_callers : Option (Cut L) → List EndedCaller
  cut_callers None = []
  cut_callers (Some c) = c.caller ∷ []

  -- the number that was drawn for it
  abbrev pub cut_numbers : Option (Cut L) → List ℕ
  cut_numbers None = []
  cut_numbers (Some c) = c.caller.number ∷ []

  -- the call that was to begin its journal
  abbrev pub cut_begun : Option (List ℕ) → Option (Cut L) → List Begun
  cut_begun prefix None = []
  cut_begun prefix (Some c) = begun_call prefix c.came c.caller.number ∷ []

  -- Under a fault of a journal none came; and the link was turned away.
  abbrev pub CutSo : (L → Option (List Said)) → Option (Cut L) → Type 0
  CutSo talk None = ⊤
  CutSo talk (Some c) = (c.fault ≡ Failed → c.came ≡ false) × IsTurnedAway talk c.link

  -- why its job couldn't be made
  abbrev pub cut_fault : Option (Cut L) → Option LinkFault
  cut_fault None = None
  cut_fault (Some c) = Some c.fault

  -- It comes under want of memory and under a fault of a journal alone.
  abbrev pub CutBy : Option (Cut L) → ServeEnd → Type 0
  CutBy None end = ⊤
  CutBy (Some c) end = ((end ≡ NoMemory) ⊎ (end ≡ JournalFault)) × IsUnused c.caller

  -- A journal failed: the line of the Stop wasn't put, as its put failed, or the journal of the link that was cut couldn't be
  -- begun.
  abbrev pub JournalFailed : Option (Cut L) → Option LinkFault → Type 0
  JournalFailed cut lost = (lost ≡ Some Failed) ⊎ (cut_fault cut ≡ Some Failed)

-- Serving was cut short.
abbrev pub IsCutShort : ServeEnd → Type 0
IsCutShort (Done c u) = ⊥
IsCutShort (StoppedBefore at u) = ⊥
IsCutShort (Requested c u) = ⊥
IsCutShort end = ⊤

-- Each time that the acceptor was asked a link came, or none within the wait; or one time more it was asked, and that cut serving
-- short, with no link that was cut: the acceptor failed, or had no memory.
abbrev pub AreAnswered : {L : Type 0} → ℕ → ℕ → ℕ → Option (Cut L) → ServeEnd → Type 0
AreAnswered asks came idle cut end = (asks ≡ came + idle) ⊎ ((asks ≡ came + idle + 1) × (cut ≡ None) × IsCutShort end)

-- No more links than are awaited, where that is said.
abbrev pub IsWithin : Option ℕ → ℕ → Type 0
IsWithin None n = ⊤
IsWithin (Some awaited) n = n ≤ awaited

-- What the stop of a hub answered, by what the pass has then seen: the counts of the history before its Stop, in which there
-- is no other; or where the Stop stands that was made before.
abbrev pub StopAnswers : Pass → Result (Told Counts) AlreadyStopped → Type 0
StopAnswers q (Ok t) =
    (t.said ≡ counts (take t.at (entries (seen q)))) × (is_stopped (take t.at (entries (seen q))) ≡ false)
StopAnswers q (Err already) = position stops (entries (seen q)) ≡ Some already.at

-- What an end that was asked for says of the stop: its counts, or that it was made before.
abbrev pub SaysStop : Option Counts → Result (Told Counts) AlreadyStopped → Type 0
SaysStop (Some c) stop = (at : ℕ) × (stop ≡ Ok (record { at = at; said = c }))
SaysStop None stop = (at : ℕ) × (stop ≡ Err (record { at = at }))

-- What a caller notes of its stop of the hub: the Stop that it made, with its place.
abbrev pub stop_notes : ℕ → Result (Told Counts) AlreadyStopped → List Note
stop_notes caller (Ok t) = made t.at (stop_entry caller t.said) ∷ []
stop_notes caller (Err already) = []

module _ {L C N : Type 0} where
  -- How serving ends, by what happened, the link that was cut, the jobs that were out when the hub was stopped, what the stop
  -- answered, and why its line wasn't put, if it wasn't. A journal failed; or none did, and then: as many links arrived as were
  -- awaited, no job was out, the Stop's line was put, and the end says how many of the links have no job, and the counts of the
  -- stop or where the earlier one stands; or the stop was asked for, whatever had arrived and was out, the Stop's line was put, and
  -- the end says the same, of the links up to the greatest u64; or it was cut short.
  abbrev pub EndsSo : Option ℕ → List (Event L C N) → Option (Cut L) → List (SessionJob L C N) → Result (Told Counts) AlreadyStopped
      → Option LinkFault → ServeEnd → Type 0
  EndsSo awaited events cut still stop lost (Done c u) =
      (awaited ≡ Some (length (links_of events))) × (still ≡ []) × (u ≡ unstarted_of events)
      × ((at : ℕ) × (stop ≡ Ok (record { at = at; said = c }))) × (lost ≡ None)
  EndsSo awaited events cut still stop lost (StoppedBefore at u) =
      (awaited ≡ Some (length (links_of events))) × (still ≡ []) × (u ≡ unstarted_of events) × (stop ≡ Err (record { at = at }))
  EndsSo awaited events cut still stop lost (Requested c u) = CountsUp u (unstarted_of events) × SaysStop c stop × (lost ≡ None)
  EndsSo awaited events cut still stop lost AcceptFault = lost ≡ None
  EndsSo awaited events cut still stop lost JournalFault = JournalFailed cut lost
  EndsSo awaited events cut still stop lost NoMemory = JournalFailed cut lost → ⊥

module _ {L C N : Type 0} (works : SessionJob L C N → SessionEnd L C N → Type 0) (begins : Option (List ℕ) → ℕ → N → Type 0) (talk : L → Option (List Said)) where
  -- What serving a hub comes to, on these terms, from one world to another of the same hub, where `works` says what may be left
  -- of a job, `begins` whether a sink is the journal of a prefix and a number, and `talk` what was said on a link: there is what
  -- happened, in order, under want of memory or a fault of a journal one link more, the jobs that were still out when the hub was
  -- stopped, an answer of its stop, the own pass as the stop left it, how those jobs ended then, and why the Stop's line wasn't
  -- put, if it wasn't, such that ..
  pub record Serving (terms : Terms) (before after : ServedWorld L C N) (end : ServeEnd) : Type 0 where
    pub events : List (Event L C N)
    pub cut : Option (Cut L)
    pub still : List (SessionJob L C N)
    pub stop : Result (Told Counts) AlreadyStopped
    pub at_stop : Pass
    pub late : List (Event L C N)
    pub lost : Option LinkFault
    pub cut_last : CutBy cut end
    pub cut_so : CutSo talk cut
    pub hub : after.hub ≡ before.hub
    -- .. these links left the acceptor, in order, so these came, no more than are awaited; and it was asked so often, for 20 ms
    -- each time; so often none came, and it was never asked again after a fault;
    pub left : Loses before.beside.links after.beside.links (links_of events ++ cut_links cut)
    pub came : Grows before.beside.came after.beside.came (links_of events ++ cut_links cut)
    pub within : IsWithin terms.sessions (length (links_of events) + length (cut_links cut))
    pub asks : ℕ
    pub asked : Grows before.beside.waits after.beside.waits (replicate asks WAIT_MS)
    pub idle : ℕ
    pub quiet : RoseBy idle before.beside.quiets after.beside.quiets
    pub answered : AreAnswered asks (length (links_of events) + length (cut_links cut)) idle cut end
    -- for each that isn't unstarted the spawner took one job, in order, with that link, this hub, a pass that was split in
    -- this call, these limits and turns, this policy, and a journal of this prefix and of the number of its own pass; each that has
    -- no job was turned away;
    pub jobs : Grows before.beside.jobs after.beside.jobs (jobs_of events)
    pub fates : AreFates begins talk before.hub terms before.beside.pass after.beside.pass events
    -- a journal was begun for each number that was drawn for a link, under this prefix, in order, and no other;
    pub begun : Grows before.beside.begun after.beside.begun (begun_of terms.prefix events ++ cut_begun terms.prefix cut)
    -- no more jobs came back than the spawner's count rose by;
    pub returned : RoseBy (returned_of events) before.beside.unstarted after.beside.unstarted
    -- each job that ended was one that was out, and those that didn't were still out when the hub was stopped; these ended after
    -- it, and none is out at last;
    pub out : OutAfter works [] events still
    pub late_out : OutAfter works still late []
    pub only_ends : links_of late ≡ []
    pub gathered : after.beside.out ≡ []
    -- the spawner gave back one end for each job that had been out before, and then the ends of these, in this order, and nothing
    -- more;
    pub earlier : List (SessionEnd L C N)
    pub one_each : length earlier ≡ length before.beside.out
    pub given_back : Grows before.beside.given_back after.beside.given_back (earlier ++ (ends_of events ++ ends_of late))
    -- the hub's own pass drew one number for each link, took in the callers that came back and those of the jobs that ended,
    -- in this order, and then stopped the hub, or found it stopped;
    pub went : Went before.hub before.beside.pass (length (links_of events) + length (cut_links cut)) (callers_of events ++ cut_callers cut)
        (stop_made (number_of before.beside.pass) stop) at_stop
    -- then it took in the callers of the jobs that had still been out; where none had, it is as the stop left it;
    pub joined : Passed before.hub at_stop (callers_of late) None after.beside.pass
    pub same : late ≡ [] → after.beside.pass ≡ at_stop
    pub stopped : StopAnswers after.beside.pass stop
    -- and the numbers that it drew are those of the passes that were split, in order;
    pub drew : drawn_list after.beside.pass ≡ drawn_list before.beside.pass ++ (numbers_of events ++ cut_numbers cut)
    -- all that the callers of the jobs that ended before it entered stands in the history that the stop found, so before the Stop;
    pub stop_last : AllStand (found_history (stop_made (number_of before.beside.pass) stop) after.beside.pass) events
    -- the own journal has the line of the Stop, if this call made it, and nothing more; or a first part of that line, where it
    -- wasn't put;
    pub records : Records before.held after.held (stop_notes (number_of before.beside.pass) stop) lost
    pub has_line : HasLine (stop_notes (number_of before.beside.pass) stop) lost
    -- and the end says what the stop answered, and how many links have no job.
    pub ends : EndsSo terms.sessions events cut still stop lost end
