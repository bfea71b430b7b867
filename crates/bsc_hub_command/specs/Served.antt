-- What serving a hub by its settings comes to.
use Rattle.std.specs.Prelude.{◌≡◌, ◌≢◌, ◌==◌, if◌then◌else◌, Bool, ℕ, ◌⊎◌, true, false, List, [], ◌∷◌, Option, Some, None, Result, option_map}
use Rattle.std.specs.declared.alloc.Global.{Global}
use Rattle.std.specs.declared.sync.Arc.{Arc}
use Rattle.std.specs.Arc.{arc_value}
use Rattle.std.specs.Io.KnownBytes.{Appends}
use Rattle.bsc_outside.specs.Faults.{HasRisen, PutsPrefix}
use Rattle.bsc_policy.specs.declared.policy.Policy.{Policy}
use Rattle.bsc_history.specs.declared.counts.Counts.{Counts}
use Rattle.bsc_history.specs.declared.told.AlreadyStopped.{AlreadyStopped}
use Rattle.bsc_history.specs.declared.told.Told.{Told}
use Rattle.bsc_turn.specs.declared.pass.Pass.{Pass}
use Rattle.bsc_turn.specs.Passes.{drawn_list, ended_callers, number_of, own_list, seen}
use Rattle.bsc_hub.specs.declared.hub.Hub.{Hub}
use Rattle.bsc_hub.specs.Calls.{stop_made}
use Rattle.bsc_hub.specs.Passing.{IsCaller, Passed, about_of}
use Rattle.bsc_edge.specs.declared.begun.Begun.{Begun as BegunCall}
use Rattle.bsc_edge.specs.declared.said.Said.{Said}
use Rattle.bsc_edge.specs.Told.{Grows, Stays, ToldIs}
use Rattle.bsc_player.specs.LastLines.{EndsWith, RanOut, SaysOrRunsOut}
use Rattle.bsc_session.specs.declared.job.SessionJob.{SessionJob}
use Rattle.bsc_session.specs.declared.limits.SessionLimits.{SessionLimits}
use Rattle.bsc_session.specs.declared.session_end.SessionEnd.{SessionEnd}
use Rattle.bsc_session.specs.Jobs.{policy_of}
use Rattle.bsc_settings.specs.declared.hub.HubSettings.{HubSettings}
use Rattle.bsc_settings.specs.Parts.{identity_of, limits_of, times_of}
use Rattle.bsc_serve.specs.declared.end.ServeEnd.{ServeEnd}
use Rattle.bsc_serve.specs.declared.end.ServeEnd.TheVariants.{Done, StoppedBefore, Requested, AcceptFault, JournalFault, NoMemory}
use Rattle.bsc_serve.specs.declared.parts.ServingParts.{ServingParts}
use Rattle.bsc_serve.specs.declared.terms.ServeTerms.{ServeTerms}
use Rattle.bsc_serve.specs.Asking.{AskedSo, Asking}
use Rattle.bsc_serve.specs.Events.{begun_call}
use Rattle.bsc_serve.specs.Serving.{Serving, StopAnswers}
use Rattle.bsc_serve.specs.Terms.{Terms, all_terms}
use Rattle.bsc_serve.specs.Worlds.{ServeWorld, Stock, served_world}
use Rattle.bsc_journal.specs.Saying.{IsHubLine, IsIdentity}
use Rattle.bsc_hub_command.specs.declared.asked.HubAsked.{HubAsked}
use Rattle.bsc_hub_command.specs.declared.place.HubPlace.{HubPlace}
use Rattle.bsc_hub_command.specs.HubLines.{hub_line, hub_text}
use Rattle.bsc_hub_command.specs.Lines.{end_text, link_line}

-- What is written of the end of serving, and its status.
abbrev pub SaysEnd : ServeEnd → ℕ → Option (List ℕ) → Option (List ℕ) → Type 0
SaysEnd (Done c u) s before after = SaysOrRunsOut s 0 before after (end_text u (Some c))
SaysEnd (StoppedBefore at u) s before after = SaysOrRunsOut s 0 before after (end_text u None)
SaysEnd (Requested c u) s before after = SaysOrRunsOut s 0 before after (end_text u c)
SaysEnd AcceptFault s before after = EndsWith s 6 before after link_line
SaysEnd JournalFault s before after = (s ≡ 4) × (after ≡ before)
SaysEnd NoMemory s before after = RanOut s before after

-- the status of a hub that has ended, by whether lines of its journals were lost, and the status without that: 4 in place of 0
abbrev pub status_with : Bool → ℕ → ℕ
status_with are_lost said = if are_lost then (if said == 0 then 4 else said) else said

-- Files of journals were limited to this length, where one was asked for, and else to none.
abbrev pub LimitedTo : Option ℕ → Option (List ℕ) → Option (List ℕ) → Type 0
LimitedTo None before after = after ≡ before
LimitedTo (Some octets) before after = Grows before after (octets ∷ [])

-- the limits of a hub's sessions
abbrev pub session_limits : HubSettings → SessionLimits
session_limits v = record { times = times_of v }

-- what serving a hub of these settings is asked for
abbrev pub terms_by : HubSettings → Option ℕ → ServeTerms
terms_by v sessions = record { limits = session_limits v; turns = v.turns; sessions = sessions }

-- What there is outside the command at a moment, each as far as it is told: the links that the acceptor has left, those that
-- came so far, the waits that it was asked for, its count of those in which none came, the port that it is bound to, and its count
-- of faults; the jobs that the spawner has taken, what is left of those that it gave back, those of them that are out, and its
-- count of jobs that weren't started; the calls that began a journal, the count of journals that couldn't be begun and of their lines
-- that were lost, the answers whether some were, and the lengths to which files were limited; what was written; and what the asker
-- tells of itself.
pub record HubWorld (L C N : Type 0) : Type 0 where
  pub links : Option (List L)
  pub came : Option (List L)
  pub waits : Option (List ℕ)
  pub quiets : ℕ
  pub port : Option (Option ℕ)
  pub faults : ℕ
  pub jobs : Option (List (SessionJob L C N))
  pub given_back : Option (List (SessionEnd L C N))
  pub out : List (SessionJob L C N)
  pub unstarted : ℕ
  pub begun : Option (List BegunCall)
  pub unbegun : ℕ
  pub lost : Option (List Bool)
  pub limits : Option (List ℕ)
  pub written : Option (List ℕ)
  pub asking : Asking

-- What an acceptor tells of itself, each as far as it tells it.
pub record Door (L : Type 0) : Type 0 where
  -- the links that it has left
  pub links : Option (List L)
  -- those that came so far
  pub came : Option (List L)
  -- the waits that it was asked for
  pub waits : Option (List ℕ)
  -- its count of those in which none came
  pub quiets : ℕ
  -- the port that it is bound to
  pub port : Option (Option ℕ)
  -- its count of faults
  pub faults : ℕ

module _ {A L : Type 0} where
  -- The same of an acceptor, by what tells it.
  abbrev pub door_by : (A → Option (List L)) → (A → Option (List L)) → (A → Option (List ℕ)) → (A → ℕ) → (A → Option (Option ℕ)) → (A → ℕ) → A → Door L
  door_by links came waits quiets port faults a = record { links = links a; came = came a; waits = waits a; quiets = quiets a; port = port a; faults = faults a }

module _ {P L C N : Type 0} where
  -- What is seen of a spawner, by what tells it.
  abbrev pub stock_by : (P → Option (List (SessionJob L C N))) → (P → Option (List (SessionEnd L C N))) → (P → List (SessionJob L C N)) → (P → ℕ) → P → Stock L C N
  stock_by jobs given_back out unstarted p = record { jobs = jobs p; given_back = given_back p; out = out p; unstarted = unstarted p }

-- What journals tell of themselves, each as far as they tell it.
pub record Books : Type 0 where
  -- the calls that began one
  pub begun : Option (List BegunCall)
  -- their count of those that couldn't be begun, and of lines that were lost
  pub unbegun : ℕ
  -- the answers whether lines were lost
  pub lost : Option (List Bool)
  -- the lengths to which files were limited
  pub limits : Option (List ℕ)

module _ {J : Type 0} where
  -- The same of journals, by what tells it.
  abbrev pub books_by : (J → Option (List BegunCall)) → (J → ℕ) → (J → Option (List Bool)) → (J → Option (List ℕ)) → J → Books
  books_by begun unbegun lost limits j = record { begun = begun j; unbegun = unbegun j; lost = lost j; limits = limits j }

module _ {A C P J L N : Type 0} where
  -- The same of the parts that a hub is served by, as these tell it, of what was written, and of the asker.
  abbrev pub world_by : (A → Door L) → (P → Stock L C N) → (J → Books) → ServingParts A C P J → Option (List ℕ) → Asking → HubWorld L C N
  world_by door stock books parts written asking = record {
    links = (door parts.acceptor).links;
    came = (door parts.acceptor).came;
    waits = (door parts.acceptor).waits;
    quiets = (door parts.acceptor).quiets;
    port = (door parts.acceptor).port;
    faults = (door parts.acceptor).faults;
    jobs = (stock parts.spawner).jobs;
    given_back = (stock parts.spawner).given_back;
    out = (stock parts.spawner).out;
    unstarted = (stock parts.spawner).unstarted;
    begun = (books parts.journals).begun;
    unbegun = (books parts.journals).unbegun;
    lost = (books parts.journals).lost;
    limits = (books parts.journals).limits;
    written = written;
    asking = asking;
  }

-- What the jobs of sessions, the journals and the links tell of themselves.
pub record HubTelling (L C N : Type 0) : Type 1 where
  -- what may be left of a job
  pub works : SessionJob L C N → SessionEnd L C N → Type 0
  -- whether a sink is the journal of a prefix and of a pass's number
  pub begins : Option (List ℕ) → ℕ → N → Type 0
  -- what was said on a link, as far as it tells it
  pub talk : L → Option (List Said)
  -- the octets that a journal holds, as far as it tells them
  pub held : N → Option (List ℕ)
  -- a journal's count of faults
  pub unput : N → ℕ

module _ {L C N : Type 0} where
  abbrev pub telling : (SessionJob L C N → SessionEnd L C N → Type 0) → (Option (List ℕ) → ℕ → N → Type 0) → (L → Option (List Said)) → (N → Option (List ℕ)) → (N → ℕ)
      → HubTelling L C N
  telling works begins talk held unput = record { works = works; begins = begins; talk = talk; held = held; unput = unput }

-- a sink is there that has failed
abbrev pub HasFailed : {N : Type 0} → (N → ℕ) → Option N → Type 0
HasFailed unput own = (sink : _) × (own ≡ Some sink) × (unput sink ≢ 0)

-- What a hub is served by: its settings, the policy in them, if there is one, how many sessions are awaited, the prefix of the
-- journals, if there are journals, and to how many octets their files are limited, if they are.
pub record HubTerms : Type 0 where
  pub settings : HubSettings
  pub policy : Option Policy
  pub sessions : Option ℕ
  pub prefix : Option (List ℕ)
  pub limit : Option ℕ

-- what a hub is served by, of what the functions of the command hand down
abbrev pub terms_in : HubAsked → HubTerms
terms_in asked = record {
  settings = asked.settings.now;
  policy = policy_of asked.policy.now;
  sessions = asked.sessions;
  prefix = option_map (λ p. p.now) asked.prefix;
  limit = asked.limit;
}

abbrev pub terms_of : HubTerms → Terms
terms_of asked = all_terms (terms_by asked.settings asked.sessions) asked.prefix asked.policy

-- A hub, with its own pass at first and at last.
pub record HubCourse : Type 0 where
  pub hub : Hub
  pub first : Pass
  pub last : Pass

-- The hub was stopped by its own pass, or had been before, as that pass has then seen; and nothing else was asked of it.
abbrev pub StopsAlone : HubCourse → Type 0
StopsAlone k =
    (stop : Result (Told Counts) AlreadyStopped)
    × Passed k.hub k.first [] (stop_made (number_of k.first) stop) k.last × StopAnswers k.last stop

module _ {L C N : Type 0} where
  -- what serving a hub sees of it, beside the hub's own pass
  abbrev pub with_pass : Pass → HubWorld L C N → ServeWorld L C N
  with_pass p w = record {
    pass = p;
    links = w.links;
    came = w.came;
    waits = w.waits;
    quiets = w.quiets;
    begun = w.begun;
    jobs = w.jobs;
    given_back = w.given_back;
    out = w.out;
    unstarted = w.unstarted;
  }

  -- Nothing was asked of the acceptor, the spawner and the asker, nor whether lines of journals were lost.
  pub record Untouched (before after : HubWorld L C N) : Type 0 where
    pub links : after.links ≡ before.links
    pub came : after.came ≡ before.came
    pub waits : after.waits ≡ before.waits
    pub quiets : after.quiets ≡ before.quiets
    pub port : after.port ≡ before.port
    pub faults : after.faults ≡ before.faults
    pub jobs : after.jobs ≡ before.jobs
    pub given_back : after.given_back ≡ before.given_back
    pub out : after.out ≡ before.out
    pub unstarted : after.unstarted ≡ before.unstarted
    pub lost : after.lost ≡ before.lost
    pub asking : after.asking ≡ before.asking

  -- What is said where the own journal failed: the status is 4, and nothing is written; or there was no memory.
  abbrev pub SaysLost : HubWorld L C N → HubWorld L C N → Type 0 → ℕ → Type 0
  SaysLost before after failed s =
      ((s ≡ 4) × failed × (after.written ≡ before.written)) ⊎ RanOut s before.written after.written

  -- The own journal couldn't be begun, and no other was: the hub was stopped.
  pub record Unbegun (k : HubCourse) (asked : HubTerms) (own : Option N) (before after : HubWorld L C N) (s : ℕ) : Type 0 where
    pub none : own ≡ None
    pub untouched : Untouched before after
    pub begun : Grows before.begun after.begun (begun_call asked.prefix false (number_of k.first) ∷ [])
    pub stops : StopsAlone k
    pub says : SaysLost before after (HasRisen before.unbegun after.unbegun) s

  -- The port wasn't bound: the acceptor's count of faults rose, it was asked for no link, no journal was begun, and the pass, the
  -- spawner and the asker are as they were.
  pub record NotBound (k : HubCourse) (before after : HubWorld L C N) (s : ℕ) : Type 0 where
    pub pass : k.last ≡ k.first
    pub links : Stays before.links after.links
    pub came : Stays before.came after.came
    pub waits : Stays before.waits after.waits
    pub jobs : after.jobs ≡ before.jobs
    pub given_back : after.given_back ≡ before.given_back
    pub out : after.out ≡ before.out
    pub unstarted : after.unstarted ≡ before.unstarted
    pub begun : after.begun ≡ before.begun
    pub lost : after.lost ≡ before.lost
    pub asking : after.asking ≡ before.asking
    pub failed : HasRisen before.faults after.faults
    pub says : EndsWith s 6 before.written after.written link_line

module _ {L C N : Type 0} (tells : HubTelling L C N) where
  -- The first line of the own journal, which was begun as one sink and is another since, wasn't put: the hub was stopped, and no
  -- other journal was begun.
  pub record Untitled (k : HubCourse) (begun own : N) (before after : HubWorld L C N) (s : ℕ) : Type 0 where
    pub part : PutsPrefix (tells.held begun) (tells.held own) (hub_line (about_of k.hub))
    pub untouched : Untouched before after
    pub unasked : after.begun ≡ before.begun
    pub stops : StopsAlone k
    pub says : SaysLost before after (HasRisen (tells.unput begun) (tells.unput own)) s

  -- The port of the settings was bound, the hub was served with their limits, turns and policy, and what is written tells how
  -- that ended. Its own journal held the first line then, and what serving puts into it came behind that. The end is that of a stop
  -- that was asked for only where the asker asked; and the asker was told of the end once, when all was written. It was asked once
  -- whether lines of journals were lost: where some were, the status is 4 in place of 0.
  pub record Bound (k : HubCourse) (asked : HubTerms) (titled held' : Option (List ℕ)) (before after : HubWorld L C N) (s : ℕ) : Type 0 where
    pub end : ServeEnd
    pub bound : ToldIs after.port (Some asked.settings.port)
    pub serving : Serving tells.works tells.begins tells.talk (terms_of asked) (served_world k.hub titled (with_pass k.first before))
        (served_world k.hub held' (with_pass k.last after)) end
    pub said : ℕ
    pub says : SaysEnd end said before.written after.written
    pub are_lost : Bool
    pub counted : Grows before.lost after.lost (are_lost ∷ [])
    pub status : s ≡ status_with are_lost said
    pub looks : AskedSo (own_list k.first) before.waits after.waits before.asking (record after.asking { endings = before.asking.endings }) end
    pub told : Grows before.asking.endings after.asking.endings (after.written ∷ [])

  -- The own journal was begun as one sink and is another since. Its first line wasn't put; or it was, and then the port wasn't
  -- bound, or the hub was served.
  abbrev pub Titling : HubCourse → HubTerms → N → N → HubWorld L C N → HubWorld L C N → ℕ → Type 0
  Titling k asked begun own before after s =
      Untitled k begun own before after s
      ⊎ ((titled : Option (List ℕ)) × Appends (tells.held begun) titled (hub_line (about_of k.hub))
      × ((NotBound k before after s × (tells.held own ≡ titled)) ⊎ Bound k asked titled (tells.held own) before after s))

  -- The own journal was begun, as the journal of this prefix and of the number of the own pass, and it is kept; these were the calls
  -- that began a journal then, and what went on since began those of the sessions.
  pub record Begun (k : HubCourse) (asked : HubTerms) (kept : Option N) (before after : HubWorld L C N) (s : ℕ) : Type 0 where
    pub begun : N
    pub own : N
    pub of_pass : tells.begins asked.prefix (number_of k.first) begun
    pub fresh : tells.unput begun ≡ 0
    pub keeps : kept ≡ Some own
    pub calls : Option (List BegunCall)
    pub called : Grows before.begun calls (begun_call asked.prefix true (number_of k.first) ∷ [])
    pub went : Titling k asked begun own (record before { begun = calls }) after s

  -- A hub of the settings was made, and it and its pass, number 0 at first, with nothing seen and no number drawn, are kept in the
  -- place; its own journal couldn't be begun, or it was begun and is kept there too, and this is what became of both.
  pub record HubRuns (asked : HubTerms) (place : HubPlace N) (before after : HubWorld L C N) (s : ℕ) : Type 0 where
    pub hub : Arc Hub Global
    pub first : Pass
    pub last : Pass
    pub made : place.kept.hub ≡ Some hub
    pub keeps : place.kept.pass ≡ Some last
    pub caller : IsCaller (arc_value hub) first
    pub new : (number_of first ≡ 0) × (seen first ≡ []) × (own_list first ≡ []) × (ended_callers first ≡ []) × (drawn_list first ≡ [])
    pub about : about_of (arc_value hub) ≡ record { hub = identity_of asked.settings; limits = limits_of asked.settings }
    -- who audits its own journal reads the first line as this hub;
    pub said : IsHubLine (hub_text (about_of (arc_value hub))) (about_of (arc_value hub))
    -- and its identity has 26 octets, which say it;
    pub identity : IsIdentity (about_of (arc_value hub)).hub
    -- the files of its journals were limited as was asked for;
    pub limited : LimitedTo asked.limit before.limits after.limits
    pub went : Unbegun (record { hub = arc_value hub; first = first; last = last }) asked place.own before after s
        ⊎ Begun (record { hub = arc_value hub; first = first; last = last }) asked place.own before after s
