-- A hub that is served with two links, written out. There is one number for another caller. The job of the first link isn't
-- started and comes back; for the second there is no number left. Then the hub is stopped.
-- No clause needs it: worked examples.
use Rattle.std.proofs.Common.{◌≡◌, ◌≢◌, ℕ, zero, suc, ◌+◌, ◌≤◌, Bool, true, false, List, [], ◌∷◌, ◌++◌, length, Option, Some, None, Result, Ok, Err, inl, refl, sym, ap, subst, ◌∙◌}
use Rattle.std.proofs.Common.{arith, lit<, lit≤, append-nil, length-append}
use mathlib.Core.Option.{some, some-injective}
use lib.ListN.{get_elem?}
use Rattle.bsc_history.specs.declared.call.Call.TheVariants.{Stop}
use Rattle.bsc_history.specs.declared.counts.Counts.{Counts}
use Rattle.bsc_history.specs.declared.entry.Entry.{Entry}
use Rattle.bsc_history.specs.declared.limits.About.{About}
use Rattle.bsc_history.specs.declared.reply.Reply.TheVariants.{Counted}
use Rattle.bsc_history.specs.declared.told.AlreadyStopped.{AlreadyStopped}
use Rattle.bsc_history.specs.declared.told.Told.{Told}
use Rattle.bsc_history.specs.Legality.{Legal}
use Rattle.bsc_history.proofs.OnLiterals.{history_on_literals}
use Rattle.bsc_turn.specs.declared.pass.Pass.{Pass}
use Rattle.bsc_turn.specs.declared.view.EndedCaller.{EndedCaller}
use Rattle.bsc_turn.specs.declared.view.View.{View}
use Rattle.bsc_turn.specs.Effects.{IsConsistent}
use Rattle.bsc_turn.specs.Histories.{StartsWith, own_of}
use Rattle.bsc_desk.specs.Entries.{plain}
use Rattle.bsc_hub.specs.declared.hub.Hub.{Hub}
use Rattle.bsc_hub.specs.Calls.{stop_made}
use Rattle.bsc_hub.specs.Passing.{IsCaller, Passed, Went, about_of}
use Rattle.bsc_session.specs.declared.job.SessionJob.{SessionJob}
use Rattle.bsc_session.specs.declared.session_end.SessionEnd.{SessionEnd}
use Rattle.bsc_serve.specs.declared.end.ServeEnd.{ServeEnd}
use Rattle.bsc_serve.specs.declared.end.ServeEnd.TheVariants.{Done, Requested}
use Rattle.bsc_serve.specs.declared.session_look.SessionLook.{SessionLook}
use Rattle.bsc_serve.specs.Asking.{AskedSo, Asking, Looked, look_at}
use Rattle.bsc_serve.specs.Events.{Event, arrived, links_of}
use Rattle.bsc_edge.specs.declared.said.Said.{Said}
use Rattle.bsc_serve.specs.Fates.{IsTurnedAway, returned, spent}
use Rattle.bsc_serve.specs.Serving.{IsWithin, Loses, SaysStop, Serving, cut_links}
use Rattle.bsc_serve.specs.Terms.{Terms}
use Rattle.bsc_serve.specs.Worlds.{ServeWorld, ServedWorld, served_world}
use Rattle.std.specs.Prelude.{map, replicate}
use Rattle.std.proofs.lemmas.List.{length-map, length-replicate}
use Rattle.bsc_witnesses.proofs.Pieces.{unlike, hub_of, lawful}
use Rattle.bsc_witnesses.proofs.Passes.{view, knowing, is_pass, nobody_but_0, nothing_at, one_rises, one_up_to}

-- a hub of two callers, that of its own pass among them
abbrev small : About
small = record (hub_of 64) { limits = record ((hub_of 64).limits) { callers = 2 } }

abbrev none : Counts
none = record { joined = 0; replaced = 0; refused = 0; unicasts = 0; broadcasts = 0; appended = 0; dropped = 0; full = 0; missed = 0 }

abbrev stops : Entry
stops = record { caller = 0; call = Stop; looks = []; reply = Counted none }

stops-legal : Legal small (stops ∷ [])
unfolding history_on_literals
stops-legal = record { lawful = (lawful refl refl refl refl, tt) }

-- the answer of the stop, which is the first entry
abbrev stop : Result (Told Counts) AlreadyStopped
stop = Ok (record { at = 0; said = none })

-- the caller of the pass that was split for the first link
abbrev back : EndedCaller
back = record { number = 1; own = []; seen = []; loads = 0; drawn = [] }

-- what is asked of serving: two links
abbrev terms : Terms
terms = record { limits = record { times = record { connect_wait = 10000; disconnect_wait = 10000; heartbeat = 300000 } }; turns = 100; sessions = Some 2; prefix = None; policy = None }

-- No job has ended, and no journal was begun.
abbrev no_job : SessionJob ℕ ℕ ℕ → SessionEnd ℕ ℕ ℕ → Type 0
no_job job left = ⊥

abbrev no_journal : Option (List ℕ) → ℕ → ℕ → Type 0
no_journal prefix number journal = ⊥

-- Links 7 and 8 arrived.
abbrev events : List (Event ℕ ℕ ℕ)
events = arrived 7 (returned back) ∷ arrived 8 spent ∷ []

one_ended : (P : EndedCaller → Type 0) → P back → (i : ℕ) (e : EndedCaller) → get_elem? {A = EndedCaller} (back ∷ []) i ≡ some e → P e
one_ended P holds zero e at = subst P (some-injective back e at) holds
one_ended P holds (suc i) e at = absurd (nothing_at i e at)

module _ (h : Hub) (is : about_of h ≡ small) (p : Pass) where
  -- what the own pass knows at last: it made two loads, drew the number 1, and has the caller of that number
  abbrev stopped_view : View
  stopped_view = record (view h (plain stops ∷ []) (stops ∷ [])) { ended = back ∷ []; loaded = 2; loads = 2; drawn = 1 ∷ [] }

  abbrev first : Pass
  first = knowing h p (view h [] [])

  abbrev last : Pass
  last = knowing h p stopped_view

  stopped_consistent : IsConsistent stopped_view
  stopped_consistent = (
    refl,
    one_ended (λ (e : EndedCaller). (0 ≢ e.number) × (own_of (plain stops ∷ []) e.number ≡ e.own) × StartsWith (plain stops ∷ []) e.seen) (unlike 0 1 refl, refl, (plain stops ∷ [], refl)),
    lit≤ tt,
    one_ended (λ (e : EndedCaller). length e.drawn ≤ e.loads) (lit≤ tt),
    nobody_but_0 stopped_view (refl, tt),
    one_rises 1,
    one_up_to 2 1 (lit≤ tt),
  )

  last_is_caller : IsCaller h last
  last_is_caller = (is_pass h p stopped_view refl refl refl refl stopped_consistent, subst (λ (a : About). Legal a (stops ∷ [])) (sym is) stops-legal)

  -- the links, which wait at first and came at last
  abbrev before : ServeWorld ℕ ℕ ℕ
  before = record {
    pass = first;
    links = Some (7 ∷ 8 ∷ []);
    came = Some [];
    waits = Some [];
    quiets = 0;
    begun = None;
    jobs = Some [];
    given_back = Some [];
    out = [];
    unstarted = 0;
  }

  abbrev after : ServeWorld ℕ ℕ ℕ
  after = record {
    pass = last;
    links = Some [];
    came = Some (7 ∷ 8 ∷ []);
    waits = Some (20 ∷ 20 ∷ []);
    quiets = 0;
    begun = None;
    jobs = Some [];
    given_back = Some [];
    out = [];
    unstarted = 1;
  }

  went : Went h first 2 (back ∷ []) (stop_made 0 stop) last
  went = record {
    caller = last_is_caller;
    number = refl;
    grows = (plain stops ∷ [], refl);
    all_own = refl;
    takes_in = refl;
    makes = record { before = []; begins = ([], refl); ends = refl; place = refl; grew = refl };
    draws = refl;
    drawn = λ asked. absurd (unlike 2 0 refl asked);
  }

  rests : Passed h last [] None last
  rests = record {
    caller = last_is_caller;
    number = refl;
    grows = ([], refl);
    all_own = refl;
    takes_in = refl;
    makes = refl;
    draws = refl;
    drawn = λ asked. refl;
  }

  abbrev untold : ℕ → Option (List Said)
  untold l = None

  away : (l : ℕ) → IsTurnedAway untold l
  away l = record { left = l; closed = tt }

  serves_two : Serving no_job no_journal untold terms (served_world h None before) (served_world h None after) (Done none 2)
  unfolding history_on_literals
  serves_two = record {
    events = events;
    cut = None;
    still = [];
    stop = stop;
    at_stop = last;
    late = [];
    lost = None;
    cut_last = tt;
    cut_so = tt;
    hub = refl;
    left = refl;
    came = refl;
    within = lit≤ tt;
    asks = 2;
    asked = refl;
    idle = 0;
    quiet = inl (lit≤ tt);
    answered = inl refl;
    jobs = refl;
    fates = (((refl, refl), away 7), ((ap (λ (a : About). a.limits.callers) (sym is), away 8), tt));
    begun = tt;
    returned = inl (lit≤ tt);
    out = refl;
    late_out = refl;
    only_ends = refl;
    gathered = refl;
    earlier = [];
    one_each = refl;
    given_back = refl;
    went = went;
    joined = rests;
    same = λ none_late. refl;
    stopped = (refl, refl);
    drew = refl;
    stop_last = tt;
    records = (tt, (tt, tt));
    has_line = tt;
    ends = (refl, refl, refl, (0, refl), refl);
  }

-- ---- a stop that was asked for

abbrev unasked : Asking
unasked = record { looks = Some []; asked = 0; endings = Some [] }

abbrev asked_once : Asking
asked_once = record { looks = Some (look_at [] false ∷ look_at [] true ∷ []); asked = 1; endings = Some [] }

-- The second look found that the stop is asked for, behind one wait for a link.
asked_at_second : Looked [] (Some []) (Some (20 ∷ [])) unasked asked_once true
asked_at_second = record { asks = 1; waited = refl; looks = refl; rose = λ e. inl (lit< tt); later = lit≤ tt; endings = refl }

stops_on_request : AskedSo [] (Some []) (Some (20 ∷ [])) unasked asked_once (Requested (Some none) 0)
stops_on_request = record { is_asked = true; looked = asked_at_second; ends = tt }

says_counts : SaysStop (Some none) stop
says_counts = (0, refl)

-- A stop whose counts aren't told was made before.
says_no_counts : SaysStop None stop → ⊥
says_no_counts h = (let bad : ◌≡◌ {A = Result (Told Counts) AlreadyStopped} (Ok (record { at = 0; said = none })) (Err (record { at = h.0 })) = h.1 in cc)

-- No link was awaited behind a look that asked.
waits_on : Looked [] (Some []) (Some (20 ∷ 20 ∷ [])) unasked asked_once true → ⊥
waits_on l = twice l.asks l.waited l.looks
  where
    twice : (n : ℕ) → ◌≡◌ {A = List ℕ} (20 ∷ 20 ∷ []) (replicate n 20) → (look_at [] false ∷ look_at [] true ∷ []) ≡ map (look_at []) (replicate n false ++ true ∷ []) → ⊥
    twice n waited looks =
        let asks : 2 ≡ n = ap (λ (l : List ℕ). length l) waited ∙ length-replicate n 20 in
        let looked : 2 ≡ n + 1 =
        ap (λ (l : List SessionLook). length l) looks ∙ length-map (replicate n false ++ true ∷ []) (look_at [])
        ∙ length-append (replicate n false) (true ∷ []) ∙ ap (λ k. k + 1) (length-replicate n false) in
        omega (arith, asks, looked)

-- ---- what no serving comes to

module _ {L C N : Type 0} (works : SessionJob L C N → SessionEnd L C N → Type 0) (begins : Option (List ℕ) → ℕ → N → Type 0) (talk : L → Option (List Said)) where
  -- A job is still out.
  job_is_out : (t : Terms) (before after : ServedWorld L C N) (end : ServeEnd) (job : SessionJob L C N) (more : List (SessionJob L C N))
      → after.beside.out ≡ job ∷ more → Serving works begins talk t before after end → ⊥
  job_is_out t before after end job more out x = (let bad : job ∷ more ≡ [] = sym out ∙ x.gathered in cc)

  two_came : (came : List L) (one two : L) (had left : Option (List L)) → had ≡ Some (one ∷ two ∷ []) → left ≡ Some [] → Loses had left came → length came ≡ 2
  two_came came one two links left had none loses =
      let lost : one ∷ two ∷ [] ≡ came ++ [] =
      subst (λ (o : Option (List L)). Loses o (Some []) came) had (subst (λ (o : Option (List L)). Loses links o came) none loses) in
      sym (ap (λ (l : List L). length l) (append-nil came)) ∙ sym (ap (λ (l : List L). length l) lost)

  -- One link more left the acceptor than were awaited.
  too_many_links : (t : Terms) (before after : ServedWorld L C N) (end : ServeEnd) (one two : L) → t.sessions ≡ Some 1
      → before.beside.links ≡ Some (one ∷ two ∷ []) → after.beside.links ≡ Some [] → Serving works begins talk t before after end → ⊥
  too_many_links t before after end one two awaited had left x =
      let all : length (links_of x.events ++ cut_links x.cut) ≡ 2 = two_came (links_of x.events ++ cut_links x.cut) one two before.beside.links after.beside.links had left x.left in
      let within : length (links_of x.events) + length (cut_links x.cut) ≤ 1 =
      subst (λ (o : Option ℕ). IsWithin o (length (links_of x.events) + length (cut_links x.cut))) awaited x.within in
      omega (arith, all, within, length-append (links_of x.events) (cut_links x.cut))
