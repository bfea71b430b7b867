-- Each hub that the command made has had a run.
-- It serves the clauses of `hubs_ran`.
use Rattle.std.proofs.Common.{inl, inr, ◌≡◌, ◌⊎◌, ℕ, List, [], ◌∷◌, ◌++◌, Option, Some, None, Result, Ok, Err, refl, ap, sym, subst, ◌∙◌, arith, append-nil}
use Rattle.std.specs.Arc.{arc_value}
use Rattle.bsc_history.specs.declared.counts.Counts.{Counts}
use Rattle.bsc_history.specs.declared.entry.Entry.{Entry}
use Rattle.bsc_history.specs.declared.told.AlreadyStopped.{AlreadyStopped}
use Rattle.bsc_history.specs.declared.told.Told.{Told}
use Rattle.bsc_history.specs.Legality.{Legal}
use Rattle.bsc_history.specs.Marks.{entries}
use Rattle.bsc_turn.specs.declared.pass.Pass.{Pass}
use Rattle.bsc_turn.specs.Passes.{drawn_list, number_of, own_list, seen}
use Rattle.bsc_hub.specs.declared.hub.Hub.{Hub}
use Rattle.bsc_hub.specs.Calls.{stop_made}
use Rattle.bsc_hub.specs.Passing.{Passed, about_of}
use Rattle.bsc_hub.specs.Whole.{IsFirst}
use Rattle.bsc_hub.proofs.Following.{passed_none}
use Rattle.bsc_edge.specs.declared.begun.Begun.{Begun as BegunCall}
use Rattle.bsc_edge.specs.declared.notice.Notice.{Notice}
use Rattle.bsc_edge.specs.declared.said.Said.{Said}
use Rattle.bsc_edge.specs.Told.{Grows}
use Rattle.bsc_session.specs.Notes.Notes.{HasLine, Note, NotesHaveOctets}
use Rattle.bsc_session.specs.declared.job.SessionJob.{SessionJob}
use Rattle.bsc_session.specs.declared.session_end.SessionEnd.{SessionEnd}
use Rattle.bsc_session.specs.Jobs.{Worked}
use Rattle.bsc_serve.specs.declared.end.ServeEnd.TheVariants.{AcceptFault}
use Rattle.bsc_serve.specs.Serving.{Serving, StopAnswers, stop_notes}
use Rattle.bsc_serve.specs.Terms.{Terms}
use Rattle.bsc_serve.specs.Worlds.{ServeWorld, served_world}
use Rattle.bsc_hub_command.specs.declared.place.HubPlace.{HubPlace}
use Rattle.bsc_hub_command.specs.Served.{Begun, Bound, HubCourse, HubRuns, HubTelling, HubTerms, HubWorld, StopsAlone, Titling, Unbegun, telling, terms_of}
use Rattle.bsc_network_of_runs.specs.Hubs.{HubRun}
use Rattle.bsc_ran_networks.specs.HubRuns.Commands.{HubsRan, IsRunBy}
use Rattle.bsc_ran_networks.specs.HubRuns.Runs.{AreSessionsOf, HubRunsAre}

line_there : (notes : List Note) → HasLine notes None
line_there [] = tt
line_there (n ∷ notes) = tt

stop_has_octets : (n : ℕ) (stop : Result (Told Counts) AlreadyStopped) → NotesHaveOctets (stop_notes n stop)
stop_has_octets n (Ok t) = (tt, tt)
stop_has_octets n (Err already) = tt

grows_none : {A : Type 0} (old new : Option (List A)) → new ≡ old → Grows old new []
grows_none old None e = tt
grows_none None (Some ys) e = absurd (let bad : Some ys ≡ None = e in cc)
grows_none (Some xs) (Some ys) e = (let k : ys ≡ xs = (let g : Some ys ≡ Some xs = e in cc) in k ∙ sym (append-nil xs))

no_middle : (l front rest : List Entry) (e : Entry) → l ≡ [] → l ≡ front ++ e ∷ rest → ⊥
no_middle l [] rest e none is = (let k : e ∷ rest ≡ [] = sym is ∙ none in cc)
no_middle l (x ∷ front) rest e none is = (let k : x ∷ (front ++ e ∷ rest) ≡ [] = sym is ∙ none in cc)

module _ {L C N : Type 0} (talk : L → Option (List Said)) (faults : L → ℕ) (notices : L → Option (List Notice)) (readings : C → Option (List ℕ))
    (held : N → Option (List ℕ)) (unput : N → ℕ) (begins : Option (List ℕ) → ℕ → N → Type 0) where
  abbrev Works : SessionJob L C N → SessionEnd L C N → Type 0
  Works = Worked talk faults notices readings held unput

  abbrev Tells : HubTelling L C N
  Tells = telling Works begins talk held unput

  -- what is beside a hub's own pass where nothing is told and no job is out
  abbrev bare : Pass → ServeWorld L C N
  bare p = record { pass = p; links = None; came = None; waits = None; quiets = 0; begun = None; jobs = None; given_back = None; out = []; unstarted = 0 }

  -- a hub that its first pass stopped, and nothing else, was served with no link
  abbrev alone : (h : Hub) (terms : Terms) (p q : Pass) (stop : Result (Told Counts) AlreadyStopped) → Passed h p [] (stop_made (number_of p) stop) q → StopAnswers q stop
      → Serving Works begins talk (record terms { sessions = None }) (served_world h None (bare p)) (served_world h None (bare q)) AcceptFault
  alone h terms p q stop w answers = record {
    events = [];
    cut = None;
    still = [];
    stop = stop;
    at_stop = q;
    late = [];
    lost = None;
    cut_last = tt;
    cut_so = tt;
    hub = refl;
    left = tt;
    came = tt;
    within = tt;
    asks = 0;
    asked = tt;
    idle = 0;
    quiet = inl (omega arith);
    answered = inl (omega arith);
    begun = tt;
    jobs = tt;
    fates = tt;
    returned = inl (omega arith);
    out = refl;
    late_out = refl;
    only_ends = refl;
    gathered = refl;
    earlier = [];
    one_each = refl;
    given_back = tt;
    went = w;
    joined = passed_none h q w.caller;
    same = λ none. refl;
    stopped = answers;
    drew = w.drawn refl ∙ sym (append-nil (drawn_list p));
    stop_last = tt;
    records = (tt, stop_has_octets (number_of p) stop);
    has_line = line_there (stop_notes (number_of p) stop);
    ends = refl;
  }

  -- the run of a hub with no session
  abbrev RunsBare : Hub → Pass → Type 0
  RunsBare h q = (r : HubRun) × (r.about ≡ about_of h) × (r.history ≡ entries (seen q)) × AreSessionsOf talk faults notices readings held unput [] r.sessions

  stopped_bare : HubRunsAre talk faults notices readings held unput begins → (h : Hub) (terms : Terms) (p q : Pass) → IsFirst p → own_list p ≡ []
      → StopsAlone (record { hub = h; first = p; last = q }) → RunsBare h q
  stopped_bare are h terms p q first mine x =
      let k = are _ _ _ _ first mine (alone h terms p q x.0 x.1 x.2) in
      (k.0, k.1.about, k.1.history, k.1.sessions)

  unseen_bare : (h : Hub) (p q : Pass) → Legal (about_of h) (entries (seen p)) → seen p ≡ [] → q ≡ p → RunsBare h q
  unseen_bare h p q legal none same =
      let nothing : entries (seen q) ≡ [] = ap (λ (x : Pass). entries (seen x)) same ∙ ap entries none in (
        record {
          about = about_of h;
          history = entries (seen q);
          sessions = [];
          legal = subst (λ (x : Pass). Legal (about_of h) (entries (seen x))) (sym same) legal;
          apart = tt;
          forwarders = λ front rest e sender m is call. absurd (no_middle (entries (seen q)) front rest e nothing is);
        },
        refl,
        refl,
        tt,
      )

  -- ---- what the command makes of a hub

  module _ (asked : HubTerms) (place : HubPlace N) (before after : HubWorld L C N) (s : ℕ) (x : HubRuns Tells asked place before after s) where
    abbrev Ran : Type 0
    Ran = (r : HubRun) × IsRunBy talk faults notices readings held unput begins asked before after x.last r

    abbrev course : HubCourse
    course = record { hub = arc_value x.hub; first = x.first; last = x.last }

    bare_ran : RunsBare (arc_value x.hub) x.last → after.jobs ≡ before.jobs → Ran
    bare_ran k same = (
      k.0,
      record { about = k.1 ∙ x.about; history = k.2; jobs = []; taken = grows_none before.jobs after.jobs same; sessions = k.3 },
    )

    first_is : IsFirst x.first
    first_is = (x.new.0, x.new.3, x.new.4)

    stopped_ran : HubRunsAre talk faults notices readings held unput begins → StopsAlone course → after.jobs ≡ before.jobs → Ran
    stopped_ran are stops same = bare_ran (stopped_bare are (arc_value x.hub) (terms_of asked) x.first x.last first_is x.new.2 stops) same

    bound_ran : HubRunsAre talk faults notices readings held unput begins → (calls : Option (List BegunCall)) (titled held' : Option (List ℕ))
        → Bound Tells course asked titled held' (record before { begun = calls }) after s → Ran
    bound_ran are calls titled held' b =
        let k = are _ _ _ b.end first_is x.new.2 b.serving in
        (k.0, record { about = k.1.about ∙ x.about; history = k.1.history; jobs = _; taken = b.serving.jobs; sessions = k.1.sessions })

    titling_ran : HubRunsAre talk faults notices readings held unput begins → (calls : Option (List BegunCall)) (begun own : N)
        → Titling Tells course asked begun own (record before { begun = calls }) after s → Ran
    titling_ran are calls begun own (inl u) = stopped_ran are u.stops u.untouched.jobs
    titling_ran are calls begun own (inr (titled, put, inl b)) = bare_ran (unseen_bare (arc_value x.hub) x.first x.last x.caller.1 x.new.1 b.0.pass) b.0.jobs
    titling_ran are calls begun own (inr (titled, put, inr b)) = bound_ran are calls titled (held own) b

    ran : HubRunsAre talk faults notices readings held unput begins → Unbegun course asked place.own before after s ⊎ Begun Tells course asked place.own before after s → Ran
    ran are (inl u) = stopped_ran are u.stops u.untouched.jobs
    ran are (inr b) = titling_ran are b.calls b.begun b.own b.went

  pub hubs_ran : HubRunsAre talk faults notices readings held unput begins → HubsRan talk faults notices readings held unput begins
  hubs_ran are asked place before after s x = ran asked place before after s x are x.went
