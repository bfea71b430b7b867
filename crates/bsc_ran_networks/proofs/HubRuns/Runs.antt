-- The run of a hub that was served.
-- It serves the clauses of `hub_runs_are`.
use Rattle.std.proofs.Common.{⊎_elim, ◌≡◌, ◌≢◌, ◌⊎◌, ℕ, zero, suc, List, [], ◌∷◌, Option, Some, None, refl, ap, sym, subst, ◌∙◌}
use Rattle.std.specs.List.{AllByRecursion}
use Rattle.std.specs.Prelude.{slice_get}
use Rattle.bsc_history.specs.declared.call.Call.TheVariants.{Forward, Stop}
use Rattle.bsc_history.specs.declared.entry.Entry.{Entry}
use Rattle.bsc_history.specs.declared.limits.About.{About}
use Rattle.bsc_history.specs.Laws.{Apart}
use Rattle.bsc_history.specs.Marks.{entries}
use Rattle.bsc_turn.specs.declared.pass.Pass.{Pass}
use Rattle.bsc_turn.specs.Passes.{number_of, seen}
use Rattle.bsc_hub.specs.declared.hub.Hub.{Hub}
use Rattle.bsc_hub.specs.Calls.{stop_made}
use Rattle.bsc_hub.specs.Passing.{about_of, found_history}
use Rattle.bsc_edge.specs.declared.notice.Notice.{Notice}
use Rattle.bsc_edge.specs.declared.said.Said.{Said}
use Rattle.bsc_session.specs.declared.job.SessionJob.{SessionJob}
use Rattle.bsc_session.specs.declared.session_end.SessionEnd.{SessionEnd}
use Rattle.bsc_session.specs.Jobs.{Worked, terms_in}
use Rattle.bsc_session.specs.Standings.{Terms as SessionTerms}
use Rattle.bsc_serve.specs.Alone.{AllButStopAreOfJobs, HasEndedAtLast, IsOfJob, JobsAreApart, JobsEndAtLast}
use Rattle.bsc_serve.specs.Events.{AreFates, Event, arrived, ended, jobs_of}
use Rattle.bsc_serve.specs.Fates.{IsJobOf, returned, spent, started}
use Rattle.bsc_serve.specs.Terms.{Terms}
use Rattle.bsc_network_of_runs.specs.Hubs.{IsCallerOf, SessionOf}
use Rattle.bsc_network_of_runs.specs.Serving.{ServingGivesSessions}
use Rattle.bsc_ran_networks.specs.HubRuns.Runs.{AreSessionsOf, HubRunsAre, InPairs, IsSessionOf}

-- ---- two lists in pairs

pair_at : {A B : Type 0} (R : A → B → Type 0) (xs : List A) (ys : List B) → InPairs R xs ys → (k : ℕ) (x : A) → slice_get xs k ≡ Some x → (y : B) × (slice_get ys k ≡ Some y) × R x y
pair_at R [] ys all zero x at = absurd (let bad : None ≡ Some x = at in cc)
pair_at R [] ys all (suc k) x at = absurd (let bad : None ≡ Some x = at in cc)
pair_at R (z ∷ xs) [] all k x at = absurd all
pair_at R (z ∷ xs) (y ∷ ys) all zero x at = (y, refl, subst (λ w. R w y) (let g : Some z ≡ Some x = at in cc) all.0)
pair_at R (z ∷ xs) (y ∷ ys) all (suc k) x at = pair_at R xs ys all.1 k x at

pairs_differ : {A B : Type 0} (R : A → B → Type 0) (f : A → ℕ) (g : B → ℕ) → ((x : A) (y : B) → R x y → g y ≡ f x) → (n m : ℕ) → m ≡ n → (xs : List A) (ys : List B) → InPairs R xs ys
    → AllByRecursion (λ x. n ≢ f x) xs → AllByRecursion (λ y. m ≢ g y) ys
pairs_differ R f g so n m e [] [] all d = tt
pairs_differ R f g so n m e [] (y ∷ ys) all d = absurd all
pairs_differ R f g so n m e (x ∷ xs) [] all d = absurd all
pairs_differ R f g so n m e (x ∷ xs) (y ∷ ys) all d = ((λ bad. d.0 (sym e ∙ bad ∙ so x y all.0)), pairs_differ R f g so n m e xs ys all.1 d.1)

pairs_apart : {A B : Type 0} (R : A → B → Type 0) (f : A → ℕ) (g : B → ℕ) → ((x : A) (y : B) → R x y → g y ≡ f x) → (xs : List A) (ys : List B) → InPairs R xs ys → Apart f xs → Apart g ys
pairs_apart R f g so [] [] all d = tt
pairs_apart R f g so [] (y ∷ ys) all d = absurd all
pairs_apart R f g so (x ∷ xs) [] all d = absurd all
pairs_apart R f g so (x ∷ xs) (y ∷ ys) all d = (pairs_differ R f g so (f x) (g y) (so x y all.0) xs ys all.1 d.0, pairs_apart R f g so xs ys all.1 d.1)

module _ {L C N : Type 0} (talk : L → Option (List Said)) (faults : L → ℕ) (notices : L → Option (List Notice)) (readings : C → Option (List ℕ))
    (held : N → Option (List ℕ)) (unput : N → ℕ) (begins : Option (List ℕ) → ℕ → N → Type 0) where
  abbrev Works : SessionJob L C N → SessionEnd L C N → Type 0
  Works = Worked talk faults notices readings held unput

  abbrev Same : (a : About) (H : List Entry) → List (SessionJob L C N) → List (SessionOf a H) → Type 0
  Same a H js ss = AreSessionsOf talk faults notices readings held unput js ss

  -- ---- each job gives a session

  session_of : ServingGivesSessions → (h : Hub) (terms : Terms) (p x q : Pass) (G : List Entry) (l : L) (j : SessionJob L C N) → IsJobOf begins h terms p x l j → HasEndedAtLast Works G q j
      → (s : SessionOf (about_of h) (entries (seen q))) × IsSessionOf talk faults notices readings held unput j s
  session_of gives h terms p x q G l j i d =
      let k = gives (terms_in j) _ _ d.0.ended (seen q) d.1.served (record { hub = refl; caller = refl; new = i.pass.new.0; since = d.3; all = d.2 }) in
      subst (λ (g : Hub). (s : SessionOf (about_of g) (entries (seen q))) × IsSessionOf talk faults notices readings held unput j s) i.hub
      (k.0, record { left = d.0; worked = d.1; terms = k.1; said = k.2; ended = k.3 })

  sessions_of : ServingGivesSessions → (h : Hub) (terms : Terms) (p x q : Pass) (G : List Entry) (events : List (Event L C N)) → AreFates begins talk h terms p x events
      → AllByRecursion (HasEndedAtLast Works G q) (jobs_of events) → (ss : List (SessionOf (about_of h) (entries (seen q)))) × Same (about_of h) (entries (seen q)) (jobs_of events) ss
  sessions_of gives h terms p x q G [] f d = ([], tt)
  sessions_of gives h terms p x q G (arrived l (started j) ∷ more) f d =
      let one = session_of gives h terms p x q G l j f.0 d.0 in
      let rest = sessions_of gives h terms p x q G more f.1 d.1 in
      (one.0 ∷ rest.0, (one.1, rest.1))
  sessions_of gives h terms p x q G (arrived l (returned e) ∷ more) f d = sessions_of gives h terms p x q G more f.1 d
  sessions_of gives h terms p x q G (arrived l spent ∷ more) f d = sessions_of gives h terms p x q G more f.1 d
  sessions_of gives h terms p x q G (ended j e ∷ more) f d = sessions_of gives h terms p x q G more f d

  caller_of : (a : About) (H : List Entry) (js : List (SessionJob L C N)) (ss : List (SessionOf a H)) → Same a H js ss → (n : ℕ) → IsOfJob js n → IsCallerOf ss n
  caller_of a H js ss all n i =
      let r = pair_at (λ (j : SessionJob L C N) (s : SessionOf a H). IsSessionOf talk faults notices readings held unput j s) js ss all i.0 i.1 i.2 in
      (i.0, r.0, r.1, ap (λ (t : SessionTerms). t.caller) r.2.terms ∙ i.3)

  apart_too : (a : About) (H : List Entry) (js : List (SessionJob L C N)) (ss : List (SessionOf a H)) → Same a H js ss
      → Apart (λ (j : SessionJob L C N). number_of j.pass) js → Apart (λ (s : SessionOf a H). s.terms.caller) ss
  apart_too a H = pairs_apart (λ (j : SessionJob L C N) (s : SessionOf a H). IsSessionOf talk faults notices readings held unput j s)
      (λ (j : SessionJob L C N). number_of j.pass) (λ (s : SessionOf a H). s.terms.caller)
      (λ j s same. ap (λ (t : SessionTerms). t.caller) same.terms)

  -- ---- the run

  pub hub_runs_are : ServingGivesSessions → AllButStopAreOfJobs Works begins talk → JobsEndAtLast Works begins talk → JobsAreApart Works begins talk
      → HubRunsAre talk faults notices readings held unput begins
  hub_runs_are gives of_jobs have_ended are_apart terms before after end first mine s =
      let p = before.beside.pass in
      let q = after.beside.pass in
      let a : About = about_of before.hub in
      let H : List Entry = entries (seen q) in
      let k = sessions_of gives before.hub terms p q q (found_history (stop_made (number_of p) s.stop) q) s.events s.fates (have_ended terms before after end s) in (
        record {
          about = a;
          history = H;
          sessions = k.0;
          legal = s.joined.caller.1;
          apart = apart_too a H (jobs_of s.events) k.0 k.1 (are_apart terms before after end s);
          forwarders = λ front rest e sender m is call.
              ⊎_elim
              (λ stop. absurd (let bad : Forward sender m ≡ Stop = sym call ∙ stop in cc))
              (λ i. caller_of a H (jobs_of s.events) k.0 k.1 e.caller i)
              (of_jobs terms before after end first mine s front rest e is);
        },
        record { about = refl; history = refl; sessions = k.1 },
      )
