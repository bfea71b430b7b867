-- Which run of a hub, as the theorem of networks takes it, one of serving a hub is.
use Rattle.std.specs.Prelude.{◌≡◌, ℕ, List, [], ◌∷◌, Option, ⊤}
use Rattle.bsc_history.specs.declared.entry.Entry.{Entry}
use Rattle.bsc_history.specs.declared.limits.About.{About}
use Rattle.bsc_history.specs.Marks.{entries}
use Rattle.bsc_turn.specs.Passes.{own_list, seen}
use Rattle.bsc_hub.specs.Passing.{about_of}
use Rattle.bsc_hub.specs.Whole.{IsFirst}
use Rattle.bsc_edge.specs.declared.notice.Notice.{Notice}
use Rattle.bsc_edge.specs.declared.said.Said.{Said}
use Rattle.bsc_session.specs.declared.job.SessionJob.{SessionJob}
use Rattle.bsc_session.specs.declared.session_end.SessionEnd.{SessionEnd}
use Rattle.bsc_session.specs.Jobs.{Worked, terms_in}
use Rattle.bsc_serve.specs.declared.end.ServeEnd.{ServeEnd}
use Rattle.bsc_serve.specs.Events.{jobs_of}
use Rattle.bsc_serve.specs.Serving.{Serving}
use Rattle.bsc_serve.specs.Terms.{Terms}
use Rattle.bsc_serve.specs.Worlds.{ServedWorld}
use Rattle.bsc_network_of_runs.specs.Hubs.{HubRun, SessionOf}

-- There are as many of these as of those, and this holds of each two in one place.
abbrev pub InPairs : {A B : Type 0} → (A → B → Type 0) → List A → List B → Type 0
InPairs R [] [] = ⊤
InPairs R [] (y ∷ ys) = ⊥
InPairs R (x ∷ xs) [] = ⊥
InPairs R (x ∷ xs) (y ∷ ys) = R x y × InPairs R xs ys

module _ {L C N : Type 0} (talk : L → Option (List Said)) (faults : L → ℕ) (notices : L → Option (List Notice)) (readings : C
    → Option (List ℕ))
    (held : N → Option (List ℕ)) (unput : N → ℕ) where
  -- The session is that of a job: this was left of the job when it was worked off, and the session has the terms of the serving
  -- call that the job made, the talk by which the link's grew in it until it was let go, and its answer.
  pub record IsSessionOf {a : About} {H : List Entry} (j : SessionJob L C N) (s : SessionOf a H) : Type 0 where
    pub left : SessionEnd L C N
    pub worked : Worked talk faults notices readings held unput j left
    pub terms : s.terms ≡ terms_in j
    pub said : s.talk ≡ worked.served.T
    pub ended : s.ended ≡ left.ended

  -- These sessions are those of the jobs, each of the job in its place.
  abbrev pub AreSessionsOf : {a : About} {H : List Entry} → List (SessionJob L C N) → List (SessionOf a H) → Type 0
  AreSessionsOf {a} {H} js ss = InPairs (λ (j : SessionJob L C N) (s : SessionOf a H). IsSessionOf j s) js ss

module _ {L C N : Type 0} (talk : L → Option (List Said)) (faults : L → ℕ) (notices : L → Option (List Notice)) (readings : C
    → Option (List ℕ))
    (held : N → Option (List ℕ)) (unput : N → ℕ) (begins : Option (List ℕ) → ℕ → N → Type 0) where
  -- The run is that of a hub which was served so: it is of this hub, its history is what the hub's own pass has seen at last, with
  -- the Stop, and its sessions are those of the jobs that the spawner took, in order.
  pub record IsRunOf (terms : Terms) (before after : ServedWorld L C N) (end : ServeEnd)
      (s : Serving (Worked talk faults notices readings held unput) begins talk terms before after end) (r : HubRun) : Type 0 where
    pub about : r.about ≡ about_of before.hub
    pub history : r.history ≡ entries (seen after.beside.pass)
    pub sessions : AreSessionsOf talk faults notices readings held unput (jobs_of s.events) r.sessions

  -- Where a hub's first pass, which had made no entry, served it, that is the run of a hub, however serving ended.
  abbrev pub HubRunsAre : Type 0
  HubRunsAre = (terms : Terms) (before after : ServedWorld L C N) (end : ServeEnd) → IsFirst before.beside.pass
      → own_list before.beside.pass ≡ []
      → (s : Serving (Worked talk faults notices readings held unput) begins talk terms before after end) → (r : HubRun)
      × IsRunOf terms before after end s r
