-- What happens while a hub is served, in order.
use Rattle.std.specs.Prelude.{◌≡◌, ℕ, ◌+◌, Bool, true, List, [], ◌∷◌, ◌++◌, length, map, Option, ⊤}
use Rattle.bsc_history.specs.declared.entry.Entry.{Entry}
use Rattle.bsc_history.specs.Entries.{own}
use Rattle.bsc_turn.specs.declared.pass.Pass.{Pass}
use Rattle.bsc_turn.specs.declared.view.EndedCaller.{EndedCaller}
use Rattle.bsc_turn.specs.Effects.{ended_of}
use Rattle.bsc_turn.specs.Passes.{number_of, own_list, view_of}
use Rattle.bsc_hub.specs.declared.hub.Hub.{Hub}
use Rattle.bsc_edge.specs.declared.begun.Begun.{Begun}
use Rattle.bsc_edge.specs.declared.said.Said.{Said}
use Rattle.bsc_session.specs.declared.job.SessionJob.{SessionJob}
use Rattle.bsc_session.specs.declared.session_end.SessionEnd.{SessionEnd}
use Rattle.bsc_serve.specs.Fates.{Fate, IsFate, caller_in, job_in, returned, spent, started, unstarted_in}
use Rattle.bsc_serve.specs.Terms.{Terms}

-- A call that was to begin a journal under this prefix and with this number, and whether one came.
abbrev pub begun_call : Option (List ℕ) → Bool → ℕ → Begun
begun_call prefix came n = record { prefix = prefix; number = n; came = came }

-- A link left the acceptor, and this became of it; or a job that was out has ended, and this was left of it.
pub data Event (L C N : Type 0) : Type 0 where
  arrived : L → Fate (SessionJob L C N) → Event L C N
  ended : SessionJob L C N → SessionEnd L C N → Event L C N

module _ {L C N : Type 0} where
  -- The links, in the order in which they left the acceptor.
  abbrev pub links_of : List (Event L C N) → List L
  links_of [] = []
  links_of (arrived l f ∷ more) = l ∷ links_of more
  links_of (ended j d ∷ more) = links_of more

  -- What is left of the jobs that have ended, in the order in which the spawner gave it back.
  abbrev pub ends_of : List (Event L C N) → List (SessionEnd L C N)
  ends_of [] = []
  ends_of (arrived l f ∷ more) = ends_of more
  ends_of (ended j d ∷ more) = d ∷ ends_of more

  -- The jobs that were taken, in order.
  abbrev pub jobs_of : List (Event L C N) → List (SessionJob L C N)
  jobs_of [] = []
  jobs_of (arrived l f ∷ more) = job_in f ++ jobs_of more
  jobs_of (ended j d ∷ more) = jobs_of more

  -- The callers that the hub's own pass took in, in order: that of each job that came back, and that of each that has ended.
  abbrev pub callers_of : List (Event L C N) → List EndedCaller
  callers_of [] = []
  callers_of (arrived l f ∷ more) = caller_in f ++ callers_of more
  callers_of (ended j d ∷ more) = ended_of (view_of d.pass) ∷ callers_of more

  -- The numbers that the hub's own pass drew for the links, in order: that of the pass of each job that was taken, and that of
  -- the caller of each job that came back.
  abbrev pub numbers_in : Fate (SessionJob L C N) → List ℕ
  numbers_in (started j) = number_of j.pass ∷ []
  numbers_in (returned e) = e.number ∷ []
  numbers_in spent = []

  abbrev pub numbers_of : List (Event L C N) → List ℕ
  numbers_of [] = []
  numbers_of (arrived l f ∷ more) = numbers_in f ++ numbers_of more
  numbers_of (ended j d ∷ more) = numbers_of more

  -- The calls that began a journal, in order: one for each of these numbers, and each came.
  abbrev pub begun_of : Option (List ℕ) → List (Event L C N) → List Begun
  begun_of prefix events = map (begun_call prefix true) (numbers_of events)

  -- How many jobs came back.
  abbrev pub returned_of : List (Event L C N) → ℕ
  returned_of [] = 0
  returned_of (arrived l f ∷ more) = length (caller_in f) + returned_of more
  returned_of (ended j d ∷ more) = returned_of more

  -- How many links have no job.
  abbrev pub unstarted_of : List (Event L C N) → ℕ
  unstarted_of [] = 0
  unstarted_of (arrived l f ∷ more) = unstarted_in f + unstarted_of more
  unstarted_of (ended j d ∷ more) = unstarted_of more

  -- All that the callers of ended jobs entered stands in H: of each, its own list, as its pass had it at its end.
  abbrev pub AllStand : List Entry → List (Event L C N) → Type 0
  AllStand H [] = ⊤
  AllStand H (arrived l f ∷ more) = AllStand H more
  AllStand H (ended j d ∷ more) = (own H (number_of j.pass) ≡ own_list d.pass) × AllStand H more

  -- Which jobs are out, from before these events to behind them: one that was taken comes to them as the last; one that has
  -- ended was among them, is out no more, and this may be left of it.
  abbrev pub OutAfter : (SessionJob L C N → SessionEnd L C N → Type 0) → List (SessionJob L C N) → List (Event L C N) → List (SessionJob L C N)
      → Type 0
  OutAfter works out [] still = still ≡ out
  OutAfter works out (arrived l f ∷ more) still = OutAfter works (out ++ job_in f) more still
  OutAfter works out (ended j d ∷ more) still =
      (before : List (SessionJob L C N)) × (behind : List (SessionJob L C N))
      × (out ≡ before ++ j ∷ behind) × works j d × OutAfter works (before ++ behind) more still

module _ {L C N : Type 0} (begins : Option (List ℕ) → ℕ → N → Type 0) (talk : L → Option (List Said)) where
  -- What became of each link is as it may be, in a call that had the hub's own pass as p and left it as q.
  abbrev pub AreFates : Hub → Terms → Pass → Pass → List (Event L C N) → Type 0
  AreFates h terms p q [] = ⊤
  AreFates h terms p q (arrived l f ∷ more) = IsFate begins talk h terms p q l f × AreFates h terms p q more
  AreFates h terms p q (ended j d ∷ more) = AreFates h terms p q more
