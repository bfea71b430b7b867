-- How long a node waits between the turns of a run for an application.
use Rattle.std.specs.Prelude.{◌≡◌, ◌⊎◌, ℕ, Bool, if◌then◌else◌, List, [], ◌∷◌, Option, Some, None, unwrap_or, ⊤}
use Rattle.bsc_edge.specs.declared.said.Said.{Said}
use Rattle.bsc_edge.specs.Told.{Grows}
use Rattle.bsc_node.specs.declared.node_event.NodeEvent.{NodeEvent}
use Rattle.bsc_node.specs.declared.action.Action.{Action}
use Rattle.bsc_node_run.specs.declared.due.Due.{Due}
use Rattle.bsc_node_run.specs.declared.news.News.{News}
use Rattle.bsc_node_run.specs.Moments.{Moment, RunMoment, moment}
use Rattle.bsc_node_run.specs.Resting.{longest_rest}
use Rattle.bsc_node_run.specs.Running.{DontFall, IsEmpty}
use Rattle.bsc_node_run.specs.Turning.{Turn}
use Rattle.bsc_node_run.specs.Worlds.{Admitting, World}
use Rattle.bsc_application.specs.Asking.{IsBatch, is_full}

-- How long is waited behind a turn with these requests, where this is left to be told of links: not at all where something is, or
-- where as many requests were taken as may be; and else 50 ms, or until something comes.
abbrev pub pause_after : List Due → List News → ℕ
pause_after batch [] = if is_full batch then 0 else longest_rest
pause_after batch (news ∷ more) = 0

-- How long is waited before a turn; before the first not at all.
abbrev pub pause_before : Option ℕ → List Due → List News → ℕ
pause_before None batch waiting = 0
pause_before (Some start) batch waiting = pause_after batch waiting

module _ {N L : Type 0} (goes : N → ℕ → NodeEvent → List Action → N → Type 0) (talk : L → Option (List Said)) (listens : Bool) where
  -- Turns at these times, each behind a wait of this length, by the requests of the turn before and by what of the links was left
  -- to be told. The last turn may have been broken off, or not have been begun.
  abbrev pub Paused : List ℕ → List ℕ → Option ℕ → List Due → Moment N L → Type 0
  Paused [] [] start last before = ⊤
  Paused [] (wait ∷ []) start last before = wait ≡ pause_before start last before.hands.world.waiting
  Paused (now ∷ times) (wait ∷ waits) start last before = (wait ≡ pause_before start last before.hands.world.waiting)
      × (((times ≡ []) × (waits ≡ []))
      ⊎ ((batch : List Due) × (p : N) × (x : World L) × (mid : Admitting L) × IsBatch batch
      × Turn goes talk now start batch [] listens before (moment p x mid)
      × Paused times waits (Some (unwrap_or start now)) batch (moment p x mid)))
  Paused times waits start last before = ⊥

  -- How a node waited in a run for an application, whatever ended it: once before each turn, by the readings of the clock and the
  -- waits that were asked for, each as far as it is told.
  abbrev pub HasPaused : RunMoment N L → Option (List ℕ) → Option (List ℕ) → Option (List ℕ) → Type 0
  HasPaused before told asked asked' =
      (times waits : List ℕ) × (first : World L) × IsEmpty before.out.dialled before.out.written first × DontFall 0 times
      × Grows before.out.readings told times × Grows asked asked' waits
      × Paused times waits None [] (moment before.node first before.out.door)
