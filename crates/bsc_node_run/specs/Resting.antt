-- How long a node waits between the turns of a run.
use Rattle.std.specs.Prelude.{◌≡◌, ◌⊎◌, ℕ, ◌-◌, min, Bool, List, [], ◌∷◌, Option, Some, None, unwrap_or, ⊤}
use Rattle.bsc_edge.specs.declared.said.Said.{Said}
use Rattle.bsc_edge.specs.Told.{Grows}
use Rattle.bsc_node.specs.declared.node_event.NodeEvent.{NodeEvent}
use Rattle.bsc_node.specs.declared.action.Action.{Action}
use Rattle.bsc_node_run.specs.declared.bounds.TheConstants.{LONGEST_REST_MS}
use Rattle.bsc_node_run.specs.declared.due.Due.{Due}
use Rattle.bsc_node_run.specs.declared.news.News.{News}
use Rattle.bsc_node_run.specs.Moments.{Moment, RunMoment, moment}
use Rattle.bsc_node_run.specs.Running.{DontFall, IsEmpty}
use Rattle.bsc_node_run.specs.Turning.{Turn}
use Rattle.bsc_node_run.specs.Worlds.{Admitting, World}

-- No wait is longer, in milliseconds.
abbrev pub longest_rest : ℕ
longest_rest = LONGEST_REST_MS

-- How long it is, once so much time has passed, until the first of these lines of the script; and 50 ms at most.
abbrev pub until_next : ℕ → List Due → ℕ
until_next passed [] = longest_rest
until_next passed (d ∷ lines) = min longest_rest (d.at - passed)

-- How long is waited when so much time has passed, where these lines of the script are left and this is new of links: not at all
-- where something is new, and else until the next line.
abbrev pub rest_after : ℕ → List Due → List News → ℕ
rest_after passed left [] = until_next passed left
rest_after passed left (news ∷ more) = 0

-- How long is waited before a turn, by the times of the first turn and of the one before: before the first not at all.
abbrev pub rest_before : Option ℕ → ℕ → List Due → List News → ℕ
rest_before None newest left waiting = 0
rest_before (Some start) newest left waiting = rest_after (newest - start) left waiting

module _ {N L : Type 0} (goes : N → ℕ → NodeEvent → List Action → N → Type 0) (talk : L → Option (List Said)) (listens : Bool) where
  -- Turns at these times, each behind a wait of this length, by what of the script and of the links was left to be told before it.
  -- The last of them may have been broken off.
  abbrev pub Rested : List ℕ → List ℕ → Option ℕ → ℕ → List Due → Moment N L → Type 0
  Rested [] [] start newest script before = ⊤
  Rested (now ∷ times) (wait ∷ waits) start newest script before = (wait ≡ rest_before start newest script before.hands.world.waiting)
      × (((times ≡ []) × (waits ≡ []))
      ⊎ ((rest : List Due) × (p : N) × (x : World L) × (mid : Admitting L)
      × Turn goes talk now start script rest listens before (moment p x mid)
      × Rested times waits (Some (unwrap_or start now)) now rest (moment p x mid)))
  Rested times waits start newest script before = ⊥

  -- How a node waited in a run, whatever ended it: once before each turn, by the readings of the clock and the waits that were
  -- asked for, each as far as it is told.
  abbrev pub HasRested : List Due → RunMoment N L → Option (List ℕ) → Option (List ℕ) → Option (List ℕ) → Type 0
  HasRested script before told asked asked' =
      (times waits : List ℕ) × (first : World L) × IsEmpty before.out.dialled before.out.written first × DontFall 0 times
      × Grows before.out.readings told times × Grows asked asked' waits
      × Rested times waits None 0 script (moment before.node first before.out.door)
