-- A run for an application that a fault stops: what was done up to there, and what the application gave that the node wasn't told.
use Rattle.std.specs.Prelude.{◌≡◌, ◌≤◌, ℕ, ◌⊎◌, Bool, false, List, [], ◌∷◌, ◌++◌, length, map, Option, Some, None, unwrap_or}
use Rattle.bsc_edge.specs.declared.said.Said.{Said}
use Rattle.bsc_edge.specs.Told.{Grows}
use Rattle.bsc_node.specs.declared.node_event.NodeEvent.{NodeEvent}
use Rattle.bsc_node.specs.declared.action.Action.{Action}
use Rattle.bsc_node_run.specs.declared.due.Due.{Due}
use Rattle.bsc_node_run.specs.Moments.{Hands, Moment, Outside, RunMoment, in_hands, moment}
use Rattle.bsc_node_run.specs.Running.{DontFall, IsEmpty}
use Rattle.bsc_node_run.specs.Stopping.{TurnStops}
use Rattle.bsc_node_run.specs.Turning.{Turn}
use Rattle.bsc_node_run.specs.Worlds.{Admitting, World, Same}
use Rattle.bsc_application.specs.declared.live_terms.LiveTerms.{LiveTerms}
use Rattle.bsc_application.specs.Asking.{IsBatch, answers_to}
use Rattle.bsc_application.specs.Living.{Answered}

module _ {N L : Type 0} (goes : N → ℕ → NodeEvent → List Action → N → Type 0) (talk : L → Option (List Said)) (listens : Bool) where
  -- Turns at these times, each with these requests. The last of them stopped; or all went through, and before the next there was no
  -- memory to take one request more: these were taken already, and no turn was made with them.
  abbrev pub LiveStop : List ℕ → List (List Due) → List NodeEvent → Option ℕ → Moment N L → Hands L → Type 0
  LiveStop [] [] taken start before after =
      (before.hands.world.finished ≡ false) × Same after.world before.hands.world × (after.door ≡ before.hands.door)
  LiveStop (now ∷ times) (batch ∷ batches) taken start before after = (before.hands.world.finished ≡ false) × IsBatch batch
      × (((times ≡ []) × (batches ≡ []) × (taken ≡ []) × TurnStops goes talk now start batch listens before after)
      ⊎ ((p : N) × (x : World L) × (mid : Admitting L)
      × Turn goes talk now start batch [] listens before (moment p x mid)
      × LiveStop times batches taken (Some (unwrap_or start now)) (moment p x mid) after))
  LiveStop times batches taken start before after = ⊥

  -- A run that a fault stopped. All that the application gave are the requests of these turns, and the ones behind them.
  pub record LiveStops (turns : ℕ) (before : RunMoment N L) (after : Outside L) (answered answered' : Answered) : Type 0 where
    pub times : List ℕ
    pub batches : List (List Due)
    pub taken : List NodeEvent
    pub first : World L
    pub last : World L
    pub empty : IsEmpty before.out.dialled before.out.written first
    pub went : LiveStop times batches taken None (moment before.node first before.out.door) (in_hands last after.door)
    pub asked : Grows answered answered' (answers_to batches ++ map Some taken)
    pub dials : last.dialled ≡ after.dialled
    pub holds : last.held ≡ after.written
    pub readings : Grows before.out.readings after.readings times
    pub rise : DontFall 0 times
    pub within : length times ≤ turns

  -- A run that ended by a fault: for want of memory before anything was done or asked, or later.
  abbrev pub LiveFails : ℕ → RunMoment N L → Outside L → Answered → Answered → Type 0
  LiveFails turns before after answered answered' =
      ((after ≡ before.out) × (answered' ≡ answered)) ⊎ LiveStops turns before after answered answered'

module _ {N L : Type 0} (goes : N → ℕ → NodeEvent → List Action → N → Type 0) (talk : L → Option (List Said)) where
  -- A run by these terms that ended by a fault.
  abbrev pub LiveBreaks : LiveTerms → RunMoment N L → Outside L → Answered → Answered → Type 0
  LiveBreaks terms before after answered answered' = LiveFails goes talk terms.listens terms.turns before after answered answered'
