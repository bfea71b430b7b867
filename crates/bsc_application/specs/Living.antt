-- A whole run of a node for an application: its turns, and what the node is asked in each.
use Rattle.std.specs.Prelude.{◌≡◌, ℕ, Bool, false, List, [], ◌∷◌, Option, Some, None, unwrap_or}
use Rattle.bsc_edge.specs.declared.said.Said.{Said}
use Rattle.bsc_edge.specs.Told.{Grows}
use Rattle.bsc_node.specs.declared.node_event.NodeEvent.{NodeEvent}
use Rattle.bsc_node.specs.declared.action.Action.{Action}
use Rattle.bsc_node_run.specs.declared.due.Due.{Due}
use Rattle.bsc_node_run.specs.declared.run_end.RunEnd.{RunEnd}
use Rattle.bsc_node_run.specs.Moments.{Moment, RunMoment, moment}
use Rattle.bsc_node_run.specs.Running.{DontFall, EndsSo, IsEmpty}
use Rattle.bsc_node_run.specs.Turning.{Turn}
use Rattle.bsc_node_run.specs.Worlds.{Admitting, World, Same}
use Rattle.bsc_application.specs.declared.live_terms.LiveTerms.{LiveTerms}
use Rattle.bsc_application.specs.Asking.{IsBatch, answers_to}

-- What an application has answered at a moment, where that is told.
abbrev pub Answered : Type 0
Answered = Option (List (Option NodeEvent))

module _ {N L : Type 0} (goes : N → ℕ → NodeEvent → List Action → N → Type 0) (talk : L → Option (List Said)) (listens : Bool) where
  -- Turns at these times, one after the other. In each the node is told all of these requests, in order, where in another run it is
  -- told what of its script is due; and none of them is left. No turn comes after one in which the node told that it has ended.
  abbrev pub LiveTurns : List ℕ → List (List Due) → Option ℕ → Moment N L → Moment N L → Type 0
  LiveTurns [] [] start before after =
      (after.node ≡ before.node) × Same after.hands.world before.hands.world × (after.hands.door ≡ before.hands.door)
  LiveTurns (now ∷ times) (batch ∷ batches) start before after =
      (p : N) × (x : World L) × (mid : Admitting L) × (before.hands.world.finished ≡ false) × IsBatch batch
      × Turn goes talk now start batch [] listens before (moment p x mid)
      × LiveTurns times batches (Some (unwrap_or start now)) (moment p x mid) after
  LiveTurns times batches start before after = ⊥

  -- A whole run. The application was asked before each turn until it had no request, or as many as may be were taken: these are
  -- all that it gave, in order, and each was told to the node in the turn before which it was given.
  pub record LiveRun (end : RunEnd) (turns : ℕ) (before after : RunMoment N L) (answered answered' : Answered) : Type 0 where
    pub times : List ℕ
    pub batches : List (List Due)
    pub first : World L
    pub last : World L
    pub empty : IsEmpty before.out.dialled before.out.written first
    pub went : LiveTurns times batches None (moment before.node first before.out.door) (moment after.node last after.out.door)
    pub asked : Grows answered answered' (answers_to batches)
    pub dials : last.dialled ≡ after.out.dialled
    pub holds : last.held ≡ after.out.written
    pub readings : Grows before.out.readings after.out.readings times
    pub rise : DontFall 0 times
    pub ends : EndsSo end turns times last.finished

module _ {N L : Type 0} (goes : N → ℕ → NodeEvent → List Action → N → Type 0) (talk : L → Option (List Said)) where
  -- A whole run by these terms, which came to this end.
  abbrev pub LivesTo : LiveTerms → RunMoment N L → RunMoment N L → Answered → Answered → RunEnd → Type 0
  LivesTo terms before after answered answered' end = LiveRun goes talk terms.listens end terms.turns before after answered answered'
