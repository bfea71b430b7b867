-- One turn in which the node is told requests.
-- It serves the clauses of `run_application`.
use Rattle.std.proofs.Common.{◌≡◌, ℕ, Bool, List, [], Option, subst}
use Rattle.bsc_edge.specs.declared.said.Said.{Said}
use Rattle.bsc_node.specs.declared.node_event.NodeEvent.{NodeEvent}
use Rattle.bsc_node.specs.declared.action.Action.{Action}
use Rattle.bsc_node_run.specs.declared.due.Due.{Due}
use Rattle.bsc_node_run.specs.Moments.{Hands, Moment}
use Rattle.bsc_node_run.specs.Stopping.{TurnStops}
use Rattle.bsc_node_run.specs.Turning.{Turn, passed_by}
use Rattle.bsc_application.specs.Asking.{AreAsked}
use Rattle.bsc_application.proofs.Asking.{nothing_left}

module _ {N L : Type 0} (goes : N → ℕ → NodeEvent → List Action → N → Type 0) (talk : L → Option (List Said)) (now : ℕ) (start : Option ℕ) (slice batch : List Due)
    (told : slice ≡ batch) (listens : Bool) (before : Moment N L) where
  -- A turn that is told what stands in this slice, where that is requests, is told these, and leaves none.
  pub told_turn : (rest : List Due) (after : Moment N L) → AreAsked batch → Turn goes talk now start slice rest listens before after → Turn goes talk now start batch [] listens before after
  told_turn rest after asked r = none_left (subst (λ (ds : List Due). Turn goes talk now start ds rest listens before after) told r)
    where
      none_left : Turn goes talk now start batch rest listens before after → Turn goes talk now start batch [] listens before after
      none_left t = subst (λ (left : List Due). Turn goes talk now start batch left listens before after)
          (nothing_left (passed_by start now) batch t.lines rest asked t.parts t.next) t

  -- The same of one that stopped.
  pub told_stop : (after : Hands L) → TurnStops goes talk now start slice listens before after → TurnStops goes talk now start batch listens before after
  told_stop after s = subst (λ (ds : List Due). TurnStops goes talk now start ds listens before after) told s
