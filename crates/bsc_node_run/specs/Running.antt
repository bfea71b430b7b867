-- A whole run of a node: its turns.
use Rattle.std.specs.Prelude.{◌≡◌, ◌≤◌, ◌<◌, ◌^◌, ℕ, Bool, true, false, List, [], ◌∷◌, Option, Some, None, length, unwrap_or, ⊤}
use Rattle.bsc_edge.specs.declared.said.Said.{Said}
use Rattle.bsc_edge.specs.Told.{Grows}
use Rattle.bsc_node.specs.declared.link_name.LinkName.{LinkName}
use Rattle.bsc_node.specs.declared.node_event.NodeEvent.{NodeEvent}
use Rattle.bsc_node.specs.declared.action.Action.{Action}
use Rattle.bsc_node_run.specs.declared.due.Due.{Due}
use Rattle.bsc_node_run.specs.declared.run_end.RunEnd.{RunEnd}
use Rattle.bsc_node_run.specs.declared.run_end.RunEnd.TheVariants.{Finished, Spent}
use Rattle.bsc_node_run.specs.declared.run_terms.RunTerms.{RunTerms}
use Rattle.bsc_node_run.specs.Moments.{Moment, RunMoment, moment}
use Rattle.bsc_node_run.specs.Turning.{Turn}
use Rattle.bsc_node_run.specs.Worlds.{Admitting, Dialling, World, Same}

-- No links, and nothing new: this is the dialer, and this was written before.
pub record IsEmpty {L : Type 0} (before : Dialling L) (text : Option (List ℕ)) (w : World L) : Type 0 where
  pub link : (name : LinkName) → w.link name ≡ None
  pub arrived : w.arrived ≡ None
  pub due : w.due ≡ []
  pub waiting : w.waiting ≡ []
  pub finished : w.finished ≡ false
  pub dialled : w.dialled ≡ before
  pub held : w.held ≡ text

-- How a run ends whose turns were made at these times: with the turn in which the node told that it has ended, or after
-- as many turns as it may make.
abbrev pub EndsSo : RunEnd → ℕ → List ℕ → Bool → Type 0
EndsSo Finished turns times finished = finished ≡ true
EndsSo Spent turns times finished = (length times ≡ turns) × (finished ≡ false)

-- Readings of a clock don't fall, from this time on, and stay below 2^62.
abbrev pub DontFall : ℕ → List ℕ → Type 0
DontFall from [] = ⊤
DontFall from (t ∷ times) = (from ≤ t) × (t < 2 ^ 62) × DontFall t times

module _ {N L : Type 0} (goes : N → ℕ → NodeEvent → List Action → N → Type 0) (talk : L → Option (List Said)) (listens : Bool) where
  -- Turns at these times, one after the other. The script goes on in each where the one before left it, and its times
  -- count from the first turn. No turn comes after one in which the node told that it has ended.
  abbrev pub Turns : List ℕ → Option ℕ → List Due → Moment N L → Moment N L → Type 0
  Turns [] start script before after =
      (after.node ≡ before.node) × Same after.hands.world before.hands.world × (after.hands.door ≡ before.hands.door)
  Turns (now ∷ times) start script before after =
      (rest : List Due) × (p : N) × (x : World L) × (mid : Admitting L) × (before.hands.world.finished ≡ false)
      × Turn goes talk now start script rest listens before (moment p x mid)
      × Turns times (Some (unwrap_or start now)) rest (moment p x mid) after

  -- A whole run.
  pub record Run (end : RunEnd) (turns : ℕ) (script : List Due) (before after : RunMoment N L) : Type 0 where
    pub times : List ℕ
    pub first : World L
    pub last : World L
    pub empty : IsEmpty before.out.dialled before.out.written first
    pub went : Turns times None script (moment before.node first before.out.door) (moment after.node last after.out.door)
    pub dials : last.dialled ≡ after.out.dialled
    pub holds : last.held ≡ after.out.written
    pub readings : Grows before.out.readings after.out.readings times
    pub rise : DontFall 0 times
    pub ends : EndsSo end turns times last.finished

module _ {N L : Type 0} (goes : N → ℕ → NodeEvent → List Action → N → Type 0) (talk : L → Option (List Said)) where
  -- A whole run by these terms, which came to this end.
  abbrev pub RunsTo : RunTerms → RunMoment N L → RunMoment N L → RunEnd → Type 0
  RunsTo terms before after end = Run goes talk terms.listens end terms.turns terms.script.now before after
