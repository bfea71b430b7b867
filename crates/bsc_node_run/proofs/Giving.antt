-- What a node is told, from what its steps did.
-- It serves the clauses of `dispatch`.
use Rattle.std.proofs.Common.{◌≡◌, ℕ, Bool, List, Option, refl, subst}
use Rattle.bsc_edge.specs.declared.said.Said.{Said}
use Rattle.bsc_node.specs.declared.action.Action.{Action}
use Rattle.bsc_node.specs.declared.node_event.NodeEvent.{NodeEvent}
use Rattle.bsc_node_run.specs.Drawing.{Drawing, Draws, GoesDrawing, at_rest}
use Rattle.bsc_node_run.specs.Performing.{Carries}
use Rattle.bsc_node_run.specs.Turning.{GivesWord, Gives, draws}
use Rattle.bsc_node_run.specs.Worlds.{World}

module _ {N W L : Type 0} (goes : N → ℕ → NodeEvent → List Action → N → Type 0) (gives : W → Option ℕ → W → Type 0) (faults : W → ℕ) (talk : L → Option (List Said)) (now : ℕ) where
  -- A node at rest is told this, and no word is drawn by that; it waits for a word where it has drawn one.
  pub gives_at_rest : (e : NodeEvent) (n p : N) (words : W) (m : Drawing N W) (w x v : World L) (actions : List Action) (b : Bool) → b ≡ draws actions
      → goes n now e actions p → Carries talk actions w x → GivesWord (GoesDrawing goes (Draws gives faults)) talk now b (record { node = p; words = words; awaits = b }) x m v
      → Gives (GoesDrawing goes (Draws gives faults)) talk now e (at_rest n words) w m v
  gives_at_rest e n p words m w x v actions b is g k a = (
    actions,
    record { node = p; words = words; awaits = b },
    x,
    (g, refl, is),
    k,
    subst (λ (c : Bool). GivesWord (GoesDrawing goes (Draws gives faults)) talk now c (record { node = p; words = words; awaits = b }) x m v) is a,
  )
