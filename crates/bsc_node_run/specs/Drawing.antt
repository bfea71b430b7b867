-- The words that a node draws: each is drawn by one call, and is what the node is told next.
use Rattle.std.specs.Prelude.{◌≡◌, ℕ, Bool, true, false, not, ◌&&◌, List, [], ◌∷◌, Option, Some, None, Result, Ok, Err}
use Rattle.bsc_outside.specs.Faults.{HasRisen}
use Rattle.bsc_node.specs.declared.node_event.NodeEvent.{NodeEvent}
use Rattle.bsc_node.specs.declared.node_event.NodeEvent.TheVariants.{Random, NoRandom}
use Rattle.bsc_node.specs.declared.action.Action.{Action}
use Rattle.bsc_node_run.specs.Turning.{draws}

-- the word that a call gave, where it gave one
abbrev pub word_in : {E : Type 0} → Result ℕ E → Option ℕ
word_in (Ok word) = Some word
word_in (Err fault) = None

-- What a call gives of some words. One that is to fail gives none, and all are left. Any other gives the first, and the others
-- are left; where there is none, it gives none, and none is left.
abbrev pub GivesNext : Bool → List ℕ → Option ℕ → List ℕ → Type 0
GivesNext true words word left = (word ≡ None) × (left ≡ words)
GivesNext false words (Some word) left = words ≡ word ∷ left
GivesNext false words None left = (words ≡ []) × (left ≡ [])

-- A node, who draws its words, and whether the node waits for one.
pub record Drawing (N W : Type 0) : Type 0 where
  pub node : N
  pub words : W
  pub awaits : Bool

-- No word is waited for.
abbrev pub at_rest : {N W : Type 0} → N → W → Drawing N W
at_rest node words = record { node = node; words = words; awaits = false }

-- A word is waited for.
abbrev pub awaiting : {N W : Type 0} → Drawing N W → Drawing N W
awaiting d = record { node = d.node; words = d.words; awaits = true }

module _ {W : Type 0} (gives : W → Option ℕ → W → Type 0) (faults : W → ℕ) where
  -- One call drew this word; or it drew none, and the count of faults rose.
  abbrev pub Draws : NodeEvent → W → W → Type 0
  Draws (Random word) before after = gives before (Some word) after
  Draws NoRandom before after = gives before None after × HasRisen (faults before) (faults after)
  Draws event before after = ⊥

-- A word is drawn exactly where one is waited for.
abbrev pub DrawsIf : {W : Type 0} → (NodeEvent → W → W → Type 0) → Bool → NodeEvent → W → W → Type 0
DrawsIf drawn true event before after = drawn event before after
DrawsIf drawn false event before after = after ≡ before

module _ {N W : Type 0} (goes : N → ℕ → NodeEvent → List Action → N → Type 0) (drawn : NodeEvent → W → W → Type 0) where
  -- A node at an event. Where it waits for a word, the event is that word, or that there is none. It waits for one once it
  -- has drawn one.
  abbrev pub GoesDrawing : Drawing N W → ℕ → NodeEvent → List Action → Drawing N W → Type 0
  GoesDrawing d now event actions f =
      goes d.node now event actions f.node × DrawsIf drawn d.awaits event d.words f.words × (f.awaits ≡ (not d.awaits && draws actions))
