-- What is told to a node with all that it has in hand.
use Rattle.std.specs.Prelude.{◌≡◌, ℕ, List, Option}
use Rattle.bsc_edge.specs.declared.said.Said.{Said}
use Rattle.bsc_node.specs.declared.node_event.NodeEvent.{NodeEvent}
use Rattle.bsc_node.specs.declared.action.Action.{Action}
use Rattle.bsc_node_run.specs.declared.in_hand.InHand.{InHand}
use Rattle.bsc_node_run.specs.Drawing.{Drawing, Draws, GoesDrawing, at_rest}
use Rattle.bsc_node_run.specs.Worlds.{Dialling, World, world_of}

module _ {N K W L D : Type 0} where
  -- the node, and who draws its words
  abbrev pub node_in : InHand N K W L D → Drawing N W
  node_in h = at_rest h.node.now h.random.now

  -- the rest, by what dialers and sinks of their types tell
  abbrev pub world_in : (D → Dialling L) → (K → Option (List ℕ)) → InHand N K W L D → World L
  world_in dialled held h = world_of h.set.now (dialled h.dialer.now) (held h.sink.now)

  -- It has the same in hand.
  abbrev pub IsSameHand : InHand N K W L D → InHand N K W L D → Type 0
  IsSameHand old new = (new.node.ghost_name ≡ old.node.ghost_name) × (new.set.ghost_name ≡ old.set.ghost_name)
      × (new.sink.ghost_name ≡ old.sink.ghost_name) × (new.random.ghost_name ≡ old.random.ghost_name)
      × (new.dialer.ghost_name ≡ old.dialer.ghost_name)

module _ {N K W L D : Type 0} (goes : N → ℕ → NodeEvent → List Action → N → Type 0) (gives : W → Option ℕ → W → Type 0) (missed : W → ℕ)
    (talk : L → Option (List Said)) (dialled : D → Dialling L) (held : K → Option (List ℕ)) where
  -- So it went, for a node that draws its words.
  abbrev pub Went : ((Drawing N W → ℕ → NodeEvent → List Action → Drawing N W → Type 0) → (L → Option (List Said)) → Drawing N W → World L → Drawing N W → World L → Type 0)
      → InHand N K W L D → InHand N K W L D → Type 0
  Went part old new = part (GoesDrawing goes (Draws gives missed)) talk (node_in old) (world_in dialled held old) (node_in new) (world_in dialled held new)

  -- So it stopped.
  abbrev pub BrokeOff : ((Drawing N W → ℕ → NodeEvent → List Action → Drawing N W → Type 0) → (L → Option (List Said)) → Drawing N W → World L → World L → Type 0)
      → InHand N K W L D → InHand N K W L D → Type 0
  BrokeOff part old new = part (GoesDrawing goes (Draws gives missed)) talk (node_in old) (world_in dialled held old) (world_in dialled held new)
