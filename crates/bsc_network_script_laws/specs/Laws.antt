-- What a script comes to, in words of its network and not of lines.
use Rattle.std.specs.Prelude.{◌≡◌, ℕ, ◌+◌, List, [], ◌∷◌, ◌++◌, length, Some, None}
use Rattle.bsc_text.specs.Lines.{pieces_of}
use Rattle.bsc_player.specs.Playing.{piece_after}
use Rattle.bsc_network.specs.declared.timed_step.TimedStep.{TimedStep}
use Rattle.bsc_network.specs.declared.world_delivery.WorldDelivery.{WorldDelivery}
use Rattle.bsc_network.specs.Worlds.{World, new_world}
use Rattle.bsc_network.specs.Networks.{makes, dialled_at, delivered_at, deliveries}
use Rattle.bsc_network.specs.Courses.{IsCourse}
use Rattle.bsc_network_laws.specs.Deliveries.{DeliversWhatWasSent}
use Rattle.bsc_network_script.specs.Written.{step_text}
use Rattle.bsc_network_script.specs.Scripts.{State, nothing_yet, simulation, simulate_of}

-- ---- what stands after a script

-- What stands after some lines, with their ends, which come behind so many octets, where this stood before them: all of them are
-- accepted, or it stands before the first that is refused.
abbrev pub state_after : State → ℕ → List (List ℕ) → State
state_after s before [] = s
state_after s before (piece ∷ pieces) = elim (piece_after simulation s before piece) [
  | None ↦ s
  | Some out ↦ state_after out.state (before + length piece) pieces
]

-- What stands after a script, or before its first refused line: its hubs and nodes, and the steps that were made.
abbrev pub state_of : List ℕ → State
state_of o = state_after nothing_yet 0 (pieces_of o)

-- ---- its text

-- What some steps of a network write, one after the other, where this stands before them: which links each of them dials, and
-- what it delivers.
abbrev pub steps_text : World → List TimedStep → List ℕ
steps_text w [] = []
steps_text w (t ∷ steps) = step_text (dialled_at w t) (delivered_at w t) ++ steps_text (makes w t) steps

-- What some steps of a network deliver, one after the other, where this stands before them.
abbrev pub steps_delivered : World → List TimedStep → List WorldDelivery
steps_delivered w [] = []
steps_delivered w (t ∷ steps) = delivered_at w t ++ steps_delivered (makes w t) steps

-- The text of a script is what its steps write in the network of its hubs and nodes, one after the other. What the steps deliver,
-- one after the other, are the deliveries of that network.
pub record IsOfItsSteps (o : List ℕ) : Type 0 where
  pub written : (simulate_of o).text ≡ steps_text (new_world (state_of o).added) (state_of o).steps
  pub delivered : deliveries (state_of o).added (state_of o).steps ≡ steps_delivered (new_world (state_of o).added) (state_of o).steps

-- ---- its deliveries

-- The hubs and nodes of a script may be added and its steps may be made, and they deliver what was sent.
pub record DeliversItsSends (o : List ℕ) : Type 0 where
  pub course : IsCourse (state_of o).added (state_of o).steps
  pub sent : DeliversWhatWasSent (state_of o).added (state_of o).steps

-- ---- what is written of them

-- This is a first part of the text of a script, which is this one or a first part of it. It tells of its steps, and what they
-- deliver was sent.
pub record TellsWhatWasSent (o text : List ℕ) : Type 0 where
  pub read : List ℕ
  pub rest : List ℕ
  pub parts : o ≡ read ++ rest
  pub more : List ℕ
  pub front : (simulate_of read).text ≡ text ++ more
  pub steps : IsOfItsSteps read
  pub sent : DeliversItsSends read
