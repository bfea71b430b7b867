-- For what a simulation stands: words of inner functions.
use Rattle.std.specs.Prelude.{◌≡◌, ◌≤◌, false, length}
use Rattle.bsc_script.specs.Running.{latest}
use Rattle.bsc_network.specs.Settings.{hubs, nodes}
use Rattle.bsc_world.specs.Standing.{WorldStands, clock_of, steps_made, is_spent}
use Rattle.bsc_simulate.specs.declared.simulation.Simulation.{Simulation}
use Rattle.bsc_network_script.specs.Scripts.{State}

-- Its world stands for the hubs, the nodes and the steps, at the clock, and found memory until now; what it counts is how many
-- there are.
pub record Holds (it : Simulation) (s : State) : Type 0 where
  pub stands : WorldStands it.world s.added s.steps
  pub time : clock_of it.world ≡ s.clock
  pub clock : it.clock ≡ s.clock
  pub soon : s.clock ≤ latest
  pub unspent : is_spent it.world ≡ false
  pub made : steps_made it.world ≡ length s.steps
  pub steps : it.steps ≡ length s.steps
  pub hubs : it.hubs ≡ length (hubs s.added)
  pub nodes : it.nodes ≡ length (nodes s.added)

-- It stands for something.
abbrev pub HoldsSome : Simulation → Type 0
HoldsSome it = (s : State) × Holds it s
