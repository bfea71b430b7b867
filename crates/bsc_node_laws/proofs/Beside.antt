-- A core beside the log that it stands for, where both take each step.
-- It serves bsc_application, bsc_node_command and bsc_node_links.
use Rattle.std.proofs.Common.{◌≡◌, ℕ, List, ap}
use Rattle.bsc_node.specs.declared.node_event.NodeEvent.{NodeEvent}
use Rattle.bsc_node.specs.declared.action.Action.{Action}
use Rattle.bsc_node.specs.Logs.{Made, Log}
use Rattle.bsc_node_laws.specs.Courses.{GoesAsDefined}

pub record Beside (N : Type 0) : Type 0 where
  pub core : N
  pub log : Log

abbrev pub beside : {N : Type 0} → N → Log → Beside N
beside n M = record { core = n; log = M }

-- The core takes a step, and the definition takes it too.
abbrev pub Both : {N : Type 0} → (N → ℕ → NodeEvent → List Action → N → Type 0) → Made → Beside N → ℕ → NodeEvent → List Action → Beside N → Type 0
Both goes a b now e actions c = goes b.core now e actions c.core × GoesAsDefined a b.log now e actions c.log

-- A core that is another's is beside the same log as that one.
pub beside_same : {N : Type 0} (n m : N) (M : Log) → m ≡ n → beside m M ≡ beside n M
beside_same n m M is = ap (λ p. beside p M) is
