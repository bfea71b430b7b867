-- What telling a link's machine something leaves, and what carrying out its newest step takes.
use Rattle.std.specs.Prelude.{◌≡◌, Bool, true, false, List, Some}
use Rattle.bsc_node.specs.declared.link_name.LinkName.{LinkName}
use Rattle.bsc_node.specs.declared.action.Action.{Action}
use Rattle.bsc_node.specs.Logs.{Log}
use Rattle.bsc_node.specs.Links.{Outcome, puts, puts_and_closes, closes, meets, is_refused, passes_up, keeps_still, was_taken, outcome}
use Rattle.bsc_node_core.specs.declared.machine.Machine.{Machine}
use Rattle.bsc_node_core.specs.declared.machine.Machine.TheVariants.{Over}
use Rattle.bsc_node_core.specs.declared.state.State.{State}
use Rattle.bsc_node_core.specs.Machines.{is_at_rest, has_asked}
use Rattle.bsc_node_core.specs.Tables.{link_at}
use Rattle.bsc_node_core.specs.Standing.{Base, Stands}

-- the same base, while the newest step of this link's machine is carried out
abbrev pub busy_with : LinkName → Base → Base
busy_with name b = record b { busy = Some name }

-- How a step leaves the machine of a link that was taken or not: over where it closes the link or is a refusal; where the
-- peer has named itself, the machine of a link that was taken has asked; and else it may be told more.
abbrev pub IsLeft : Outcome → Bool → Machine → Type 0
IsLeft (puts o) taken machine = is_at_rest machine ≡ true
IsLeft (puts_and_closes o closing) taken machine = machine ≡ Over
IsLeft (closes closing) taken machine = machine ≡ Over
IsLeft (meets who) true machine = has_asked machine ≡ true
IsLeft (meets who) false machine = is_at_rest machine ≡ true
IsLeft (is_refused origin code) taken machine = machine ≡ Over
IsLeft (passes_up msg) taken machine = is_at_rest machine ≡ true
IsLeft keeps_still taken machine = is_at_rest machine ≡ true

-- The machine of the link was told something last, with this outcome, which isn't carried out yet.
pub record HasTold (b : Base) (out : List Action) (s : State) (L : Log) (name : LinkName) (u : Outcome) : Type 0 where
  pub stands : Stands (busy_with name b) out s L
  pub newest : outcome b.made L name ≡ u
  pub left : IsLeft u (was_taken name L) (link_at s.links name).machine
