-- Which rules are followed while the newest step of each link's machine has been carried out.
use Rattle.std.specs.Prelude.{◌≡◌, ℕ, List, ◌++◌, None}
use Rattle.bsc_node.specs.declared.action.Action.{Action}
use Rattle.bsc_node.specs.declared.node_limits.NodeLimits.{NodeLimits}
use Rattle.bsc_node.specs.Logs.{Made, Log, Rule}
use Rattle.bsc_node_core.specs.declared.event_context.EventContext.{EventContext}
use Rattle.bsc_node_core.specs.declared.state.State.{State}
use Rattle.bsc_node_core.specs.Standing.{Base, Stands}

-- The node was made with these settings, the newest event came at this time, and nothing is left to carry out of the newest step
-- of any link's machine.
abbrev pub IsAtRestFor : NodeLimits → ℕ → Base → Type 0
IsAtRestFor limits time b = (b.made.limits ≡ limits) × (b.now ≡ time) × (b.busy ≡ None)

-- The same of the settings and the time at which a node follows an event.
abbrev pub IsAtRest : EventContext → Base → Type 0
IsAtRest at b = IsAtRestFor at.limits.now at.time b

-- For whatever log it stood at rest, it stands for that with the lines of the rule.
abbrev pub FollowsAtRest : EventContext → (Made → Rule) → List Action → State → List Action → State → Type 0
FollowsAtRest at rule out s out' s' = (b : Base) (L : Log) → IsAtRest at b → Stands b out s L → Stands b out' s' (L ++ rule b.made L)
