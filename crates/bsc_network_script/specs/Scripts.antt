-- What the lines of a network's script mean, and what a whole script comes to.
use Rattle.std.specs.Prelude.{ℕ, nat_eq, nat_le, nat_lt, Bool, true, not, ◌&&◌, if◌then◌else◌, List, [], ◌∷◌, ◌++◌, length, is_some, Option, Some, None}
use Rattle.bsc_octets.specs.declared.bounds.TheConstants.{LEAST_BVLC}
use Rattle.bsc_octets.specs.declared.vmac.Vmac.{Vmac}
use Rattle.bsc_octets.specs.declared.identity.Identity.{Identity}
use Rattle.bsc_octets.specs.Addresses.{same_vmac, zero_vmac, broadcast}
use Rattle.bsc_history.specs.declared.limits.Limits.{Limits}
use Rattle.bsc_history.specs.declared.limits.TheConstants.{MOST_CALLERS, MOST_CALLS}
use Rattle.bsc_node.specs.declared.node_event.NodeEvent.{NodeEvent}
use Rattle.bsc_node.specs.declared.node_event.NodeEvent.TheVariants.{Send}
use Rattle.bsc_player.specs.Playing.{Played, LineOutcome, Meaning, played_of}
use Rattle.bsc_script.specs.Running.{latest}
use Rattle.bsc_network.specs.declared.limits.TheConstants.{NODES, STEPS}
use Rattle.bsc_network.specs.declared.world_step.WorldStep.{WorldStep}
use Rattle.bsc_network.specs.declared.world_step.WorldStep.TheVariants.{Node as OfNode}
use Rattle.bsc_network.specs.declared.timed_step.TimedStep.{TimedStep}
use Rattle.bsc_network.specs.Settings.{Added, and_hub, and_node, hubs, nodes}
use Rattle.bsc_network.specs.Worlds.{World}
use Rattle.bsc_network.specs.Refusals.{refusal}
use Rattle.bsc_network.specs.Networks.{dialled_at, delivered_at, world}
use Rattle.bsc_network_script.specs.declared.limits.TheConstants.{OUTBOX, ROWS}
use Rattle.bsc_network_script.specs.declared.line.Line.{Line}
use Rattle.bsc_network_script.specs.declared.line.Line.TheVariants.{Nothing, Hub, Node, At, Step}
use Rattle.bsc_network_script.specs.Lines.{line_of}
use Rattle.bsc_network_script.specs.Written.{step_text}

-- What stands after some lines: the hubs and nodes that were added, the clock in milliseconds, and the steps that were made,
-- each with its time. What the network is then follows from these.
pub record State : Type 0 where
  pub added : List Added
  pub clock : ℕ
  pub steps : List TimedStep

-- before the first line
abbrev pub nothing_yet : State
nothing_yet = record { added = []; clock = 0; steps = [] }

-- a line after which this stands, and for which nothing is written
abbrev pub quietly : State → LineOutcome State
quietly s = record { state = s; text = [] }

-- what a line comes to that may stand here, and is refused where it may not
abbrev pub where_may : Bool → LineOutcome State → Option (LineOutcome State)
where_may may out = if may then Some out else None

-- ---- hubs and nodes

-- whether a VMAC may name one node
abbrev pub names_one : Vmac → Bool
names_one v = not (same_vmac v zero_vmac) && not (same_vmac v broadcast)

-- What a hub may be: its VMAC names one node, and its maximum lengths are as in the hub line of a script of one hub.
abbrev pub may_be_hub : Identity → Bool
may_be_hub who = names_one who.vmac && nat_le LEAST_BVLC who.max_bvlc && nat_le 1 who.max_npdu

-- What each hub is limited to; it answers the most calls, and so is never worn.
abbrev pub hub_limits : Limits
hub_limits = record { rows = ROWS; outbox = OUTBOX; calls = MOST_CALLS; callers = MOST_CALLERS }

-- Whether a hub may be added once so many steps were made and so many hubs were added: before the first step, and two of them.
abbrev pub may_add_hub : ℕ → ℕ → Identity → Bool
may_add_hub made hub_count who = nat_eq made 0 && nat_lt hub_count 2 && may_be_hub who

-- Whether a node may be added: before the first step, once there is a hub, and so many of them as a network has at most.
abbrev pub may_add_node : ℕ → ℕ → ℕ → Identity → Bool
may_add_node made hub_count node_count own = nat_eq made 0 && nat_le 1 hub_count && nat_lt node_count NODES && names_one own.vmac

abbrev pub adds_hub : State → Identity → Option (LineOutcome State)
adds_hub s who =
    where_may (may_add_hub (length s.steps) (length (hubs s.added)) who)
    (quietly (record s { added = and_hub s.added who hub_limits }))

abbrev pub adds_node : State → Identity → Bool → Option (LineOutcome State)
adds_node s own direct =
    where_may (may_add_node (length s.steps) (length (hubs s.added)) (length (nodes s.added)) own)
    (quietly (record s { added = and_node s.added own direct }))

-- ---- the clock

-- Whether the clock may be set to this time: once there is a hub; it never goes back, nor past the latest time of scripts.
abbrev pub may_set : ℕ → ℕ → ℕ → Bool
may_set hub_count clock ms = nat_le 1 hub_count && nat_le clock ms && nat_le ms latest

abbrev pub sets : State → ℕ → Option (LineOutcome State)
sets s ms = where_may (may_set (length (hubs s.added)) s.clock ms) (quietly (record s { clock = ms }))

-- ---- steps

-- the most steps that may be made
abbrev pub most_steps : ℕ
most_steps = STEPS

-- What is sent has at least one octet, and a destination that isn't the reserved VMAC.
abbrev pub is_sendable : NodeEvent → Bool
is_sendable (Send dest npdu) = nat_le 1 (length npdu) && not (same_vmac dest zero_vmac)
is_sendable e = true

abbrev pub has_content : WorldStep → Bool
has_content (OfNode k e) = is_sendable e
has_content step = true

-- Whether a step may be tried once so many were made.
abbrev pub may_try : ℕ → WorldStep → Bool
may_try made step = nat_lt made most_steps && has_content step

-- a step at the clock
abbrev pub at_clock : State → WorldStep → TimedStep
at_clock s step = record { now = s.clock; step = step }

-- A step is made in the network that stands, unless that refuses it: the links that it dials and what it delivers are written.
abbrev pub makes_in : World → State → TimedStep → Option (LineOutcome State)
makes_in w s t =
    where_may (may_try (length s.steps) t.step && not (is_some (refusal w t.step)))
    (record { state = record s { steps = s.steps ++ t ∷ [] }; text = step_text (dialled_at w t) (delivered_at w t) })

abbrev pub makes : State → WorldStep → Option (LineOutcome State)
makes s step = makes_in (world s.added s.steps) s (at_clock s step)

-- ---- lines

-- What a line does; None where it is refused.
abbrev pub line_after : State → Line → Option (LineOutcome State)
line_after s Nothing = Some (quietly s)
line_after s (Hub who) = adds_hub s who
line_after s (Node own direct) = adds_node s own direct
line_after s (At ms) = sets s ms
line_after s (Step step) = makes s step

-- what the octets of a line do: those that have no form of a line are refused
abbrev pub said_after : State → Option Line → Option (LineOutcome State)
said_after s None = None
said_after s (Some line) = line_after s line

-- The language of networks: a script may end once there is a hub.
abbrev pub simulation : Meaning State
simulation = record { step = λ s line. said_after s (line_of line); may_end = λ s. nat_le 1 (length (hubs s.added)) }

-- The text of a whole script, and its first refused line.
abbrev pub simulate_of : List ℕ → Played
simulate_of = played_of simulation nothing_yet
