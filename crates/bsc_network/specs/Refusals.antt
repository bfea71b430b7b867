-- Why a step is refused.
use Rattle.std.specs.Prelude.{Bool, true, false, not, ◌&&◌, if◌then◌else◌, is_some, Option, Some, None}
use Rattle.std.specs.List.{list_any}
use Rattle.bsc_history.specs.Replies.{is_stopped}
use Rattle.bsc_node.specs.declared.node_event.NodeEvent.{NodeEvent}
use Rattle.bsc_node.specs.declared.node_event.NodeEvent.TheVariants.{Start, Tick, Send, Resolve, DirectTo, Solicit, Finish}
use Rattle.bsc_node.specs.Conditions.{is_start}
use Rattle.bsc_network.specs.declared.target.Target.{Target}
use Rattle.bsc_network.specs.declared.target.Target.TheVariants.{Hub as ToHub, Node as ToNode}
use Rattle.bsc_network.specs.declared.way.Way.{Way}
use Rattle.bsc_network.specs.declared.world_step.WorldStep.{WorldStep}
use Rattle.bsc_network.specs.declared.world_step.WorldStep.TheVariants.{Node as OfNode, Arrive, Lose, Take, Stop}
use Rattle.bsc_network.specs.declared.step_refusal.StepRefusal.{StepRefusal}
use Rattle.bsc_network.specs.declared.step_refusal.StepRefusal.TheVariants.{NoNode, NotNow, NoLink, NothingThere, NoHub, AlreadyStopped}
use Rattle.bsc_network.specs.Traffic.{front}
use Rattle.bsc_network.specs.Worlds.{World, Hub, Node, Link, history, traffic, hub_at, node_at, link_at}
use Rattle.bsc_network.specs.Taking.{may_take}

abbrev pub unless : Bool → StepRefusal → Option StepRefusal
unless true refusal = None
unless false refusal = Some refusal

-- ---- of an event

-- The events of a node's own: its start, those of its user, and the time.
abbrev pub is_own : NodeEvent → Bool
is_own Start = true
is_own Tick = true
is_own (Send dest npdu) = true
is_own (Resolve v) = true
is_own (DirectTo v) = true
is_own (Solicit v) = true
is_own Finish = true
is_own e = false

abbrev pub has_started : Node → Bool
has_started n = list_any is_start n.log

-- A node starts once, and each other event of its own comes after that.
abbrev pub is_timely : Node → NodeEvent → Bool
is_timely n Start = not (has_started n)
is_timely n e = has_started n

abbrev pub refuses_event : NodeEvent → Option Node → Option StepRefusal
refuses_event e None = Some NoNode
refuses_event e (Some n) = unless (is_own e && is_timely n e) NotNow

-- ---- of what is to be done with a link

-- A link that was never made, or is lost, is no link. On one that is there something may be wanted that isn't there.
abbrev pub refuses_link : (Link → Bool) → Option Link → Option StepRefusal
refuses_link has_it None = Some NoLink
refuses_link has_it (Some link) = if link.is_lost then Some NoLink else unless (has_it link) NothingThere

-- whether the way isn't empty
abbrev pub has_front : Way → Link → Bool
has_front way link = is_some (front (traffic way link))

abbrev pub leads_to_hub : Target → Bool
leads_to_hub (ToHub j) = true
leads_to_hub (ToNode k) = false

-- whether there is an outbox from which the hub's side may take
abbrev pub has_outbox : Link → Bool
has_outbox link = leads_to_hub link.to && may_take link.side

-- ---- of a stop

abbrev pub refuses_stop : Option Hub → Option StepRefusal
refuses_stop None = Some NoHub
refuses_stop (Some h) = unless (not (is_stopped (history h))) AlreadyStopped

-- ---- of a step

-- Why a step is refused, where it is.
abbrev pub refusal : World → WorldStep → Option StepRefusal
refusal w (OfNode k e) = refuses_event e (node_at w k)
refusal w (Arrive l way) = refuses_link (has_front way) (link_at w l)
refusal w (Lose l) = refuses_link (λ link. true) (link_at w l)
refusal w (Take l) = refuses_link has_outbox (link_at w l)
refusal w (Stop j) = refuses_stop (hub_at w j)
