-- What the hub's side of a link does in a network, by what its port does: a port whose machine started and was told what that of
-- the side was. There is no policy.
use Rattle.std.specs.Prelude.{◌≡◌, ℕ, List, [], ◌∷◌, None}
use Rattle.bsc_accept.specs.declared.event.Event.TheVariants.{Message as Came}
use Rattle.bsc_port.specs.declared.action.PortAction.{PortAction}
use Rattle.bsc_port.specs.declared.action.PortAction.TheVariants.{Does, Connect, Forward, Reject}
use Rattle.bsc_port.specs.declared.event.PortEvent.{PortEvent}
use Rattle.bsc_port.specs.declared.output.Output.{Output}
use Rattle.bsc_port.specs.declared.output.Output.TheVariants.{Nothing, Send, SendClose, Close}
use Rattle.bsc_port.specs.Actions.{action, heard, machine_event, output}
use Rattle.bsc_network.specs.declared.way.Way.TheVariants.{Down}
use Rattle.bsc_network.specs.declared.parcel.Content.TheVariants.{Message}
use Rattle.bsc_network.specs.Worlds.{Hub, Link}
use Rattle.bsc_network.specs.Changes.{Change, in_order, puts_now, unchanged}
use Rattle.bsc_network.specs.HubSides.{acts_on, carries_out, closes, connects, forwards, start, step_at, verdict_on}

-- What an output does in a network: octets are put on the way down, and the hub's side closes.
abbrev pub puts_out : ℕ → Output → Change
puts_out l (Send octets) = puts_now l Down (Message octets.items)
puts_out l (SendClose octets c) = in_order (puts_now l Down (Message octets.items) ∷ closes l ∷ [])
puts_out l (Close c) = closes l
puts_out l Nothing = unchanged

-- What an action at a message does in a network, by the place of the message.
abbrev pub acts : ℕ → ℕ → List ℕ → PortAction → Change
acts l place m (Does output) = puts_out l output
acts l place m (Connect who) = connects l place who
acts l place m Forward = forwards l place m
acts l place m (Reject denial) = closes l
acts l place m other = unchanged

-- At a message the hub's side of a link does what its port does: its machine is told what the port's is told, and what
-- follows is what the action does.
pub record FollowsPort (h : Hub) (link : Link) (now : ℕ) (m : List ℕ) : Type 0 where
  pub told : Came now (verdict_on h link m) ≡ heard (start h link) link.side.events now m
  pub follows : (l place : ℕ) → acts_on l place m (step_at h link (Came now (verdict_on h link m))) ≡ acts l place m (action None None (start h link) link.side.events now m)

-- At another event, which the hub's answer to a Connect and an End are, what follows is what the port's output does.
abbrev pub FollowsEvent : Hub → Link → PortEvent → Type 0
FollowsEvent h link e = (l : ℕ) → carries_out l (step_at h link (machine_event e)) ≡ puts_out l (output (start h link) link.side.events e)
