-- What hubs pass on: NPDUs of Sends, to those that are connected then.
use Rattle.std.specs.Prelude.{◌≡◌, ◌<◌, ◌^◌, ℕ, true, List, ◌∷◌, ◌++◌, Some}
use Rattle.std.specs.Option.{option_map}
use Rattle.std.specs.List.{AllByRecursion}
use Rattle.bsc_octets.specs.declared.vmac.Vmac.{Vmac}
use Rattle.bsc_octets.specs.Forwarding.{out}
use Rattle.bsc_frame.specs.declared.body.Body.TheVariants.{Npdu}
use Rattle.bsc_history.specs.declared.call.Call.TheVariants.{Forward}
use Rattle.bsc_history.specs.declared.connection.Connection.{Connection}
use Rattle.bsc_history.specs.Ends.{live, numbered}
use Rattle.bsc_history.specs.Outboxes.{means}
use Rattle.bsc_node.specs.Messages.{message_octets}
use Rattle.bsc_network.specs.declared.target.Target.TheVariants.{Hub as ToHub}
use Rattle.bsc_network.specs.declared.timed_step.TimedStep.{TimedStep}
use Rattle.bsc_network.specs.Settings.{Added}
use Rattle.bsc_network.specs.Worlds.{World, Hub, Link, Posted, entries, hub_at, link_at}
use Rattle.bsc_network.specs.Outboxes.{Frame, frames}
use Rattle.bsc_network.specs.Networks.{world}
use Rattle.bsc_network.specs.Courses.{IsCourse}
use Rattle.bsc_network_laws.specs.Ends.{messages}
use Rattle.bsc_network_laws.specs.Carrying.{Sendings, npdus}
use Rattle.bsc_network_laws.specs.Deliveries.{Sends}

-- A frame was passed on to a connection. When the hub entered that, the sender and the receiver were connected, and what the
-- sender's node had sent was meant for the receiver: the NPDU of a Send of this node, at its place, with its destination. It was
-- passed on under the sender's address.
pub record IsPassedOn (S : Sendings) (w : World) (posted : List Posted) (to : Connection) (f : Frame) : Type 0 where
  pub before : List Posted
  pub forward : Posted
  pub later : List Posted
  pub split : posted ≡ before ++ forward ∷ later
  pub from : Connection
  pub frame : List ℕ
  pub call : forward.entry.call ≡ Forward from.number frame
  pub place : forward.sent_at ≡ f.sent_at
  pub sender_live : numbered from.number (live (entries before)) ≡ Some from
  pub receiver_live : numbered to.number (live (entries before)) ≡ Some to
  pub meant : means frame from.number to ≡ true
  pub octets : f.octets ≡ out frame from.who.vmac
  pub sender : ℕ
  pub dialled : option_map (λ link. link.from) (link_at w from.caller) ≡ Some sender
  pub dest : Vmac
  pub npdu : List ℕ
  pub id : ℕ
  pub small : id < 2 ^ 16
  pub sends : S f.sent_at sender dest npdu
  pub carried : frame ≡ message_octets id (Some dest) (Npdu npdu)

-- to the connection with this number
abbrev pub IsPassedTo : Sendings → World → List Posted → ℕ → Frame → Type 0
IsPassedTo S w posted c f = (to : Connection) × (to.number ≡ c) × IsPassedOn S w posted to f

-- Each NPDU in the outbox of a connection was passed on to it.
abbrev pub PassesOn : Sendings → World → Type 0
PassesOn S w = (j : ℕ) (h : Hub) (c : ℕ) → hub_at w j ≡ Some h → AllByRecursion (IsPassedTo S w h.posted c) (npdus (frames h c))

-- So it is in every network, whatever steps are made.
abbrev pub OutboxesHaveWhatWasSent : Type 0
OutboxesHaveWhatWasSent = (added : List Added) (steps : List TimedStep) → IsCourse added steps → PassesOn (Sends steps) (world added steps)

-- ---- what comes down from a hub

-- to the connection that joined by this link
abbrev pub IsPassedBy : Sendings → World → List Posted → ℕ → Frame → Type 0
IsPassedBy S w posted l f = (to : Connection) × (to.caller ≡ l) × IsPassedOn S w posted to f

-- Each NPDU on the way down from a hub was passed on to the connection that joined by this link.
abbrev pub ComesDown : Sendings → World → Type 0
ComesDown S w =
    (l j : ℕ) (h : Hub) (link : Link) → link_at w l ≡ Some link → link.to ≡ ToHub j → hub_at w j ≡ Some h
    → AllByRecursion (IsPassedBy S w h.posted l) (npdus (messages link.down))

-- So it is in every network, whatever steps are made.
abbrev pub WhatComesDownWasSent : Type 0
WhatComesDownWasSent = (added : List Added) (steps : List TimedStep) → IsCourse added steps → ComesDown (Sends steps) (world added steps)
