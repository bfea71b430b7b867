-- What holds of every network: where each NPDU that is delivered came from.
use Rattle.std.specs.Prelude.{◌≡◌, ◌≢◌, ◌<◌, ◌^◌, ◌⊎◌, ℕ, false, List, [], ◌∷◌, ◌++◌, map, slice_get, Some, ⊤}
use Rattle.std.specs.List.{AllByRecursion}
use Rattle.bsc_octets.specs.declared.identity.Identity.{Identity}
use Rattle.bsc_octets.specs.declared.vmac.Vmac.{Vmac}
use Rattle.bsc_octets.specs.Forwarding.{out}
use Rattle.bsc_frame.specs.declared.body.Body.TheVariants.{Npdu}
use Rattle.bsc_history.specs.declared.call.Call.TheVariants.{Forward}
use Rattle.bsc_history.specs.declared.connection.Connection.{Connection}
use Rattle.bsc_history.specs.Ends.{live, numbered}
use Rattle.bsc_node.specs.declared.link_name.LinkName.TheVariants.{Direct}
use Rattle.bsc_node.specs.declared.node_event.NodeEvent.TheVariants.{Came, Send}
use Rattle.bsc_node.specs.Links.{peer}
use Rattle.bsc_node.specs.Logs.{Line, came, Log}
use Rattle.bsc_node.specs.Messages.{message_octets}
use Rattle.bsc_node.specs.Ways.{established_peer}
use Rattle.bsc_node_identity.specs.Npdus.{IsFor}
use Rattle.bsc_node_identity.specs.There.{CameUpWith}
use Rattle.bsc_network.specs.declared.way.Way.{Way}
use Rattle.bsc_network.specs.declared.target.Target.TheVariants.{Hub as ToHub, Node as ToNode}
use Rattle.bsc_network.specs.declared.world_step.WorldStep.TheVariants.{Node as OfNode}
use Rattle.bsc_network.specs.declared.timed_step.TimedStep.{TimedStep}
use Rattle.bsc_network.specs.declared.world_delivery.WorldDelivery.{WorldDelivery}
use Rattle.bsc_network.specs.Settings.{Added}
use Rattle.bsc_network.specs.Worlds.{World, Hub, Node, Link, Posted, entries, traffic, hub_at, node_at, link_at}
use Rattle.bsc_network.specs.NodeSides.{other_way}
use Rattle.bsc_network.specs.Networks.{world, deliveries}
use Rattle.bsc_network.specs.Courses.{IsCourse}
use Rattle.bsc_network_laws.specs.Ends.{receiver, putter, messages}

-- ---- the Send

-- At this place of the steps node k sends this NPDU to this address.
abbrev pub Sends : List TimedStep → ℕ → ℕ → Vmac → List ℕ → Type 0
Sends steps place k dest npdu = slice_get (map (λ t. t.step) steps) place ≡ Some (OfNode k (Send dest npdu))

-- one of a list
abbrev pub IsAmong : {A : Type 0} → List A → A → Type 0
IsAmong xs x = (place : ℕ) × (slice_get xs place ≡ Some x)

-- ---- over a hub

-- the link of the connection was dialled by this node
abbrev pub IsDialledBy : World → Connection → ℕ → Type 0
IsDialledBy w c k = (link : Link) × (link_at w c.caller ≡ Some link) × (link.from ≡ k)

-- The link of the connection leads to this hub and was dialled by this node, and on its way down this message stands, with this
-- place.
pub record ComesDownBy (w : World) (number : ℕ) (c : Connection) (k : ℕ) (octets : List ℕ) (place : ℕ) : Type 0 where
  pub link : Link
  pub found : link_at w c.caller ≡ Some link
  pub leads : link.to ≡ ToHub number
  pub dialled : link.from ≡ k
  pub stands : IsAmong (messages link.down) (record { octets = octets; sent_at = place })

-- It was passed on by a hub. What this was given to forward is the NPDU that is delivered, to the destination of the Send. Where the
-- hub entered that, the sender's node was connected under the address that is delivered, and the receiver's node was connected too;
-- the destination was the address of the receiver's connection, or the broadcast. What was passed on of it came down the link by
-- which the receiver's connection joined, which the receiver's node dialled.
pub record CameByHub (w : World) (sender : ℕ) (dest : Vmac) (d : WorldDelivery) : Type 0 where
  pub number : ℕ
  pub at_hub : Hub
  pub found : hub_at w number ≡ Some at_hub
  pub before : List Posted
  pub forward : Posted
  pub later : List Posted
  pub posted : at_hub.posted ≡ before ++ forward ∷ later
  pub from : Connection
  pub to : Connection
  pub frame : List ℕ
  pub id : ℕ
  pub small : id < 2 ^ 16
  pub carried : frame ≡ message_octets id (Some dest) (Npdu d.delivered.npdu)
  pub call : forward.entry.call ≡ Forward from.number frame
  pub place : forward.sent_at ≡ d.sent_at
  pub sender_live : numbered from.number (live (entries before)) ≡ Some from
  pub receiver_live : numbered to.number (live (entries before)) ≡ Some to
  pub sender_link : IsDialledBy w from sender
  pub receiver_link : ComesDownBy w number to d.node (out frame from.who.vmac) d.sent_at
  pub address : from.who.vmac ≡ d.delivered.from
  pub destination : IsFor d.delivered.broadcast dest to.who.vmac

-- ---- over a direct connection

-- The node sent this NPDU to this address. When the Send came, a slot of the node was established with this peer; the node has the
-- link as that slot, and hears over it by this way.
pub record SentOver (n : Node) (dest : Vmac) (npdu : List ℕ) (l : ℕ) (way : Way) (who : Identity) : Type 0 where
  pub slot : ℕ
  pub held : IsAmong n.holds (record { name = Direct slot; link = l; hears = way })
  pub before : Log
  pub now : ℕ
  pub later : List Line
  pub log : n.log ≡ before ++ came (record { now = now; event = Send dest npdu }) ∷ later
  pub established : established_peer slot before ≡ Some who

-- These octets came to the node over a slot. When they came, that slot had come up with this peer over the link that it had then,
-- and this was the peer of that link; the node has the link as that slot, and hears over it by this way.
pub record HeardOver (n : Node) (octets : List ℕ) (l : ℕ) (way : Way) (who : Identity) : Type 0 where
  pub slot : ℕ
  pub held : IsAmong n.holds (record { name = Direct slot; link = l; hears = way })
  pub before : Log
  pub now : ℕ
  pub later : List Line
  pub log : n.log ≡ before ++ came (record { now = now; event = Came (Direct slot) octets }) ∷ later
  pub came_up : CameUpWith before slot who
  pub met : peer before (Direct slot) ≡ Some who

-- It came over a direct connection of the two nodes: by the way on which the sender puts and by which the receiver hears. When the
-- sender sent it, the sender's slot there was established with the receiver; when the receiver heard it, the receiver's slot there
-- had come up with the sender. The address that is delivered is the sender's, and the destination was the receiver's.
pub record CameDirectly (w : World) (sender : ℕ) (dest : Vmac) (d : WorldDelivery) : Type 0 where
  pub number : ℕ
  pub link : Link
  pub found : link_at w number ≡ Some link
  pub way : Way
  pub put_by : putter way link ≡ ToNode sender
  pub heard_by : receiver way link ≡ ToNode d.node
  pub octets : List ℕ
  pub carried : IsAmong (messages (traffic way link)) (record { octets = octets; sent_at = d.sent_at })
  pub from : Node
  pub to : Node
  pub at_sender : node_at w sender ≡ Some from
  pub at_receiver : node_at w d.node ≡ Some to
  pub sent : SentOver from dest d.delivered.npdu number (other_way way) to.made.own
  pub heard : HeardOver to octets number way from.made.own
  pub address : from.made.own.vmac ≡ d.delivered.from
  pub unicast : d.delivered.broadcast ≡ false
  pub destination : dest ≡ to.made.own.vmac

-- ---- the theorem

-- A delivery comes from the Send at its place: its node sent this very NPDU, and it came over a hub, or over a direct
-- connection.
pub record IsFromItsSend (steps : List TimedStep) (w : World) (d : WorldDelivery) : Type 0 where
  pub sender : ℕ
  pub dest : Vmac
  pub sends : Sends steps d.sent_at sender dest d.delivered.npdu
  pub came : CameByHub w sender dest d ⊎ CameDirectly w sender dest d

-- Two deliveries are of different Sends, or to different nodes.
abbrev pub AreApart : WorldDelivery → WorldDelivery → Type 0
AreApart d e = d.sent_at ≡ e.sent_at → d.node ≢ e.node

abbrev pub Apart : List WorldDelivery → Type 0
Apart [] = ⊤
Apart (d ∷ ds) = AllByRecursion (AreApart d) ds × Apart ds

-- So it is in every network, whatever steps are made.
abbrev pub NoneIsDeliveredTwice : Type 0
NoneIsDeliveredTwice = (added : List Added) (steps : List TimedStep) → IsCourse added steps → Apart (deliveries added steps)

-- Each delivery comes from the Send at its place, and none is of the Send and to the node of another.
pub record DeliversWhatWasSent (added : List Added) (steps : List TimedStep) : Type 0 where
  pub each : AllByRecursion (IsFromItsSend steps (world added steps)) (deliveries added steps)
  pub once : Apart (deliveries added steps)

-- So it is in every network, whatever steps are made.
abbrev pub NetworksDeliverWhatWasSent : Type 0
NetworksDeliverWhatWasSent = (added : List Added) (steps : List TimedStep) → IsCourse added steps → DeliversWhatWasSent added steps

-- A step after these makes the network deliver this more, and it delivers what was sent.
pub record AddsWhatWasSent (added : List Added) (steps : List TimedStep) (t : TimedStep) (more : List WorldDelivery) : Type 0 where
  pub delivered : deliveries added (steps ++ t ∷ []) ≡ deliveries added steps ++ more
  pub sent : DeliversWhatWasSent added (steps ++ t ∷ [])
