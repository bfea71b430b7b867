-- What the written-out scenes share: peers, settings, messages and events.
use Rattle.std.proofs.Common.{ℕ, List, [], ◌∷◌, Some, None, replicate}
use Rattle.std.specs.Prelude.{codes, Option}
use Rattle.bsc_octets.specs.declared.vmac.Vmac.{Vmac}
use Rattle.bsc_octets.specs.declared.identity.Identity.{Identity}
use Rattle.bsc_octets.specs.Addresses.{broadcast}
use Rattle.bsc_frame.specs.declared.message.Message.{Message}
use Rattle.bsc_frame.specs.declared.body.Body.{Body}
use Rattle.bsc_frame.specs.declared.body.Body.TheVariants.{ConnectAccept}
use Rattle.bsc_frame.specs.Spelling.{spelling}
use Rattle.bsc_connector.specs.declared.side.Side.TheVariants.{Primary, Failover}
use Rattle.bsc_accept.specs.declared.closing.Closing.{Closing}
use Rattle.bsc_accept.specs.declared.reason.Reason.TheVariants.{Idle, ConnectWait}
use Rattle.bsc_accept.specs.Steps.{closing}
use Rattle.bsc_node.specs.Messages.{message}
use Rattle.bsc_node.specs.declared.link_name.LinkName.{LinkName}
use Rattle.bsc_node.specs.declared.link_name.LinkName.TheVariants.{Hub, Direct}
use Rattle.bsc_node.specs.declared.node_limits.NodeLimits.{NodeLimits}
use Rattle.bsc_node.specs.declared.node_event.NodeEvent.{NodeEvent}
use Rattle.bsc_node.specs.declared.node_event.NodeEvent.TheVariants.{Start, Opened, Came}
use Rattle.bsc_node.specs.declared.timed_event.TimedEvent.{TimedEvent}
use Rattle.bsc_node.specs.declared.action.Action.{Action}
use Rattle.bsc_node.specs.declared.action.Action.TheVariants.{Put}
use Rattle.bsc_node.specs.Logs.{Made}

-- ---- peers

abbrev pub address : ℕ → Vmac
address n = record { 0 = 2 ∷ 0 ∷ 0 ∷ 0 ∷ 0 ∷ n ∷ [] }

-- a peer that takes messages of 1,600 octets and NPDUs of 1,497
abbrev pub peer : ℕ → ℕ → Identity
peer n u = record { vmac = address n; device = record { 0 = replicate 16 u }; max_bvlc = 1600; max_npdu = 1497 }

-- the hubs: messages of 1,489 octets and NPDUs of 1,480
abbrev pub hub : Identity
hub = record (peer 0xFF 0x11) { max_bvlc = 1489; max_npdu = 1480 }

-- A: messages of 1,400 octets and NPDUs of 600
abbrev pub a : Identity
a = record (peer 0x0A 0xAA) { max_bvlc = 1400; max_npdu = 600 }

abbrev pub b : Identity
b = peer 0x0B 0xBB

abbrev pub c : Identity
c = peer 0x0C 0xCC

-- ---- settings

abbrev pub primary_uri : List ℕ
primary_uri = codes "ws://p/"

abbrev pub failover_uri : List ℕ
failover_uri = codes "ws://f/"

abbrev pub settings : Option (List ℕ) → Option (List ℕ) → NodeLimits
settings failover uris = record {
  times = record { connect_wait = 10000; disconnect_wait = 10000; heartbeat = 300000 };
  primary = primary_uri;
  failover = failover;
  uris = uris;
  least_wait = 2000;
  greatest_wait = 30000;
}

-- B with these settings
abbrev pub node : NodeLimits → Made
node limits = record { own = b; limits = limits }

abbrev pub alone : NodeLimits
alone = settings None None

abbrev pub with_failover : NodeLimits
with_failover = settings (Some failover_uri) None

abbrev pub own_uris : List ℕ
own_uris = codes "ws://localhost:4444/"

abbrev pub reachable : NodeLimits
reachable = settings None (Some own_uris)

-- ---- messages

-- a message over a direct connection, or of the hub itself
abbrev pub plain : ℕ → Body → Message
plain id body = message id None body

-- a unicast that the hub passes on from a node
abbrev pub from : ℕ → ℕ → Body → Message
from n id body = record (message id None body) { origin = Some (address n) }

-- a broadcast that the hub passes on from a node
abbrev pub to_all_from : ℕ → ℕ → Body → Message
to_all_from n id body = record (message id (Some broadcast) body) { origin = Some (address n) }

-- the octets that the node puts over the hub for another node
abbrev pub for_node : ℕ → ℕ → Body → List ℕ
for_node n id body = spelling (message id (Some (address n)) body)

abbrev pub octets : Message → List ℕ
octets msg = spelling msg

abbrev pub accept : ℕ → Message
accept id = plain id (ConnectAccept hub)

-- ---- closings

-- no message came for twice the heartbeat
abbrev pub idle : Closing
idle = closing 1008 Idle

-- the connect wait has passed without an accept
abbrev pub connect_wait_over : Closing
connect_wait_over = closing 1008 ConnectWait

-- ---- links, events and actions

abbrev pub primary : LinkName
primary = Hub Primary

abbrev pub failover : LinkName
failover = Hub Failover

abbrev pub direct : ℕ → LinkName
direct k = Direct k

abbrev pub at : ℕ → NodeEvent → TimedEvent
at now event = record { now = now; event = event }

abbrev pub hears : ℕ → LinkName → Message → TimedEvent
hears now name msg = at now (Came name (octets msg))

abbrev pub puts : LinkName → ℕ → Body → Action
puts name id body = Put name (octets (plain id body))

-- The node starts and its primary hub accepts it at 10.
abbrev pub connects : List TimedEvent
connects = at 0 Start ∷ at 5 (Opened primary) ∷ hears 10 primary (accept 1) ∷ []
