-- What stands after some steps of a network. A node is its log, a hub is its history, and a way is all that was put on
-- it: these lists only grow. Here and in the files that stand on this one, j is the number of a hub, k of a node and l of
-- a link, h is a hub, n a node, s a hub's side, and c the number of a connection.
use Rattle.std.specs.Prelude.{ℕ, Bool, List, [], map, slice_get, Option}
use Rattle.bsc_history.specs.declared.limits.About.{About}
use Rattle.bsc_history.specs.declared.entry.Entry.{Entry}
use Rattle.bsc_accept.specs.declared.event.Event.{Event}
use Rattle.bsc_node.specs.declared.link_name.LinkName.{LinkName}
use Rattle.bsc_node.specs.Logs.{Made, Log}
use Rattle.bsc_network.specs.declared.way.Way.{Way}
use Rattle.bsc_network.specs.declared.way.Way.TheVariants.{Up, Down}
use Rattle.bsc_network.specs.declared.target.Target.{Target}
use Rattle.bsc_network.specs.declared.hold.Hold.{Hold}
use Rattle.bsc_network.specs.declared.world_delivery.WorldDelivery.{WorldDelivery}
use Rattle.bsc_network.specs.Settings.{Added, hubs, nodes}
use Rattle.bsc_network.specs.Traffic.{Traffic}

-- ---- hubs

-- An entry of a hub's history, with a place: that of the message which led to the call, or that of the step where none did.
pub record Posted : Type 0 where
  pub entry : Entry
  pub sent_at : ℕ

-- A hub, and the calls that were made on it, oldest first.
pub record Hub : Type 0 where
  pub about : About
  pub posted : List Posted

abbrev pub entries : List Posted → List Entry
entries posted = map (λ p. p.entry) posted

-- The history of a hub.
abbrev pub history : Hub → List Entry
history h = entries h.posted

-- ---- links

-- The hub's side of a link that leads to it: a session, with an accepting machine.
pub record HubSide : Type 0 where
  -- when the machine started
  pub since : ℕ
  -- what the machine was told, newest last
  pub events : List Event
  -- the number of its connection, once it has joined
  pub conn : Option ℕ
  -- how many frames it took from its outbox
  pub taken : ℕ
  -- how often it found its outbox empty
  pub empties : ℕ
  -- whether the session is over
  pub is_over : Bool

-- A link: the node that dialled it, what it leads to, its two ways, the hub's side (of no use where it leads to a node),
-- and whether it was lost.
pub record Link : Type 0 where
  pub from : ℕ
  pub to : Target
  pub up : Traffic
  pub down : Traffic
  pub side : HubSide
  pub is_lost : Bool

abbrev pub traffic : Way → Link → Traffic
traffic Up link = link.up
traffic Down link = link.down

-- ---- nodes

-- A node: what it was made with, its log, and the links that it dialled and took, each with its name, newest last.
pub record Node : Type 0 where
  pub made : Made
  pub log : Log
  pub holds : List Hold

-- ---- the network

-- What stands after some steps.
pub record World : Type 0 where
  -- the time of the newest step, in milliseconds
  pub now : ℕ
  -- how many steps there were, the one that is being made not counted
  pub steps : ℕ
  -- the hubs, the nodes and the links, each at the place of its number
  pub hubs : List Hub
  pub nodes : List Node
  pub links : List Link
  -- the dials that failed in this step and of which the node wasn't told yet; between steps there are none
  pub failed : List LinkName
  -- what was delivered
  pub delivered : List WorldDelivery

-- a hub on which no call was made, and a node to which nothing came
abbrev pub new_hub : About → Hub
new_hub about = record { about = about; posted = [] }

abbrev pub new_node : Made → Node
new_node made = record { made = made; log = []; holds = [] }

-- A network before its first step.
abbrev pub new_world : List Added → World
new_world added = record {
  now = 0;
  steps = 0;
  hubs = map new_hub (hubs added);
  nodes = map new_node (nodes added);
  links = [];
  failed = [];
  delivered = [];
}

-- the hub, the node, the link of a number, where there is one
abbrev pub hub_at : World → ℕ → Option Hub
hub_at w j = slice_get w.hubs j

abbrev pub node_at : World → ℕ → Option Node
node_at w k = slice_get w.nodes k

abbrev pub link_at : World → ℕ → Option Link
link_at w l = slice_get w.links l
