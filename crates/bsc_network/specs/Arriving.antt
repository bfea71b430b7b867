-- What arrives at the ends of links, and the loss of a link.
use Rattle.std.specs.Prelude.{ℕ, true, [], ◌∷◌, Option, Some, None}
use Rattle.bsc_node.specs.declared.link_name.LinkName.{LinkName}
use Rattle.bsc_node.specs.declared.node_event.NodeEvent.{NodeEvent}
use Rattle.bsc_node.specs.declared.node_event.NodeEvent.TheVariants.{Opened, Arrived, Came, Lost}
use Rattle.bsc_network.specs.declared.way.Way.{Way}
use Rattle.bsc_network.specs.declared.way.Way.TheVariants.{Up, Down}
use Rattle.bsc_network.specs.declared.parcel.Content.{Content}
use Rattle.bsc_network.specs.declared.parcel.Content.TheVariants.{Opened as HasOpened, Arrived as HasArrived, Message, Closed}
use Rattle.bsc_network.specs.declared.parcel.Parcel.{Parcel}
use Rattle.bsc_network.specs.Traffic.{front, without_front}
use Rattle.bsc_network.specs.Worlds.{Link, traffic}
use Rattle.bsc_network.specs.Changes.{Change, unchanged, in_order, with_link, with_traffic, with_found, of_node, of_link, by_target}
use Rattle.bsc_network.specs.HubSides.{leaves, receives, unless_over}
use Rattle.bsc_network.specs.NodeSides.{name_of}
use Rattle.bsc_network.specs.NodeEvents.{comes}

-- ---- at a node

-- Which event something that arrives is to a node, which may have this end under a name. A peer that dialled comes to a
-- node that doesn't have the link yet.
abbrev pub event_of : Content → Option LinkName → Option NodeEvent
event_of HasArrived name = Some Arrived
event_of HasOpened (Some name) = Some (Opened name)
event_of (Message octets) (Some name) = Some (Came name octets)
event_of Closed (Some name) = Some (Lost name)
event_of content None = None

-- It comes to the node that hears by this way.
abbrev pub reaches_node : ℕ → Way → Parcel → ℕ → Change
reaches_node l way x k =
    of_node k (λ n. with_found (event_of x.content (name_of l way n)) (comes k (Some (record { link = l; way = way; sent_at = x.sent_at }))))

-- ---- at the hub's side

abbrev pub reaches_side : ℕ → ℕ → Content → Change
reaches_side l place (Message octets) = receives l place octets
reaches_side l place Closed = leaves l
reaches_side l place content = unchanged

-- It comes to the hub's side, unless the session is over: then it is dropped.
abbrev pub reaches_hub : ℕ → Parcel → Change
reaches_hub l x = unless_over l (reaches_side l x.sent_at x.content)

-- ---- the front of a way

-- What arrives by the way down comes to the node that dialled the link, and what arrives by the way up to the hub or the
-- node that the link leads to.
abbrev pub reaches : ℕ → Way → Link → Parcel → Change
reaches l Down link x = reaches_node l Down x link.from
reaches l Up link x = by_target link.to (λ j. reaches_hub l x) (reaches_node l Up x)

-- The front of a way arrives.
abbrev pub arrives : ℕ → Way → Change
arrives l way =
    of_link l (λ link. with_found (front (traffic way link)) (λ x. in_order (with_link l (with_traffic way without_front) ∷ reaches l way link x ∷ [])))

-- ---- the loss of a link

-- A node is told that the link is lost, where it has the end that hears by this way.
abbrev pub loses : ℕ → Way → ℕ → Change
loses l way k = of_node k (λ n. with_found (name_of l way n) (λ name. comes k None (Lost name)))

-- A link is lost, with all that it carries. The node that dialled it is told, and then the other end: a node is told, and
-- the session of a hub is over.
abbrev pub is_lost : ℕ → Change
is_lost l =
    of_link l (λ link. in_order
    (with_link l (λ it. record it { is_lost = true })
    ∷ loses l Down link.from
    ∷ by_target link.to (λ j. unless_over l (leaves l)) (loses l Up)
    ∷ []))
