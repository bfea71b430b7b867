-- Who is connected to the hubs of a network: the nodes that dialled.
use Rattle.std.specs.Prelude.{◌≡◌, ℕ, ◌==◌, ◌&&◌, Bool, true, List, Some}
use Rattle.std.specs.Option.{option_map}
use Rattle.std.specs.List.{AllByRecursion, list_any}
use Rattle.bsc_history.specs.declared.connection.Connection.{Connection}
use Rattle.bsc_history.specs.Ends.{joined}
use Rattle.bsc_history.specs.Legality.{Legal}
use Rattle.bsc_network.specs.declared.target.Target.TheVariants.{Hub as ToHub, Node as ToNode}
use Rattle.bsc_network.specs.declared.timed_step.TimedStep.{TimedStep}
use Rattle.bsc_network.specs.Settings.{Added}
use Rattle.bsc_network.specs.Worlds.{World, Hub, Link, history, hub_at, link_at}
use Rattle.bsc_network.specs.Networks.{world}
use Rattle.bsc_network.specs.Courses.{IsCourse}
use Rattle.bsc_network_laws.specs.Naming.{Cast, cast_of, identity_in}

-- A connection has the identity of the node that dialled its link.
abbrev pub IsOfDialler : Cast → World → Connection → Type 0
IsOfDialler cast w c = (k : ℕ) × (option_map (λ link. link.from) (link_at w c.caller) ≡ Some k) × (identity_in cast (ToNode k) ≡ Some c.who)

-- So has each that joined the hub.
abbrev pub JoinsDiallers : Cast → World → Hub → Type 0
JoinsDiallers cast w h = AllByRecursion (IsOfDialler cast w) (joined (history h))

-- So it is in every network, whatever steps are made.
abbrev pub ConnectionsAreOfDiallers : Type 0
ConnectionsAreOfDiallers =
    (added : List Added) (steps : List TimedStep) → IsCourse added steps
    → AllByRecursion (JoinsDiallers (cast_of added) (world added steps)) (world added steps).hubs

-- ---- the connections of sides

-- the connection with this number, which joined by the call of this link
abbrev pub is_conn : ℕ → ℕ → Connection → Bool
is_conn l c y = (y.number == c) && (y.caller == l)

abbrev pub HasJoinedBy : Hub → ℕ → ℕ → Type 0
HasJoinedBy h l c = list_any (is_conn l c) (joined (history h)) ≡ true

-- Where the hub's side of a link has a connection, that connection joined the hub by the link's call.
abbrev pub SidesHaveJoined : World → Type 0
SidesHaveJoined w =
    (l j : ℕ) (h : Hub) (link : Link) (c : ℕ) → link_at w l ≡ Some link → link.to ≡ ToHub j → hub_at w j ≡ Some h → link.side.conn ≡ Some c → HasJoinedBy h l c

-- So it is in every network, whatever steps are made.
abbrev pub ConnectionsJoinedByTheirLinks : Type 0
ConnectionsJoinedByTheirLinks = (added : List Added) (steps : List TimedStep) → IsCourse added steps → SidesHaveJoined (world added steps)

-- ---- the links of connections

-- A connection of hub j joined by a link that leads to this hub, and the side of that link has it.
abbrev pub IsOfLink : World → ℕ → Connection → Type 0
IsOfLink w j c = (link : Link) × (link_at w c.caller ≡ Some link) × (link.to ≡ ToHub j) × (link.side.conn ≡ Some c.number)

-- So did each that joined a hub.
abbrev pub JoinByLinks : World → Type 0
JoinByLinks w = (j : ℕ) (h : Hub) → hub_at w j ≡ Some h → AllByRecursion (IsOfLink w j) (joined (history h))

-- So it is in every network, whatever steps are made.
abbrev pub ConnectionsJoinByLinks : Type 0
ConnectionsJoinByLinks = (added : List Added) (steps : List TimedStep) → IsCourse added steps → JoinByLinks (world added steps)

-- ---- the histories of hubs

-- The history of each hub is legal.
abbrev pub HubsAreLegal : World → Type 0
HubsAreLegal w = AllByRecursion (λ h. Legal h.about (history h)) w.hubs

-- So it is in every network, whatever steps are made.
abbrev pub HistoriesAreLegal : Type 0
HistoriesAreLegal = (added : List Added) (steps : List TimedStep) → IsCourse added steps → HubsAreLegal (world added steps)
