-- Where a dial leads, and the link that is made.
use Rattle.std.specs.Prelude.{ℕ, nat_eq, nat_lt, Bool, true, false, List, [], ◌∷◌, ◌++◌, length, map, position, Option, Some, None}
use Rattle.std.specs.List.{range_with_len}
use Rattle.std.specs.Option.{option_map, option_or}
use Rattle.std.specs.Cmp.Lexicographic.{pointwise}
use Rattle.bsc_node.specs.declared.link_name.LinkName.{LinkName}
use Rattle.bsc_network.specs.declared.way.Way.TheVariants.{Down}
use Rattle.bsc_network.specs.declared.target.Target.{Target}
use Rattle.bsc_network.specs.declared.target.Target.TheVariants.{Hub as ToHub, Node as ToNode}
use Rattle.bsc_network.specs.Settings.{hub_uri}
use Rattle.bsc_network.specs.declared.parcel.Content.TheVariants.{Opened, Arrived}
use Rattle.bsc_network.specs.declared.parcel.Parcel.{Parcel}
use Rattle.bsc_network.specs.Traffic.{beginning_with}
use Rattle.bsc_network.specs.Worlds.{World, HubSide, Link}
use Rattle.bsc_network.specs.Changes.{Change, in_order}
use Rattle.bsc_network.specs.HubCalls.{most_links}
use Rattle.bsc_network.specs.NodeSides.{holds}

-- ---- where a dial leads

-- whether two URIs have the same octets
abbrev pub same_uri : List ℕ → List ℕ → Bool
same_uri uri other = pointwise nat_eq uri other

abbrev pub is_uri : List ℕ → Option (List ℕ) → Bool
is_uri uri None = false
is_uri uri (Some own) = same_uri uri own

-- The number of the hub that has this URI.
abbrev pub hub_with : World → List ℕ → Option ℕ
hub_with w uri = position (same_uri uri) (map hub_uri (range_with_len 0 (length w.hubs)))

-- The number of the node that accepts direct connections and has this URI.
abbrev pub node_with : World → List ℕ → Option ℕ
node_with w uri = position (λ n. is_uri uri n.made.limits.uris) w.nodes

-- What has this URI: a hub, or a node that accepts direct connections.
abbrev pub target_of : World → List ℕ → Option Target
target_of w uri = option_or (option_map (λ j. ToHub j) (hub_with w uri)) (option_map (λ k. ToNode k) (node_with w uri))

abbrev pub if_room : Bool → Option Target → Option Target
if_room true target = target
if_room false target = None

-- Where a dial leads, unless it fails: to what has the URI, while fewer links than the most were made.
abbrev pub leads_to : World → List ℕ → Option Target
leads_to w uri = if_room (nat_lt (length w.links) most_links) (target_of w uri)

-- ---- the link

-- A hub's side at its beginning.
abbrev pub new_side : ℕ → HubSide
new_side now = record { since = now; events = []; conn = None; taken = 0; empties = 0; is_over = false }

-- what stands on the way up from the beginning: that a peer dialled, where that is told to a node
abbrev pub first_up : ℕ → Target → List Parcel
first_up place (ToHub j) = []
first_up place (ToNode k) = record { content = Arrived; sent_at = place } ∷ []

-- what stands on the way down from the beginning: that the WebSocket has opened
abbrev pub first_down : ℕ → List Parcel
first_down place = record { content = Opened; sent_at = place } ∷ []

-- The link that a node dials now.
abbrev pub new_link : World → ℕ → Target → Link
new_link w k target = record {
  from = k;
  to = target;
  up = beginning_with (first_up w.steps target);
  down = beginning_with (first_down w.steps);
  side = new_side w.now;
  is_lost = false;
}

-- A node dials under a name: the next link is made, and the node hears from it by the way down.
abbrev pub dials : ℕ → LinkName → Target → Change
dials k name target w =
    in_order
    ((λ (v : World). record v { links = v.links ++ new_link w k target ∷ [] })
    ∷ holds k (record { name = name; link = length w.links; hears = Down })
    ∷ []) w

-- A dial fails: the node is to be told so.
abbrev pub fails : LinkName → Change
fails name w = record w { failed = w.failed ++ name ∷ [] }

-- A node dials a URI.
abbrev pub dials_to : ℕ → LinkName → Option Target → Change
dials_to k name (Some target) = dials k name target
dials_to k name None = fails name
