-- Changes of a network, and how they are put together.
use Rattle.std.specs.Prelude.{ℕ, zero, suc, List, [], ◌∷◌, fold, Option, Some, None}
use Rattle.bsc_network.specs.declared.target.Target.{Target}
use Rattle.bsc_network.specs.declared.target.Target.TheVariants.{Hub as ToHub, Node as ToNode}
use Rattle.bsc_network.specs.declared.way.Way.{Way}
use Rattle.bsc_network.specs.declared.way.Way.TheVariants.{Up, Down}
use Rattle.bsc_network.specs.declared.parcel.Content.{Content}
use Rattle.bsc_network.specs.Traffic.{Traffic, and_then}
use Rattle.bsc_network.specs.Worlds.{World, Hub, HubSide, Node, Link, hub_at, node_at, link_at}

abbrev pub Change : Type 0
Change = World → World

-- nothing changes
abbrev pub unchanged : Change
unchanged w = w

-- Some changes, one after the other: each sees what those before it left.
abbrev pub in_order : List Change → Change
in_order changes w = fold (λ (v : World) (change : Change). change v) w changes

-- ---- of what stands at a number

-- the element at a place is changed so; nothing changes where none stands there
abbrev pub changed_at : {A : Type 0} → ℕ → (A → A) → List A → List A
changed_at place f [] = []
changed_at zero f (x ∷ xs) = f x ∷ xs
changed_at (suc place) f (x ∷ xs) = x ∷ changed_at place f xs

-- A hub, a node, a link is changed so.
abbrev pub with_hub : ℕ → (Hub → Hub) → Change
with_hub j f w = record w { hubs = changed_at j f w.hubs }

abbrev pub with_node : ℕ → (Node → Node) → Change
with_node k f w = record w { nodes = changed_at k f w.nodes }

abbrev pub with_link : ℕ → (Link → Link) → Change
with_link l f w = record w { links = changed_at l f w.links }

-- The hub's side of a link is changed so.
abbrev pub with_side : ℕ → (HubSide → HubSide) → Change
with_side l f = with_link l (λ link. record link { side = f link.side })

abbrev pub with_traffic : Way → (Traffic → Traffic) → Link → Link
with_traffic Up f link = record link { up = f link.up }
with_traffic Down f link = record link { down = f link.down }

-- Something joins the end of a way of a link, with a place.
abbrev pub puts_at : ℕ → Way → ℕ → Content → Change
puts_at l way place content = with_link l (with_traffic way (and_then (record { content = content; sent_at = place })))

-- The same, with the place of this step.
abbrev pub puts_now : ℕ → Way → Content → Change
puts_now l way content w = puts_at l way w.steps content w

-- ---- by what is found

-- A change by what was found; nothing changes where nothing was.
abbrev pub with_found : {A : Type 0} → Option A → (A → Change) → Change
with_found None change w = w
with_found (Some x) change w = change x w

-- A change by the hub, the node, the link of a number, as it is then.
abbrev pub of_hub : ℕ → (Hub → Change) → Change
of_hub j change w = with_found (hub_at w j) change w

abbrev pub of_node : ℕ → (Node → Change) → Change
of_node k change w = with_found (node_at w k) change w

abbrev pub of_link : ℕ → (Link → Change) → Change
of_link l change w = with_found (link_at w l) change w

-- A change by what a link leads to: a hub with its number, or a node with its number.
abbrev pub by_target : Target → (ℕ → Change) → (ℕ → Change) → Change
by_target (ToHub j) at_hub at_node = at_hub j
by_target (ToNode k) at_hub at_node = at_node k
