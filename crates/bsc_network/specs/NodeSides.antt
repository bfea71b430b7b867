-- The ends that a node has of links: under which name it has an end, and where it puts what goes by a name.
use Rattle.std.specs.Prelude.{ℕ, ◌==◌, Bool, true, false, ◌&&◌, find, [], ◌∷◌, ◌++◌, Option, Some, None}
use Rattle.bsc_connector.specs.Back.{newest}
use Rattle.bsc_node.specs.declared.link_name.LinkName.{LinkName}
use Rattle.bsc_node.specs.Links.{same_link, names}
use Rattle.bsc_network.specs.declared.way.Way.{Way}
use Rattle.bsc_network.specs.declared.way.Way.TheVariants.{Up, Down}
use Rattle.bsc_network.specs.declared.parcel.Content.{Content}
use Rattle.bsc_network.specs.declared.hold.Hold.{Hold}
use Rattle.bsc_network.specs.Worlds.{Node}
use Rattle.bsc_network.specs.Changes.{Change, with_node, of_node, with_found, puts_now}

abbrev pub same_way : Way → Way → Bool
same_way Up Up = true
same_way Down Down = true
same_way way other = false

abbrev pub other_way : Way → Way
other_way Up = Down
other_way Down = Up

-- What a node has under a name: the newest link that it dialled or took so.
abbrev pub hold_of : LinkName → Node → Option Hold
hold_of name n = newest (λ held. same_link held.name name) n.holds

-- whether it is the end of this link that hears by this way
abbrev pub is_end : ℕ → Way → Option Hold → Bool
is_end l way None = false
is_end l way (Some held) = (held.link == l) && same_way held.hears way

-- Under which name a node has the end of a link that hears by this way, where it has that end.
abbrev pub name_of : ℕ → Way → Node → Option LinkName
name_of l way n = find (λ name. is_end l way (hold_of name n)) names

-- A node has this from now on.
abbrev pub holds : ℕ → Hold → Change
holds k held = with_node k (λ n. record n { holds = n.holds ++ held ∷ [] })

-- Something joins the way on which an end puts: the one by which it doesn't hear.
abbrev pub puts_on : Content → Hold → Change
puts_on content held = puts_now held.link (other_way held.hears) content

-- A node puts something on the link of a name.
abbrev pub puts_by : ℕ → LinkName → Content → Change
puts_by k name content = of_node k (λ n. with_found (hold_of name n) (puts_on content))
