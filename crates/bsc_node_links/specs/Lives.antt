-- The links of a node by its log: each from where it began to where a link of its name began anew.
use Rattle.std.specs.Prelude.{◌≡◌, ◌+◌, ℕ, true, if◌then◌else◌, List, [], ◌∷◌, drop, flat_map, slice_get, Some}
use Rattle.bsc_node.specs.declared.link_name.LinkName.{LinkName}
use Rattle.bsc_node.specs.declared.node_event.NodeEvent.{NodeEvent}
use Rattle.bsc_node.specs.declared.node_event.NodeEvent.TheVariants.{Came}
use Rattle.bsc_node.specs.declared.action.Action.TheVariants.{Put}
use Rattle.bsc_node.specs.Links.{begins, same_link}
use Rattle.bsc_node.specs.Logs.{Line, came, did, Log}

-- A link of a node: its name, and the place in the log of the line by which it began.
pub record LinkLife : Type 0 where
  pub name : LinkName
  pub began : ℕ

-- A link of this name began by the line at this place.
pub record HasBegun (L : Log) (x : LinkLife) : Type 0 where
  pub line : Line
  pub at : slice_get L x.began ≡ Some line
  pub begins_it : begins x.name line ≡ true

-- The lines behind it.
abbrev pub lines_since : Log → LinkLife → List Line
lines_since L x = drop (x.began + 1) L

-- the lines until a link of this name begins
abbrev pub until_anew : LinkName → List Line → List Line
until_anew name [] = []
until_anew name (m ∷ lines) = if begins name m then [] else m ∷ until_anew name lines

-- What the log says of the link: from its beginning on, until a link of its name begins anew.
abbrev pub life_of : Log → LinkLife → List Line
life_of L x = until_anew x.name (lines_since L x)

abbrev pub given_by_event : LinkName → NodeEvent → List (List ℕ)
given_by_event name (Came other o) = if same_link other name then o ∷ [] else []
given_by_event name e = []

abbrev pub given_by : LinkName → Line → List (List ℕ)
given_by name (came e) = given_by_event name e.event
given_by name m = []

abbrev pub put_by : LinkName → Line → List (List ℕ)
put_by name (did (Put other o)) = if same_link other name then o ∷ [] else []
put_by name m = []

-- The messages that the link gave to the node, and those that the node put on it, in order.
abbrev pub given_over : Log → LinkLife → List (List ℕ)
given_over L x = flat_map (given_by x.name) (life_of L x)

abbrev pub put_over : Log → LinkLife → List (List ℕ)
put_over L x = flat_map (put_by x.name) (life_of L x)
