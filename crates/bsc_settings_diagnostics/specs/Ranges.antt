-- The ranges of numbers that an operator is told of, and that they are those of the tables of keys.
use Rattle.std.specs.Prelude.{ℕ, ◌≡◌, ⊤, Bool, true, if◌then◌else◌, List, [], ◌∷◌, Option}
use Rattle.bsc_settings.specs.Table.{Row, hub_table, node_table, numbers_of}
use Rattle.bsc_settings.specs.Documents.{range_in}

-- The least and the greatest number that a key of the table `node` or of the table `hub` takes, where it takes a number; `least` is the
-- least wait of a node.
abbrev pub range_of : ℕ → Bool → List ℕ → Option (ℕ × ℕ)
range_of least is_node word = if is_node then range_in (node_table true least) word else range_in hub_table word

-- Of each row of a table just the numbers are told that it takes.
abbrev pub AreTold : ℕ → Bool → List Row → Type 0
AreTold least is_node [] = ⊤
AreTold least is_node (r ∷ rs) = (range_of least is_node r.word ≡ numbers_of r.kind) × AreTold least is_node rs
