-- What a document is, and the tables and keys that it has.
use Rattle.std.specs.Prelude.{◌≡◌, ℕ, Bool, true, false, ◌&&◌, ◌||◌, List, [], ◌∷◌, codes, IsUtf8, Option, Some, None, option_and_then, is_some, if◌then◌else◌}
use Rattle.std.specs.List.{list_all}
use Rattle.toml.specs.Data.{Data, Items, Members, no_members, member, as_array, as_table, get_member}
use Rattle.toml.specs.Parse.{parse_document}
use Rattle.bsc_text.specs.Lines.{same_octets}
use Rattle.bsc_settings.specs.Table.{Row, numbers_of, hub_table, node_table, least_reconnect_row, member_table, rule_table}
use Rattle.bsc_settings.specs.Values.{Value, number, value_at}
use Rattle.bsc_settings.specs.Policies.{listed}

-- Octets are a TOML document: UTF-8, and a text that the grammar of TOML gives these tables and keys.
abbrev pub IsDocument : List ℕ → Members → Type 0
IsDocument text doc = IsUtf8 text × (parse_document text ≡ Some doc)

-- The table `hub` of a document, where it has it.
abbrev pub hub_of : Members → Option Members
hub_of doc = option_and_then as_table (get_member (codes "hub") doc)

-- The table `node` of a document, where it has it.
abbrev pub node_of : Members → Option Members
node_of doc = option_and_then as_table (get_member (codes "node") doc)

-- The table `policy` of a document, where it has it.
abbrev pub policy_of : Members → Option Members
policy_of doc = option_and_then as_table (get_member (codes "policy") doc)

-- the keys of a table
abbrev pub keys_of : Members → List (List ℕ)
keys_of no_members = []
keys_of (member key value rest) = key ∷ keys_of rest

-- whether one of these rows has this word for its key
abbrev pub has_key : List Row → List ℕ → Bool
has_key [] word = false
has_key (r ∷ rows) word = same_octets word r.word || has_key rows word

-- the least and the greatest number that the row with this word takes, where it takes a number
abbrev pub range_in : List Row → List ℕ → Option (ℕ × ℕ)
range_in [] word = None
range_in (r ∷ rows) word = if same_octets word r.word then numbers_of r.kind else range_in rows word

-- whether each key of a table has a row
abbrev pub has_keys_of : List Row → Members → Bool
has_keys_of rows table = list_all (has_key rows) (keys_of table)

-- a number, where a row has one
abbrev pub amount : Option Value → ℕ
amount (Some (number n)) = n
amount value = 0

-- The rows of a table `node`: by whether a port for direct connections stands there, and by its least wait.
abbrev pub node_rows_of : Members → List Row
node_rows_of table =
    node_table (is_some (get_member (codes "direct_port") table)) (amount (value_at least_reconnect_row table))

-- whether what stands at a key, where something does, is a table with no keys but those of its rows
abbrev pub is_known : (Members → List Row) → Option Data → Bool
is_known rows None = true
is_known rows (Some value) = is_known_table rows (as_table value)
  where
    is_known_table : (Members → List Row) → Option Members → Bool
    is_known_table rows None = false
    is_known_table rows (Some table) = has_keys_of (rows table) table

-- whether what stands at a key, where something does, is a list of tables, each with no keys but those of these rows
abbrev pub is_known_list : List Row → Option Data → Bool
is_known_list rows None = true
is_known_list rows (Some value) = are_known (as_array value)
  where
    are_known : Option Items → Bool
    are_known None = false
    are_known (Some items) = list_all (λ it. is_known (λ _. rows) (Some it)) (listed items)

-- whether `policy`, where something stands there, is a table with nothing but lists of members and of rules, and in each of
-- them nothing but keys of its table of keys
abbrev pub is_known_policy : Option Data → Bool
is_known_policy None = true
is_known_policy (Some value) = is_known_table (as_table value)
  where
    is_known_table : Option Members → Bool
    is_known_table None = false
    is_known_table (Some table) =
        list_all (λ key. same_octets key (codes "member") || same_octets key (codes "rule")) (keys_of table)
        && is_known_list member_table (get_member (codes "member") table)
        && is_known_list rule_table (get_member (codes "rule") table)

-- Whether a document has nothing unknown: nothing but the tables `hub`, `node` and `policy`, in the first two nothing but
-- keys of its table of keys, and in `policy` nothing but members and rules, each with nothing but keys of theirs.
abbrev pub has_known_alone : Members → Bool
has_known_alone doc =
    list_all (λ key. same_octets key (codes "hub") || same_octets key (codes "node") || same_octets key (codes "policy")) (keys_of doc)
    && is_known (λ _. hub_table) (get_member (codes "hub") doc)
    && is_known node_rows_of (get_member (codes "node") doc)
    && is_known_policy (get_member (codes "policy") doc)
