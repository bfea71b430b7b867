-- Rows, faults and names, worked by hand.
-- No clause needs it: worked examples.
use Rattle.std.proofs.Common.{◌≡◌, ◌+◌, ◌++◌, codes, pos, negsuc, true, false, map, [], ◌∷◌, Some, None, refl}
use Rattle.hex.specs.Hex.{decode_pairs}
use Rattle.toml.specs.Data.{member, no_members, table, string, integer}
use Rattle.bsc_history.specs.declared.limits.TheConstants.{MOST_ROWS}
use Rattle.bsc_settings.specs.declared.key.KeyName.TheVariants.{HubVmac, HubUuid, NodeVmac, Unknown}
use Rattle.bsc_settings.specs.Table.{name_of, hub_table, vmac_row, port_row, rows_row, turns_row, node_table, failover_row, direct_port_row, direct_uris_row, greatest_reconnect_row}
use Rattle.bsc_settings.specs.Uris.{cut_at_spaces}
use Rattle.bsc_settings.specs.Values.{number, vmac, text as text_value, missing as no_value, value_at}
use Rattle.bsc_settings.specs.Faults.{fault_of, has_small_product}

-- each key of the table is called by its table and its word
named : map (λ r. name_of r.key) hub_table ≡ map (λ r. codes "hub." ++ r.word) hub_table
named = refl

named_node : map (λ r. name_of r.key) (node_table true 100) ≡ map (λ r. codes "node." ++ r.word) (node_table true 100)
named_node = refl

-- a number that stands there, at its limit and past it
most_rows : value_at rows_row (member (codes "rows") (integer (pos MOST_ROWS)) no_members) ≡ Some (number MOST_ROWS)
most_rows = refl

too_many_rows : value_at rows_row (member (codes "rows") (integer (pos (MOST_ROWS + 1))) no_members) ≡ None
too_many_rows = refl

-- minus one
negative : value_at rows_row (member (codes "rows") (integer (negsuc 0)) no_members) ≡ None
negative = refl

-- a text where a number is owed
text : value_at rows_row (member (codes "rows") (string (codes "12")) no_members) ≡ None
text = refl

-- a default, and a key that is required
default : value_at turns_row no_members ≡ Some (number 1099511627776)
default = refl

missing : value_at port_row no_members ≡ None
missing = refl

-- an address, and the one that is reserved
address : value_at vmac_row (member (codes "vmac") (string (codes "0200000000ff")) no_members)
    ≡ Some (vmac (record { 0 = 2 ∷ 0 ∷ 0 ∷ 0 ∷ 0 ∷ 255 ∷ [] }))
unfolding decode_pairs
address = refl

reserved : value_at vmac_row (member (codes "vmac") (string (codes "000000000000")) no_members) ≡ None
unfolding decode_pairs
reserved = refl

-- 1024 rows, outboxes of 64 frames and messages of 16,384 octets are 2^30 octets; one octet more is too many
small : has_small_product (member (codes "rows") (integer (pos 1024)) no_members) ≡ true
small = refl

large : has_small_product (member (codes "max_bvlc") (integer (pos 16385)) (member (codes "rows") (integer (pos 1024)) no_members)) ≡ false
large = refl

-- a document without a table has no fault, and one with an empty table no address
nothing : fault_of no_members ≡ None
nothing = refl

empty : fault_of (member (codes "hub") (table no_members) no_members) ≡ Some HubVmac
empty = refl

-- an address without a device
no_device : fault_of (member (codes "hub") (table (member (codes "vmac") (string (codes "0200000000ff")) no_members)) no_members)
    ≡ Some HubUuid
unfolding decode_pairs
no_device = refl

-- a key that isn't in the table, and `hub` that is none
other : fault_of (member (codes "rows") (integer (pos 1)) no_members) ≡ Some Unknown
other = refl

no_table : fault_of (member (codes "hub") (integer (pos 1)) no_members) ≡ Some Unknown
no_table = refl

empty_node : fault_of (member (codes "node") (table no_members) no_members) ≡ Some NodeVmac
empty_node = refl

-- a key that may be missing
no_failover : value_at failover_row no_members ≡ Some no_value
no_failover = refl

no_port : value_at direct_port_row no_members ≡ Some no_value
no_port = refl

-- the URI of a hub
failover : value_at failover_row (member (codes "failover") (string (codes "ws://a")) no_members) ≡ Some (text_value (codes "ws://a"))
failover = refl

not_ws : value_at failover_row (member (codes "failover") (string (codes "wss://a")) no_members) ≡ None
not_ws = refl

-- the URIs of a node: with one space between two
words : cut_at_spaces (codes "a bc") ≡ codes "a" ∷ codes "bc" ∷ []
words = refl

two_uris : value_at (direct_uris_row true) (member (codes "direct_uris") (string (codes "ws://a ws://b")) no_members)
    ≡ Some (text_value (codes "ws://a ws://b"))
two_uris = refl

two_spaces : value_at (direct_uris_row true) (member (codes "direct_uris") (string (codes "ws://a  ws://b")) no_members) ≡ None
two_spaces = refl

-- they have to be there with a port, and must not without
uris_of_no_port : value_at (direct_uris_row false) (member (codes "direct_uris") (string (codes "ws://a")) no_members) ≡ None
uris_of_no_port = refl

no_uris : value_at (direct_uris_row true) no_members ≡ None
no_uris = refl

-- the default of the greatest wait is below the least one
large_least : value_at (greatest_reconnect_row 30001) no_members ≡ None
large_least = refl
