-- The tables of keys: what each takes, and what stands for one that is missing.
use Rattle.std.specs.Prelude.{ℕ, ◌≤◌, Bool, true, false, not, ◌||◌, List, [], ◌∷◌, codes, IsTrue, Option, Some, None}
use Rattle.bsc_octets.specs.declared.vmac.Vmac.{Vmac}
use Rattle.bsc_octets.specs.Addresses.{same_vmac, zero_vmac, broadcast}
use Rattle.bsc_octets.specs.declared.bounds.TheConstants.{LEAST_BVLC}
use Rattle.bsc_history.specs.declared.limits.TheConstants.{MOST_OUTBOX, MOST_ROWS}
use Rattle.bsc_settings.specs.declared.bounds.TheConstants.{GREATEST_MS, LEAST_MS, MOST_TURNS}
use Rattle.bsc_settings.specs.declared.key.KeyName.{KeyName}
use Rattle.bsc_settings.specs.declared.key.KeyName.TheVariants.{HubVmac, HubUuid, HubPort, HubMaxBvlc, HubMaxNpdu, HubRows, HubOutbox}
use Rattle.bsc_settings.specs.declared.key.KeyName.TheVariants.{HubConnectWaitMs, HubDisconnectWaitMs, HubHeartbeatMs, HubTurns}
use Rattle.bsc_settings.specs.declared.key.KeyName.TheVariants.{NodeVmac, NodeUuid, NodePrimary, NodeFailover, NodeDirectPort}
use Rattle.bsc_settings.specs.declared.key.KeyName.TheVariants.{NodeDirectUris, NodeMaxBvlc, NodeMaxNpdu, NodeConnectWaitMs}
use Rattle.bsc_settings.specs.declared.key.KeyName.TheVariants.{NodeDisconnectWaitMs, NodeHeartbeatMs, NodeLeastReconnectMs}
use Rattle.bsc_settings.specs.declared.key.KeyName.TheVariants.{NodeGreatestReconnectMs, NodeTurns, PolicyMember, PolicyRule, HubProduct}
use Rattle.bsc_settings.specs.declared.key.KeyName.TheVariants.{Unknown}

-- What a key takes: the text of an address that names one node, the text of a device UUID, the text of the URI of a hub,
-- the text of URIs with one space between two, the name of a group, a group or `*`, `allow` or `deny`, an integer from the
-- first number to the second, or nothing at all.
pub data Kind : Type 0 where
  address : Kind
  device : Kind
  hub_uri : Kind
  uris : Kind
  group : Kind
  group_or_all : Kind
  allow_or_deny : Kind
  integer : ℕ → ℕ → Kind
  nothing : Kind

-- What stands for a key that is missing: none does, and the key has to be there; the settings have none either; or this
-- number.
pub data Default : Type 0 where
  required : Default
  absent : Default
  or_else : ℕ → Default

-- A row of a table: the key, the word that a document has for it, what it takes, and its default.
pub record Row : Type 0 where
  pub key : KeyName
  pub word : List ℕ
  pub kind : Kind
  pub default : Default

abbrev pub row : KeyName → List ℕ → Kind → Default → Row
row key word kind default = record { key = key; word = word; kind = kind; default = default }

-- The rows of the table `hub`.
abbrev pub vmac_row : Row
vmac_row = row HubVmac (codes "vmac") address required

abbrev pub uuid_row : Row
uuid_row = row HubUuid (codes "uuid") device required

abbrev pub port_row : Row
port_row = row HubPort (codes "port") (integer 1 65535) required

abbrev pub max_bvlc_row : Row
max_bvlc_row = row HubMaxBvlc (codes "max_bvlc") (integer LEAST_BVLC 65535) (or_else 16384)

abbrev pub max_npdu_row : Row
max_npdu_row = row HubMaxNpdu (codes "max_npdu") (integer 1 65535) (or_else 1497)

abbrev pub rows_row : Row
rows_row = row HubRows (codes "rows") (integer 1 MOST_ROWS) (or_else 256)

abbrev pub outbox_row : Row
outbox_row = row HubOutbox (codes "outbox") (integer 2 MOST_OUTBOX) (or_else 64)

abbrev pub connect_wait_row : Row
connect_wait_row = row HubConnectWaitMs (codes "connect_wait_ms") (integer LEAST_MS GREATEST_MS) (or_else 10000)

abbrev pub disconnect_wait_row : Row
disconnect_wait_row = row HubDisconnectWaitMs (codes "disconnect_wait_ms") (integer LEAST_MS GREATEST_MS) (or_else 10000)

abbrev pub heartbeat_row : Row
heartbeat_row = row HubHeartbeatMs (codes "heartbeat_ms") (integer LEAST_MS GREATEST_MS) (or_else 300000)

abbrev pub turns_row : Row
turns_row = row HubTurns (codes "turns") (integer 1 MOST_TURNS) (or_else MOST_TURNS)

-- The table `hub`. Faults are looked for in its order.
abbrev pub hub_table : List Row
hub_table =
    vmac_row ∷ uuid_row ∷ port_row ∷ max_bvlc_row ∷ max_npdu_row ∷ rows_row ∷ outbox_row ∷ connect_wait_row
    ∷ disconnect_wait_row ∷ heartbeat_row ∷ turns_row ∷ []

-- The rows of the table `node`.
abbrev pub node_vmac_row : Row
node_vmac_row = row NodeVmac (codes "vmac") address required

abbrev pub node_uuid_row : Row
node_uuid_row = row NodeUuid (codes "uuid") device required

abbrev pub primary_row : Row
primary_row = row NodePrimary (codes "primary") hub_uri required

abbrev pub failover_row : Row
failover_row = row NodeFailover (codes "failover") hub_uri absent

abbrev pub direct_port_row : Row
direct_port_row = row NodeDirectPort (codes "direct_port") (integer 1 65535) absent

-- A node that accepts direct connections has to tell its URIs, and another must not.
abbrev pub uris_kind : Bool → Kind
uris_kind true = uris
uris_kind false = nothing

abbrev pub uris_default : Bool → Default
uris_default true = required
uris_default false = absent

abbrev pub direct_uris_row : Bool → Row
direct_uris_row accepts = row NodeDirectUris (codes "direct_uris") (uris_kind accepts) (uris_default accepts)

abbrev pub node_max_bvlc_row : Row
node_max_bvlc_row = row NodeMaxBvlc (codes "max_bvlc") (integer LEAST_BVLC 65535) (or_else 16384)

abbrev pub node_max_npdu_row : Row
node_max_npdu_row = row NodeMaxNpdu (codes "max_npdu") (integer 1 65535) (or_else 1497)

abbrev pub node_connect_wait_row : Row
node_connect_wait_row = row NodeConnectWaitMs (codes "connect_wait_ms") (integer LEAST_MS GREATEST_MS) (or_else 10000)

abbrev pub node_disconnect_wait_row : Row
node_disconnect_wait_row = row NodeDisconnectWaitMs (codes "disconnect_wait_ms") (integer LEAST_MS GREATEST_MS) (or_else 10000)

abbrev pub node_heartbeat_row : Row
node_heartbeat_row = row NodeHeartbeatMs (codes "heartbeat_ms") (integer LEAST_MS GREATEST_MS) (or_else 300000)

abbrev pub least_reconnect_row : Row
least_reconnect_row = row NodeLeastReconnectMs (codes "least_reconnect_ms") (integer LEAST_MS GREATEST_MS) (or_else 2000)

-- The greatest wait is the least one or more.
abbrev pub greatest_reconnect_row : ℕ → Row
greatest_reconnect_row least = row NodeGreatestReconnectMs (codes "greatest_reconnect_ms") (integer least GREATEST_MS) (or_else 30000)

abbrev pub node_turns_row : Row
node_turns_row = row NodeTurns (codes "turns") (integer 1 MOST_TURNS) (or_else MOST_TURNS)

-- The table `node`, of a node that accepts direct connections or doesn't, and whose least wait this is. Faults are looked
-- for in its order.
abbrev pub node_table : Bool → ℕ → List Row
node_table accepts least =
    node_vmac_row ∷ node_uuid_row ∷ primary_row ∷ failover_row ∷ direct_port_row ∷ direct_uris_row accepts
    ∷ node_max_bvlc_row ∷ node_max_npdu_row ∷ node_connect_wait_row ∷ node_disconnect_wait_row ∷ node_heartbeat_row
    ∷ least_reconnect_row ∷ greatest_reconnect_row least ∷ node_turns_row ∷ []

-- The rows of a member of the table `policy`. A fault of one is a fault of the list of members.
abbrev pub member_device_row : Row
member_device_row = row PolicyMember (codes "device") device required

abbrev pub member_vmac_row : Row
member_vmac_row = row PolicyMember (codes "vmac") address required

abbrev pub member_group_row : Row
member_group_row = row PolicyMember (codes "group") group required

-- The keys of a member.
abbrev pub member_table : List Row
member_table =
    member_device_row ∷ member_vmac_row ∷ member_group_row ∷ []

-- The rows of a rule of the table `policy`. A fault of one is a fault of the list of rules.
abbrev pub rule_do_row : Row
rule_do_row = row PolicyRule (codes "do") allow_or_deny required

abbrev pub rule_from_row : Row
rule_from_row = row PolicyRule (codes "from") group_or_all required

abbrev pub rule_to_row : Row
rule_to_row = row PolicyRule (codes "to") group_or_all required

-- The keys of a rule.
abbrev pub rule_table : List Row
rule_table =
    rule_do_row ∷ rule_from_row ∷ rule_to_row ∷ []

-- What each key is called in a fault line.
abbrev pub name_of : KeyName → List ℕ
name_of HubVmac = codes "hub.vmac"
name_of HubUuid = codes "hub.uuid"
name_of HubPort = codes "hub.port"
name_of HubMaxBvlc = codes "hub.max_bvlc"
name_of HubMaxNpdu = codes "hub.max_npdu"
name_of HubRows = codes "hub.rows"
name_of HubOutbox = codes "hub.outbox"
name_of HubConnectWaitMs = codes "hub.connect_wait_ms"
name_of HubDisconnectWaitMs = codes "hub.disconnect_wait_ms"
name_of HubHeartbeatMs = codes "hub.heartbeat_ms"
name_of HubTurns = codes "hub.turns"
name_of NodeVmac = codes "node.vmac"
name_of NodeUuid = codes "node.uuid"
name_of NodePrimary = codes "node.primary"
name_of NodeFailover = codes "node.failover"
name_of NodeDirectPort = codes "node.direct_port"
name_of NodeDirectUris = codes "node.direct_uris"
name_of NodeMaxBvlc = codes "node.max_bvlc"
name_of NodeMaxNpdu = codes "node.max_npdu"
name_of NodeConnectWaitMs = codes "node.connect_wait_ms"
name_of NodeDisconnectWaitMs = codes "node.disconnect_wait_ms"
name_of NodeHeartbeatMs = codes "node.heartbeat_ms"
name_of NodeLeastReconnectMs = codes "node.least_reconnect_ms"
name_of NodeGreatestReconnectMs = codes "node.greatest_reconnect_ms"
name_of NodeTurns = codes "node.turns"
name_of PolicyMember = codes "policy.member"
name_of PolicyRule = codes "policy.rule"
name_of HubProduct = codes "hub.product"
name_of Unknown = codes "unknown"

-- Whether an address names one node: it is neither zero nor the broadcast address.
abbrev pub is_node_address : Vmac → Bool
is_node_address v = not (same_vmac v zero_vmac || same_vmac v broadcast)

abbrev pub IsNodeAddress : Vmac → Type 0
IsNodeAddress v = IsTrue (is_node_address v)

-- A number is one that the key takes.
abbrev pub IsWithin : Kind → ℕ → Type 0
IsWithin (integer least greatest) n = (least ≤ n) × (n ≤ greatest)
IsWithin kind n = ⊥

-- A number is one that the row takes.
abbrev pub RowTakes : Row → ℕ → Type 0
RowTakes r n = IsWithin r.kind n

-- the numbers that a kind takes, the least and the greatest
abbrev pub numbers_of : Kind → Option (ℕ × ℕ)
numbers_of (integer least greatest) = Some (least, greatest)
numbers_of kind = None
