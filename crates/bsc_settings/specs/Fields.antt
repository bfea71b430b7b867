-- The settings that a document says.
use Rattle.std.specs.Prelude.{◌≡◌, ℕ, Bool, List, [], ◌∷◌, map, Option, Some, None, option_map}
use Rattle.std.specs.Arc.{arc_value}
use Rattle.std.specs.Borrow.{Bor}
use Rattle.toml.specs.Data.{Members}
use Rattle.bsc_settings.specs.declared.hub.HubSettings.{HubSettings}
use Rattle.bsc_settings.specs.declared.node.NodeSettings.{NodeSettings}
use Rattle.bsc_settings.specs.declared.node.NodePeers.{NodePeers}
use Rattle.bsc_settings.specs.declared.node.NodeSizes.{NodeSizes}
use Rattle.bsc_settings.specs.declared.node.NodeBounds.{NodeBounds}
use Rattle.bsc_settings.specs.declared.settings.Settings.{Settings}
use Rattle.bsc_settings.specs.Table.{Row, hub_table, node_vmac_row, node_uuid_row, primary_row, failover_row, direct_port_row}
use Rattle.bsc_settings.specs.Table.{direct_uris_row, node_max_bvlc_row, node_max_npdu_row, node_connect_wait_row}
use Rattle.bsc_settings.specs.Table.{node_disconnect_wait_row, node_heartbeat_row, least_reconnect_row, greatest_reconnect_row}
use Rattle.bsc_settings.specs.Table.{node_turns_row}
use Rattle.bsc_settings.specs.Values.{Value, vmac, uuid, number, number_if, text, text_if, value_at}
use Rattle.bsc_settings.specs.Documents.{hub_of, node_of, policy_of, node_rows_of}
use Rattle.bsc_settings.specs.Faults.{fault_of}
use Rattle.bsc_settings.specs.Policies.{parts_in, parts_of}

-- The values of a table, in the order of its rows.
abbrev pub values_of : List Row → Members → List (Option Value)
values_of rows table = map (λ r. value_at r table) rows

-- The fields of the settings of a hub, in the same order.
abbrev pub fields_of : HubSettings → List (Option Value)
fields_of h =
    Some (vmac h.vmac) ∷ Some (uuid h.uuid) ∷ Some (number h.port) ∷ Some (number h.max_bvlc) ∷ Some (number h.max_npdu)
    ∷ Some (number h.rows) ∷ Some (number h.outbox) ∷ Some (number h.connect_wait_ms)
    ∷ Some (number h.disconnect_wait_ms) ∷ Some (number h.heartbeat_ms) ∷ Some (number h.turns) ∷ []

-- The fields of the settings of a node, in the order of its rows.
abbrev pub node_fields_of : NodeSettings → List (Option Value)
node_fields_of n =
    Some (vmac n.vmac) ∷ Some (uuid n.uuid) ∷ Some (text n.primary) ∷ Some (text_if n.failover)
    ∷ Some (number_if n.direct_port) ∷ Some (text_if n.direct_uris) ∷ Some (number n.max_bvlc) ∷ Some (number n.max_npdu)
    ∷ Some (number n.connect_wait_ms) ∷ Some (number n.disconnect_wait_ms) ∷ Some (number n.heartbeat_ms)
    ∷ Some (number n.least_reconnect_ms) ∷ Some (number n.greatest_reconnect_ms) ∷ Some (number n.turns) ∷ []

-- The rows of a node in three parts, as they are read: a table `node` is these, one after the other.
abbrev pub peer_rows : Bool → List Row
peer_rows accepts = node_vmac_row ∷ node_uuid_row ∷ primary_row ∷ failover_row ∷ direct_port_row ∷ direct_uris_row accepts ∷ []

abbrev pub size_rows : List Row
size_rows =
    node_max_bvlc_row ∷ node_max_npdu_row ∷ node_connect_wait_row ∷ node_disconnect_wait_row ∷ node_heartbeat_row
    ∷ least_reconnect_row ∷ []

abbrev pub bound_rows : ℕ → List Row
bound_rows least = greatest_reconnect_row least ∷ node_turns_row ∷ []

-- a text that may be missing, as the document has it
abbrev pub text_in : Option (Bor (List ℕ)) → Value
text_in s = text_if (option_map (λ t. t.now) s)

-- The fields of the three parts, in the order of their rows.
abbrev pub peer_fields : NodePeers → List (Option Value)
peer_fields p =
    Some (vmac p.vmac) ∷ Some (uuid p.uuid) ∷ Some (text p.primary.now) ∷ Some (text_in p.failover)
    ∷ Some (number_if p.direct_port) ∷ Some (text_in p.direct_uris) ∷ []

abbrev pub size_fields : NodeSizes → List (Option Value)
size_fields s =
    Some (number s.max_bvlc) ∷ Some (number s.max_npdu) ∷ Some (number s.connect_wait_ms)
    ∷ Some (number s.disconnect_wait_ms) ∷ Some (number s.heartbeat_ms) ∷ Some (number s.least_reconnect_ms) ∷ []

abbrev pub bound_fields : NodeBounds → List (Option Value)
bound_fields b = Some (number b.greatest_reconnect_ms) ∷ Some (number b.turns) ∷ []

-- These are the settings that a document says: it has no fault, each field is the value of its row, and the policy has the
-- members and the rules that its table lists. There are settings of a hub exactly where the document has the table `hub`, of
-- a node exactly where it has `node`, and a policy exactly where it has `policy`.
pub record IsSaidBy (doc : Members) (s : Settings) : Type 0 where
  pub no_fault : fault_of doc ≡ None
  pub hub : option_map fields_of s.hub ≡ option_map (values_of hub_table) (hub_of doc)
  pub node : option_map node_fields_of s.node ≡ option_map (λ t. values_of (node_rows_of t) t) (node_of doc)
  pub policy : option_map (λ p. parts_of (arc_value p)) s.policy ≡ option_map parts_in (policy_of doc)
