-- What is asked of the events that come to a node.
use Rattle.std.specs.Prelude.{◌≡◌, ◌<◌, ℕ, true, length, ⊤}
use Rattle.bsc_node.specs.declared.node_event.NodeEvent.{NodeEvent}
use Rattle.bsc_node.specs.declared.node_event.NodeEvent.TheVariants.{Opened, DialFailed, Came, CameText, Lost, Send}
use Rattle.bsc_node.specs.Logs.{Log}
use Rattle.bsc_node.specs.Conditions.{is_dialling, is_open}
use Rattle.bsc_node_core.specs.Tables.{is_name}
use Rattle.bsc_node_core.specs.Standing.{Base}

-- An NPDU that is sent has at least one octet.
abbrev pub HasOctets : NodeEvent → Type 0
HasOctets (Send dest npdu) = 0 < length npdu
HasOctets e = ⊤

-- the same base, once an event came at this time
abbrev pub at_time : ℕ → Base → Base
at_time t b = record b { now = t }

-- What is known of the link of an event that may come: it has a name of the node's, one that opened is under way, and one
-- over which a message came is open.
abbrev pub MayFollow : NodeEvent → Log → Type 0
MayFollow (Opened name) L = (is_name name ≡ true) × (is_dialling name L ≡ true)
MayFollow (DialFailed name) L = is_name name ≡ true
MayFollow (Came name o) L = (is_name name ≡ true) × (is_open name L ≡ true)
MayFollow (CameText name) L = is_name name ≡ true
MayFollow (Lost name) L = is_name name ≡ true
MayFollow e L = ⊤
