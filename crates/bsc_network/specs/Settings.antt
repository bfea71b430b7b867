-- What a network is made of: the hubs and the nodes that were added, where they are found, and the settings of a node.
use Rattle.std.specs.Prelude.{ℕ, ◌+◌, nat_lt, Bool, if◌then◌else◌, List, [], ◌∷◌, ◌++◌, codes, filter_map, Option, Some, None}
use Rattle.std.specs.Fmt.{decimal}
use Rattle.bsc_octets.specs.declared.identity.Identity.{Identity}
use Rattle.bsc_history.specs.declared.limits.About.{About}
use Rattle.bsc_history.specs.declared.limits.Limits.{Limits}
use Rattle.bsc_node.specs.declared.node_limits.NodeLimits.{NodeLimits}
use Rattle.bsc_node.specs.Logs.{Made}
use Rattle.bsc_script.specs.States.{default_times}
use Rattle.bsc_network.specs.declared.limits.TheConstants.{GREATEST_WAIT_MS, LEAST_WAIT_MS}

pub data Added : Type 0 where
  -- a hub, with its identity and its limits
  hub : About → Added
  -- a node, with its identity; and whether it accepts direct connections
  node : Identity → Bool → Added

-- one hub more, and one node more
abbrev pub and_hub : List Added → Identity → Limits → List Added
and_hub added who limits = added ++ hub (record { hub = who; limits = limits }) ∷ []

abbrev pub and_node : List Added → Identity → Bool → List Added
and_node added own direct = added ++ node own direct ∷ []

-- ---- where they are found

-- A hub's URI: `ws://hub`, its number and `/`.
abbrev pub hub_uri : ℕ → List ℕ
hub_uri number = codes "ws://hub" ++ decimal number ++ codes "/"

-- The URI of a node that accepts direct connections: `ws://node`, its number and `/`.
abbrev pub node_uri : ℕ → List ℕ
node_uri number = codes "ws://node" ++ decimal number ++ codes "/"

-- ---- the hubs

abbrev pub hub_in : Added → Option About
hub_in (hub about) = Some about
hub_in (node own direct) = None

-- The hubs, in the order in which they were added. Hub 0 is the first.
abbrev pub hubs : List Added → List About
hubs added = filter_map hub_in added

-- ---- the nodes

-- The settings of a node with this number, before which so many hubs were added. Hub 0 is its primary hub; hub 1 is its
-- failover where two hubs were added.
abbrev pub settings : ℕ → ℕ → Bool → NodeLimits
settings hubs_before number direct = record {
  times = default_times;
  primary = hub_uri 0;
  failover = if nat_lt 1 hubs_before then Some (hub_uri 1) else None;
  uris = if direct then Some (node_uri number) else None;
  least_wait = LEAST_WAIT_MS;
  greatest_wait = GREATEST_WAIT_MS;
}

-- the nodes of a list of what was added after so many hubs and so many nodes
abbrev pub nodes_after : ℕ → ℕ → List Added → List Made
nodes_after hubs_before number [] = []
nodes_after hubs_before number (hub about ∷ added) = nodes_after (hubs_before + 1) number added
nodes_after hubs_before number (node own direct ∷ added) =
    record { own = own; limits = settings hubs_before number direct } ∷ nodes_after hubs_before (number + 1) added

-- The nodes, in the order in which they were added. Node 0 is the first.
abbrev pub nodes : List Added → List Made
nodes added = nodes_after 0 0 added
