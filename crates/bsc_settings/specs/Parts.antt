-- What settings say to the crates that serve a hub and run a node.
use Rattle.bsc_octets.specs.declared.identity.Identity.{Identity}
use Rattle.bsc_history.specs.declared.limits.Limits.{Limits}
use Rattle.bsc_history.specs.declared.limits.TheConstants.{MOST_CALLERS, MOST_CALLS}
use Rattle.bsc_accept.specs.declared.times.Times.{Times}
use Rattle.bsc_settings.specs.declared.hub.HubSettings.{HubSettings}
use Rattle.bsc_settings.specs.declared.node.NodeSettings.{NodeSettings}

-- Who the hub is.
abbrev pub identity_of : HubSettings → Identity
identity_of h = record { vmac = h.vmac; device = h.uuid; max_bvlc = h.max_bvlc; max_npdu = h.max_npdu }

-- The limits that it is made with: its rows and its outboxes, the most calls and the most callers.
abbrev pub limits_of : HubSettings → Limits
limits_of h = record { rows = h.rows; outbox = h.outbox; calls = MOST_CALLS; callers = MOST_CALLERS }

-- How long its sessions wait.
abbrev pub times_of : HubSettings → Times
times_of h = record { connect_wait = h.connect_wait_ms; disconnect_wait = h.disconnect_wait_ms; heartbeat = h.heartbeat_ms }

-- Who the node is when it starts.
abbrev pub node_identity_of : NodeSettings → Identity
node_identity_of n = record { vmac = n.vmac; device = n.uuid; max_bvlc = n.max_bvlc; max_npdu = n.max_npdu }

-- How long its connections wait.
abbrev pub node_times_of : NodeSettings → Times
node_times_of n = record { connect_wait = n.connect_wait_ms; disconnect_wait = n.disconnect_wait_ms; heartbeat = n.heartbeat_ms }
