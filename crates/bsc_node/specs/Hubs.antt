-- The hub connections of a node, by what its connector was told.
use Rattle.std.specs.Prelude.{ℕ, Bool, true, false, List, [], ◌∷◌, filter_map, Option, Some, None, is_some}
use Rattle.std.specs.List.{list_any}
use Rattle.bsc_connector.specs.declared.side.Side.{Side}
use Rattle.bsc_connector.specs.declared.side.Side.TheVariants.{Primary, Failover}
use Rattle.bsc_connector.specs.declared.hub_use.HubUse.{HubUse}
use Rattle.bsc_connector.specs.declared.hub_use.HubUse.TheVariants.{NoHub, Primary as UsesPrimary, Failover as UsesFailover}
use Rattle.bsc_connector.specs.declared.event.ConnectorEvent.{ConnectorEvent}
use Rattle.bsc_connector.specs.declared.event.ConnectorEvent.TheVariants.{Connected}
use Rattle.bsc_connector.specs.declared.event.HubEvent.{HubEvent}
use Rattle.bsc_connector.specs.declared.step.ConnectorStep.{ConnectorStep}
use Rattle.bsc_connector.specs.declared.waits.Waits.{Waits}
use Rattle.bsc_connector.specs.Back.{at_last}
use Rattle.bsc_connector.specs.Sides as Sides
use Rattle.bsc_connector.specs.Steps.{connector_step}
use Rattle.bsc_node.specs.declared.link_name.LinkName.{LinkName}
use Rattle.bsc_node.specs.declared.link_name.LinkName.TheVariants.{Hub}
use Rattle.bsc_node.specs.Logs.{Made, Line, connector, Log, Rule, now}
use Rattle.bsc_node.specs.Links.{life}

-- how long to wait after failures, and whether there is a failover
abbrev pub waits : Made → Waits
waits a = record { failover = is_some a.limits.failover; least = a.limits.least_wait; greatest = a.limits.greatest_wait }

abbrev pub hub_event_of : Line → Option HubEvent
hub_event_of (connector e) = Some e
hub_event_of m = None

-- What the connector was told.
abbrev pub hub_events : Log → List HubEvent
hub_events L = filter_map hub_event_of L

-- The hub in use.
abbrev pub hub_use : Log → HubUse
hub_use L = Sides.hub_use (hub_events L)

-- Whether the side is up.
abbrev pub is_up : Side → Log → Bool
is_up s L = Sides.is_up s (hub_events L)

-- Whether an attempt at the side is under way.
abbrev pub is_under_way : Made → Side → Log → Bool
is_under_way a s L = Sides.is_under_way (waits a) s (hub_events L)

-- The hub that was in use before the connector was last told something.
abbrev pub hub_use_before : Log → HubUse
hub_use_before L = at_last (λ E e. Sides.hub_use E) NoHub (hub_events L)

abbrev pub no_step : ConnectorStep
no_step = record { dial_primary = false; dial_failover = false; drop_failover = false }

-- The connector's step when it was last told something.
abbrev pub newest_step : Made → Log → ConnectorStep
newest_step a L = at_last (connector_step (waits a)) no_step (hub_events L)

-- A failover is dropped once the primary hub has accepted since the failover's link began.
abbrev pub is_dropped : Side → Log → Bool
is_dropped Primary L = false
is_dropped Failover L = list_any (λ e. Sides.connects Primary e.event) (hub_events (life L (Hub Failover)))

-- The connector is told this.
abbrev pub told : ConnectorEvent → Rule
told event L = connector (record { now = now L; event = event }) ∷ []

abbrev pub same_use : HubUse → HubUse → Bool
same_use NoHub NoHub = true
same_use UsesPrimary UsesPrimary = true
same_use UsesFailover UsesFailover = true
same_use u v = false

-- the link of the hub in use, where there is one
abbrev pub link_in_use : HubUse → Option LinkName
link_in_use NoHub = None
link_in_use UsesPrimary = Some (Hub Primary)
link_in_use UsesFailover = Some (Hub Failover)

-- The hub connection status of an Advertisement: 0 where no hub is in use, 1 for the primary, 2 for the failover.
abbrev pub hub_status : HubUse → ℕ
hub_status NoHub = 0
hub_status UsesPrimary = 1
hub_status UsesFailover = 2

-- whether the hub of a side accepted
abbrev pub is_connected_event : ConnectorEvent → Bool
is_connected_event (Connected s) = true
is_connected_event e = false
