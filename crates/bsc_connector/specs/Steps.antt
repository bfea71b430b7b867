-- What a connector does when it is told something, by all that it was told before (Annex AB, "Hub Connector").
use Rattle.std.specs.Prelude.{ℕ, nat_le, Bool, false, not, ◌&&◌, ◌||◌, List, Option, Some, None, is_none}
use Rattle.bsc_connector.specs.declared.side.Side.{Side}
use Rattle.bsc_connector.specs.declared.side.Side.TheVariants.{Primary, Failover}
use Rattle.bsc_connector.specs.declared.event.HubEvent.{HubEvent}
use Rattle.bsc_connector.specs.declared.step.ConnectorStep.{ConnectorStep}
use Rattle.bsc_connector.specs.declared.waits.Waits.{Waits}
use Rattle.bsc_connector.specs.Sides.{connects, fails, is_start, is_tick, is_up, is_under_way, due}

-- whether the time has come, where there is one
abbrev pub has_come : ℕ → Option ℕ → Bool
has_come now None = false
has_come now (Some at) = nat_le at now

-- By this Tick the side's next attempt is due.
abbrev pub is_due : Waits → Side → List HubEvent → HubEvent → Bool
is_due w s E e = is_tick e.event && has_come e.now (due w s E)

-- The failover is idle: given, not up, not under way, and not waited for.
abbrev pub is_idle : Waits → List HubEvent → Bool
is_idle w E = w.failover && not (is_up Failover E) && not (is_under_way w Failover E) && is_none (due w Failover E)

-- The primary hub is dialled at the start, and when its next attempt is due.
abbrev pub dials_primary : Waits → List HubEvent → HubEvent → Bool
dials_primary w E e = is_start e.event || is_due w Primary E e

-- The failover is dialled at once where it is idle when the primary hub fails, and else when its next attempt is due
-- while the primary hub isn't up.
abbrev pub dials_failover : Waits → List HubEvent → HubEvent → Bool
dials_failover w E e = (fails Primary e.event && is_idle w E) || (is_due w Failover E e && not (is_up Primary E))

-- The failover, up or under way, is dropped when the primary hub accepts.
abbrev pub drops_failover : Waits → List HubEvent → HubEvent → Bool
drops_failover w E e = connects Primary e.event && (is_up Failover E || is_under_way w Failover E)

-- The step of a connector that was told E, when it is told e.
abbrev pub connector_step : Waits → List HubEvent → HubEvent → ConnectorStep
connector_step w E e = record {
  dial_primary = dials_primary w E e;
  dial_failover = dials_failover w E e;
  drop_failover = drops_failover w E e;
}
