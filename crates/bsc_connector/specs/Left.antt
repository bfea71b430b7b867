-- How what is told leaves the sides of a connector. A caller that holds the connections of the sides goes by this.
use Rattle.std.specs.Prelude.{◌≡◌, Bool, true, false, ◌||◌}
use Rattle.bsc_connector.specs.declared.side.Side.{Side}
use Rattle.bsc_connector.specs.declared.side.Side.TheVariants.{Primary, Failover}
use Rattle.bsc_connector.specs.declared.event.ConnectorEvent.{ConnectorEvent}
use Rattle.bsc_connector.specs.declared.side_state.Attempt.{Attempt}
use Rattle.bsc_connector.specs.declared.side_state.Attempt.TheVariants.{Idle, UnderWay, Up}
use Rattle.bsc_connector.specs.declared.step.ConnectorStep.{ConnectorStep}
use Rattle.bsc_connector.specs.declared.connector.Connector.{Connector}
use Rattle.bsc_connector.specs.Sides.{is_start, connects, fails, clears}
use Rattle.bsc_connector.specs.Standing.{attempt_at}

-- whether an attempt is under way, or its hub accepted
abbrev pub is_live : Attempt → Bool
is_live UnderWay = true
is_live Up = true
is_live attempt = false

-- How an event leaves the sides: one that was dialled is under way, one whose hub accepted is up, one that was under
-- way or up and of which nothing was told stays so, and a failover that was is dropped where the primary hub accepted.
pub record LeavesConnector (old : Connector) (e : ConnectorEvent) (step : ConnectorStep) (new : Connector) : Type 0 where
  pub primary_dialled : (is_start e ≡ true → old.primary.attempt ≡ Idle) → step.dial_primary ≡ true → new.primary.attempt ≡ UnderWay
  pub failover_dialled : step.dial_failover ≡ true → new.failover.attempt ≡ UnderWay
  pub accepted : (s : Side) → connects s e ≡ true → attempt_at new s ≡ Up
  pub kept : (s : Side) → is_live (attempt_at old s) ≡ true → (clears s e || fails s e) ≡ false → attempt_at new s ≡ attempt_at old s
  pub drops : connects Primary e ≡ true → is_live old.failover.attempt ≡ true → step.drop_failover ≡ true
  pub untried : old.primary.attempt ≡ Idle → is_start e ≡ false → (clears Primary e || fails Primary e) ≡ false → new.primary.attempt ≡ Idle
