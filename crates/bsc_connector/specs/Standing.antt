-- For which waits and events a connector stands, and what it may be told.
use Rattle.std.specs.Prelude.{◌≡◌, ◌+◌, true, List, [], ◌∷◌, ◌++◌, ⊤}
use Rattle.bsc_connector.specs.declared.side.Side.{Side}
use Rattle.bsc_connector.specs.declared.side.Side.TheVariants.{Primary, Failover}
use Rattle.bsc_connector.specs.declared.event.ConnectorEvent.{ConnectorEvent}
use Rattle.bsc_connector.specs.declared.event.ConnectorEvent.TheVariants.{Connected, Failed, Lost}
use Rattle.bsc_connector.specs.declared.event.HubEvent.{HubEvent}
use Rattle.bsc_connector.specs.declared.side_state.Attempt.{Attempt}
use Rattle.bsc_connector.specs.declared.side_state.SideState.{SideState}
use Rattle.bsc_connector.specs.declared.waits.Waits.{Waits}
use Rattle.bsc_connector.specs.declared.step.ConnectorStep.{ConnectorStep}
use Rattle.bsc_connector.specs.declared.connector.Connector.{Connector}
use Rattle.bsc_connector.specs.Sides.{is_up, due, is_tried, failures, wait}
use Rattle.bsc_connector.specs.Steps.{connector_step}
use Rattle.bsc_connector.specs.Kept.{says_up, says_due, says_tried, says_under_way}

-- What is kept of a side stands for what was told.
pub record SideStands (w : Waits) (s : Side) (E : List HubEvent) (side : SideState) : Type 0 where
  pub up : is_up s E ≡ says_up side.attempt
  pub due : due w s E ≡ says_due side.attempt
  pub tried : is_tried w s E ≡ says_tried side.attempt
  pub wait : side.next_wait ≡ wait w (failures s E + 1)

-- A connector was made with these waits and told these events, newest last.
pub record ConnectorStands (c : Connector) (w : Waits) (E : List HubEvent) : Type 0 where
  pub waits : c.waits ≡ w
  pub primary : SideStands w Primary E c.primary
  pub failover : SideStands w Failover E c.failover

-- For whatever waits and events it stood, the step is theirs, and it stands for them and this event.
abbrev pub ConnectorAnswers : Connector → Connector → HubEvent → ConnectorStep → Type 0
ConnectorAnswers old new e step = (w : Waits) (E : List HubEvent) → ConnectorStands old w E
    → (step ≡ connector_step w E e) × ConnectorStands new w (E ++ e ∷ [])

-- ---- what a connector may be told

abbrev pub attempt_at : Connector → Side → Attempt
attempt_at c Primary = c.primary.attempt
attempt_at c Failover = c.failover.attempt

-- A side is under way when its hub accepts or the attempt fails, and connected when it is lost. All else may come at
-- any time.
abbrev pub MayCome : Connector → ConnectorEvent → Type 0
MayCome c (Connected s) = says_under_way (attempt_at c s) ≡ true
MayCome c (Failed s) = says_under_way (attempt_at c s) ≡ true
MayCome c (Lost s) = says_up (attempt_at c s) ≡ true
MayCome c e = ⊤
