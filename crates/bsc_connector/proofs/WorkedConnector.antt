-- Connectors over written-out lists of events: each line's step, and the hub in use after it, by computation.
-- No clause needs it: worked examples.
use Rattle.std.proofs.Common.{◌≡◌, ℕ, true, false, List, [], ◌∷◌, ◌++◌, Some, refl}
use Rattle.bsc_connector.specs.declared.side.Side.TheVariants.{Primary, Failover}
use Rattle.bsc_connector.specs.declared.hub_use.HubUse.{HubUse}
use Rattle.bsc_connector.specs.declared.hub_use.HubUse.TheVariants.{NoHub, Primary as UsesPrimary, Failover as UsesFailover}
use Rattle.bsc_connector.specs.declared.event.ConnectorEvent.{ConnectorEvent}
use Rattle.bsc_connector.specs.declared.event.ConnectorEvent.TheVariants.{Start, Connected, Failed, Lost, Tick}
use Rattle.bsc_connector.specs.declared.step.ConnectorStep.{ConnectorStep}
use Rattle.bsc_connector.specs.declared.event.HubEvent.{HubEvent}
use Rattle.bsc_connector.specs.declared.waits.Waits.{Waits}
use Rattle.bsc_connector.specs.Sides.{hub_use, due, is_under_way}
use Rattle.bsc_connector.specs.Steps.{connector_step}

abbrev at : ℕ → ConnectorEvent → HubEvent
at now event = record { now = now; event = event }

-- a failover, and the default waits
abbrev waits : Waits
waits = record { failover = true; least = 2000; greatest = 30000 }

abbrev nothing : ConnectorStep
nothing = record { dial_primary = false; dial_failover = false; drop_failover = false }

abbrev dials_primary : ConnectorStep
dials_primary = record nothing { dial_primary = true }

abbrev dials_failover : ConnectorStep
dials_failover = record nothing { dial_failover = true }

abbrev drops_failover : ConnectorStep
drops_failover = record nothing { drop_failover = true }

-- what each event of a list brings about, the first of them after E
abbrev steps_after : List HubEvent → List HubEvent → List ConnectorStep
steps_after E [] = []
steps_after E (e ∷ es) = connector_step waits E e ∷ steps_after (E ++ e ∷ []) es

abbrev uses_after : List HubEvent → List HubEvent → List HubUse
uses_after E [] = []
uses_after E (e ∷ es) = hub_use (E ++ e ∷ []) ∷ uses_after (E ++ e ∷ []) es

-- The primary hub fails and the failover is dialled in the same step; the next attempt at the primary hub is due at
-- 2,100; when it accepts, the failover is dropped.
abbrev comes_back : List HubEvent
comes_back =
    at 0 Start ∷ at 100 (Failed Primary) ∷ at 200 (Connected Failover) ∷ at 2099 Tick ∷ at 2100 Tick ∷ at 2200 (Connected Primary) ∷ []

comes_back-steps : steps_after [] comes_back ≡ dials_primary ∷ dials_failover ∷ nothing ∷ nothing ∷ dials_primary ∷ drops_failover ∷ []
comes_back-steps = refl

comes_back-uses : uses_after [] comes_back ≡ NoHub ∷ NoHub ∷ UsesFailover ∷ UsesFailover ∷ UsesFailover ∷ UsesPrimary ∷ []
comes_back-uses = refl

-- The primary hub accepts while the failover is under way: it is dropped, and dialled at once when the primary is lost.
abbrev dropped_under_way : List HubEvent
dropped_under_way =
    at 0 Start ∷ at 100 (Failed Primary) ∷ at 2100 Tick ∷ at 2150 (Connected Primary) ∷ at 5000 Tick ∷ at 6000 (Lost Primary) ∷ at 6100 (Failed Failover) ∷ at 7999 Tick ∷ at 8000 Tick
    ∷ at 8100 Tick ∷ []

dropped_under_way-steps : steps_after [] dropped_under_way
    ≡ dials_primary ∷ dials_failover ∷ dials_primary ∷ drops_failover ∷ nothing ∷ dials_failover ∷ nothing ∷ nothing ∷ dials_primary ∷ dials_failover ∷ []
dropped_under_way-steps = refl

-- The wait doubles up to the greatest; the failures of one side don't count for the other.
abbrev five_failures : List HubEvent
five_failures =
    at 0 Start ∷ at 0 (Failed Primary) ∷ at 2000 Tick ∷ at 2000 (Failed Primary) ∷ at 6000 Tick ∷ at 6000 (Failed Primary) ∷ at 14000 Tick ∷ at 14000 (Failed Primary)
    ∷ at 30000 Tick ∷ at 30000 (Failed Primary) ∷ []

five_failures-due : due waits Primary five_failures ≡ Some 60000
five_failures-due = refl

five_failures-failover : is_under_way waits Failover five_failures ≡ true
five_failures-failover = refl

-- An attempt that is under way has no due time, however many Ticks come.
under_way : steps_after [] (at 0 Start ∷ at 5000 Tick ∷ at 90000 Tick ∷ []) ≡ dials_primary ∷ nothing ∷ nothing ∷ []
under_way = refl

-- A connection that ends counts as one failure, whatever went before the hub accepted.
lost_after_failures : due waits Primary (five_failures ++ at 60000 Tick ∷ at 60100 (Connected Primary) ∷ at 70000 (Lost Primary) ∷ []) ≡ Some 72000
lost_after_failures = refl
