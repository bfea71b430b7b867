-- How the two hubs stand, by all that a connector was told, newest last (Annex AB, "Hub Connector").
--
-- A side is up, or its next attempt is due at some time, or an attempt at it is under way; the failover can also be
-- idle. None of this is kept: each is read off what was told.
use Rattle.std.specs.Prelude.{ℕ, ◌+◌, ◌-◌, ◌*◌, ◌^◌, min, nat_le, Bool, true, false, not, ◌&&◌, ◌||◌, if◌then◌else◌, List, count_by}
use Rattle.std.specs.Prelude.{Option, Some, None, is_none}
use Rattle.std.specs.List.{list_any}
use Rattle.std.specs.Option.{option_map}
use Rattle.bsc_connector.specs.declared.side.Side.{Side}
use Rattle.bsc_connector.specs.declared.side.Side.TheVariants.{Primary, Failover}
use Rattle.bsc_connector.specs.declared.hub_use.HubUse.{HubUse}
use Rattle.bsc_connector.specs.declared.hub_use.HubUse.TheVariants.{NoHub, Primary as UsesPrimary, Failover as UsesFailover}
use Rattle.bsc_connector.specs.declared.event.ConnectorEvent.{ConnectorEvent}
use Rattle.bsc_connector.specs.declared.event.ConnectorEvent.TheVariants.{Start, Connected, Failed, Lost, Tick}
use Rattle.bsc_connector.specs.declared.event.HubEvent.{HubEvent}
use Rattle.bsc_connector.specs.declared.waits.Waits.{Waits}
use Rattle.bsc_connector.specs.Back.{newest, since}

-- ---- what one event says

abbrev pub same_side : Side → Side → Bool
same_side Primary Primary = true
same_side Failover Failover = true
same_side s t = false

abbrev pub is_start : ConnectorEvent → Bool
is_start Start = true
is_start e = false

abbrev pub is_tick : ConnectorEvent → Bool
is_tick Tick = true
is_tick e = false

-- whether the hub of the side accepted
abbrev pub connects : Side → ConnectorEvent → Bool
connects s (Connected t) = same_side s t
connects s e = false

-- whether an attempt at the side failed, or its connection ended
abbrev pub fails : Side → ConnectorEvent → Bool
fails s (Failed t) = same_side s t
fails s (Lost t) = same_side s t
fails s e = false

-- whether the connection of the side ended
abbrev pub loses : Side → ConnectorEvent → Bool
loses s (Lost t) = same_side s t
loses s e = false

-- whether the event forgets the side's failures and its next attempt: its hub accepted, and for the failover also
-- where the primary hub did
abbrev pub clears : Side → ConnectorEvent → Bool
clears s e = connects s e || connects Primary e

-- ---- how a side stands

-- What was told since the side's failures were forgotten.
abbrev pub trouble : Side → List HubEvent → List HubEvent
trouble s E = since (λ e. clears s e.event) E

-- A side is up where its hub accepted, and since then its connection hasn't ended and, for the failover, the primary
-- hub hasn't accepted.
abbrev pub is_up : Side → List HubEvent → Bool
is_up s E = connected_at (newest (λ e. clears s e.event || loses s e.event) E)
  where
    connected_at : Option HubEvent → Bool
    connected_at None = false
    connected_at (Some e) = connects s e.event

-- How often in a row attempts at the side failed or its connection ended.
abbrev pub failures : Side → List HubEvent → ℕ
failures s E = count_by (λ e. fails s e.event) (trouble s E)

-- The wait after n failures in a row: it doubles with each, up to the greatest.
abbrev pub wait : Waits → ℕ → ℕ
wait w n = min w.greatest (w.least * 2 ^ (n - 1))

-- When the next attempt after the newest failure of a side was to be made.
abbrev pub next_attempt : Waits → Side → List HubEvent → Option ℕ
next_attempt w s E =
    option_map (λ (e : HubEvent). e.now + wait w (failures s E)) (newest (λ e. fails s e.event) (trouble s E))

-- Whether an event dials a side whose next attempt is due at this time: a Tick at that time or later, and for the
-- primary hub a Start.
abbrev pub redials : Side → ℕ → HubEvent → Bool
redials s at e = (is_tick e.event && nat_le at e.now) || (is_start e.event && same_side s Primary)

-- The time, unless the side was dialled since its newest failure.
abbrev pub unless_dialled : Side → List HubEvent → Option ℕ → Option ℕ
unless_dialled s E None = None
unless_dialled s E (Some at) = if list_any (redials s at) (since (λ e. fails s e.event) E) then None else Some at

-- When the next attempt at the side is due, while it waits for one.
abbrev pub due : Waits → Side → List HubEvent → Option ℕ
due w s E = unless_dialled s E (next_attempt w s E)

-- Whether the side is being tried at all: the primary hub from the start on; the failover, where there is one, from the
-- primary's first failure on, until the primary hub accepts.
abbrev pub is_tried : Waits → Side → List HubEvent → Bool
is_tried w Primary E = list_any (λ e. is_start e.event) E
is_tried w Failover E = w.failover && list_any (λ e. fails Primary e.event) (trouble Primary E)

-- An attempt at the side is under way: it is being tried, isn't up, and no next attempt is waited for.
abbrev pub is_under_way : Waits → Side → List HubEvent → Bool
is_under_way w s E = is_tried w s E && not (is_up s E) && is_none (due w s E)

-- ---- the hub in use

-- The primary hub where it is up, else the failover where that is, else none.
abbrev pub hub_use : List HubEvent → HubUse
hub_use E = if is_up Primary E then UsesPrimary else if is_up Failover E then UsesFailover else NoHub
