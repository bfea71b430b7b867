-- What is tied together in the log of a node while lines come about: the primary hub's link and the connector, the links in
-- slots and the slots.
-- It serves the clauses of `links_begin_anew`.
use Rattle.std.proofs.Common.{◌≡◌, ℕ, true, false, List, [], ◌∷◌, ◌++◌, None}
use Rattle.std.specs.Prelude.{⊤}
use Rattle.bsc_connector.specs.declared.side.Side.TheVariants.{Primary, Failover}
use Rattle.bsc_connector.specs.declared.event.ConnectorEvent.{ConnectorEvent}
use Rattle.bsc_connector.specs.declared.event.ConnectorEvent.TheVariants.{Start, Failed, Lost}
use Rattle.bsc_connector.specs.Sides.{due}
use Rattle.bsc_direct.specs.declared.call.SlotCall.TheVariants.{Release}
use Rattle.bsc_direct.specs.Slots.{is_claimed}
use Rattle.bsc_initiate.specs.declared.event.InitEvent.TheVariants.{Opened as MachineOpened}
use Rattle.bsc_node.specs.declared.link_name.LinkName.{LinkName}
use Rattle.bsc_node.specs.declared.link_name.LinkName.TheVariants.{Hub, Direct}
use Rattle.bsc_node.specs.declared.note.Note.TheVariants.{Finished}
use Rattle.bsc_node.specs.declared.action.Action.TheVariants.{Dial, Take, Tell}
use Rattle.bsc_node.specs.Logs.{Made, Line, came, initiating, connector, slot, did, Log, is_finishing}
use Rattle.bsc_node.specs.Links.{is_there, begins_in_slots}
use Rattle.bsc_node.specs.Hubs.{waits, hub_events}
use Rattle.bsc_node.specs.Ways.{slot_calls}

-- While the primary hub's link is there, no next attempt at it is due; and the slot of a link that is there is claimed.
pub record Tied (a : Made) (L : Log) : Type 0 where
  pub primary : is_there (Hub Primary) L ≡ true → due (waits a) Primary (hub_events L) ≡ None
  pub claimed : (k : ℕ) → is_there (Direct k) L ≡ true → is_claimed (slot_calls L) k ≡ true

-- The connector may be told this: that the primary hub failed or was lost only where its link isn't there.
abbrev pub FitsHub : Log → ConnectorEvent → Type 0
FitsHub L Start = ⊥
FitsHub L (Failed Primary) = is_there (Hub Primary) L ≡ false
FitsHub L (Lost Primary) = is_there (Hub Primary) L ≡ false
FitsHub L e = ⊤

-- The link may be dialled.
abbrev pub FitsDial : Made → Log → LinkName → Type 0
FitsDial a L (Hub Primary) = (is_there (Hub Primary) L ≡ false) × (due (waits a) Primary (hub_events L) ≡ None)
FitsDial a L (Hub Failover) = is_there (Hub Failover) L ≡ false
FitsDial a L (Direct k) = (is_there (Direct k) L ≡ false) × (is_claimed (slot_calls L) k ≡ true)

-- A line may stand behind a log, and leaves it tied.
abbrev pub Fits : Made → Log → Line → Type 0
Fits a L (came e) = ⊥
Fits a L (initiating name (MachineOpened now id)) = ⊥
Fits a L (did (Take name)) = ⊥
Fits a L (did (Dial name uri)) = FitsDial a L name × (begins_in_slots (did (Dial name uri)) ≡ true)
Fits a L (did (Tell Finished)) = is_finishing L ≡ true
Fits a L (connector e) = FitsHub L e.event
Fits a L (slot (Release k)) = is_there (Direct k) L ≡ false
Fits a L m = ⊤

-- Each of these lines fits where it stands.
abbrev pub EachFits : Made → Log → List Line → Type 0
EachFits a L [] = ⊤
EachFits a L (m ∷ lines) = Fits a L m × EachFits a (L ++ m ∷ []) lines
