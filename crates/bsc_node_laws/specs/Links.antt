-- How links begin and open in the log of a node, from one event to the next.
use Rattle.std.specs.Prelude.{◌≡◌, ◌⊎◌, ℕ, true, false, List, [], ◌∷◌, ◌++◌, None, ⊤}
use Rattle.bsc_accept.specs.declared.reason.Reason.TheVariants.{TableFull}
use Rattle.bsc_accept.specs.Steps.{closing}
use Rattle.bsc_initiate.specs.declared.event.InitEvent.TheVariants.{Opened as MachineOpened}
use Rattle.bsc_direct.specs.declared.call.SlotCall.TheVariants.{Claim}
use Rattle.bsc_node.specs.declared.link_name.LinkName.TheVariants.{Direct}
use Rattle.bsc_node.specs.declared.node_event.NodeEvent.{NodeEvent}
use Rattle.bsc_node.specs.declared.node_event.NodeEvent.TheVariants.{Opened, Arrived}
use Rattle.bsc_node.specs.declared.note.Note.TheVariants.{Finished}
use Rattle.bsc_node.specs.declared.timed_event.TimedEvent.{TimedEvent}
use Rattle.bsc_node.specs.declared.action.Action.TheVariants.{Dial, Take, Refuse, Tell}
use Rattle.bsc_node.specs.Logs.{Made, Line, came, initiating, slot, did, Log, is_finishing}
use Rattle.bsc_node.specs.Links.{is_there, opens, is_in_slots, begins_in_slots}
use Rattle.bsc_node.specs.Node.{goes_on}
use Rattle.bsc_node.specs.Laws.{with_event}

-- A line may stand behind a log: a link is dialled only where none of its name is there, and its name is that of a hub or
-- of a slot; and that the node has ended is told only once it is to end. No event comes, no link opens and none is taken.
abbrev pub MayStand : Log → Line → Type 0
MayStand L (came e) = ⊥
MayStand L (initiating name (MachineOpened now id)) = ⊥
MayStand L (did (Take name)) = ⊥
MayStand L (did (Dial name uri)) = (is_there name L ≡ false) × (begins_in_slots (did (Dial name uri)) ≡ true)
MayStand L (did (Tell Finished)) = is_finishing L ≡ true
MayStand L m = ⊤

-- Each of these lines may stand where it stands.
abbrev pub EachMay : Log → List Line → Type 0
EachMay L [] = ⊤
EachMay L (m ∷ lines) = MayStand L m × EachMay (L ++ m ∷ []) lines

-- by which line a link opens at an event, where one does
abbrev pub opens_at : NodeEvent → Log → List Line
opens_at (Opened name) L = opens name L
opens_at e L = []

-- What comes about at an event: first the event itself, then that a link opens, where one does, and then lines each of
-- which may stand where it stands.
pub record LogGoesOn (a : Made) (L : Log) (e : TimedEvent) : Type 0 where
  pub lines : List Line
  pub is : goes_on a e L ≡ came e ∷ opens_at e.event (with_event L e) ++ lines
  pub may : EachMay (with_event L e ++ opens_at e.event (with_event L e)) lines

-- A link that arrives is taken, as that of a free slot, and no link of its name is there; or it is refused.
abbrev pub Admits : Made → Log → TimedEvent → Type 0
Admits a L e =
    ((k : ℕ) × (goes_on a e L ≡ came e ∷ slot (Claim k None) ∷ did (Take (Direct k)) ∷ []) × (is_there (Direct k) L ≡ false) × (is_in_slots k ≡ true))
    ⊎ (goes_on a e L ≡ came e ∷ did (Refuse (closing 1008 TableFull)) ∷ [])

-- What an event brings about, of links.
abbrev pub Brings : Made → Log → TimedEvent → NodeEvent → Type 0
Brings a L e Arrived = Admits a L e
Brings a L e event = LogGoesOn a L e
