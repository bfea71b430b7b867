-- Laws of every node, on which a theorem over a whole network stands. Each says of an event that may come what the node
-- does at it, or of a log what holds whatever came.
use Rattle.std.specs.Prelude.{◌≡◌, ◌≢◌, ◌⊎◌, ℕ, ◌==◌, Bool, true, false, IsTrue, List, [], ◌∷◌, ◌++◌, filter, slice_index, Some}
use Rattle.std.specs.List.{list_any}
use Rattle.bsc_octets.specs.declared.vmac.Vmac.{Vmac}
use Rattle.bsc_octets.specs.Addresses.{broadcast}
use Rattle.bsc_frame.specs.declared.message.Message.{Message}
use Rattle.bsc_frame.specs.declared.body.Body.TheVariants.{Npdu}
use Rattle.bsc_checks.specs.declared.verdict.Verdict.TheVariants.{Pass}
use Rattle.bsc_direct.specs.Laws.{PeersAreApart}
use Rattle.bsc_direct.specs.declared.routes.Route.TheVariants.{Direct as ByDirect}
use Rattle.bsc_direct.specs.Paths.{path}
use Rattle.bsc_node.specs.declared.link_name.LinkName.{LinkName}
use Rattle.bsc_node.specs.declared.delivered.Delivered.{Delivered}
use Rattle.bsc_node.specs.declared.node_event.NodeEvent.TheVariants.{Came, Send}
use Rattle.bsc_node.specs.declared.timed_event.TimedEvent.{TimedEvent}
use Rattle.bsc_node.specs.declared.action.Action.{Action}
use Rattle.bsc_node.specs.declared.action.Action.TheVariants.{Put, Deliver, Draw}
use Rattle.bsc_node.specs.Logs.{Made, came, Log}
use Rattle.bsc_node.specs.Links.{verdict, hears}
use Rattle.bsc_node.specs.Hubs.{hub_use}
use Rattle.bsc_node.specs.Ways.{Way, way, slot_calls}
use Rattle.bsc_node.specs.Receiving.{is_for_all, sender}
use Rattle.bsc_node.specs.Requesting.{own_message}
use Rattle.bsc_node.specs.Node.{actions_at, log}
use Rattle.bsc_node.specs.Conditions.{may_come, may_all_come}

-- The log once an event came, before anything follows from it.
abbrev pub with_event : Log → TimedEvent → Log
with_event L e = L ++ came e ∷ []

-- ---- NPDUs

-- Whether an action puts an Encapsulated-NPDU.
abbrev pub puts_npdu : Action → Bool
puts_npdu (Put name o) = slice_index o 0 == 0x01
puts_npdu action = false

-- The Encapsulated-NPDUs that a node puts at an event.
abbrev pub npdus_put : Made → Log → TimedEvent → List Action
npdus_put a L e = filter puts_npdu (actions_at a L e)

-- At this event an NPDU was sent, and it is put once, on the path that holds then.
abbrev pub IsPutOnce : Made → Log → TimedEvent → Type 0
IsPutOnce a L e =
    (dest : Vmac) × (npdu : List ℕ) × (w : Way) × (e.event ≡ Send dest npdu) × (way dest (with_event L e) ≡ Some w)
    × (npdus_put a L e ≡ Put w.link (own_message w (Npdu npdu) (with_event L e)) ∷ [])

-- An Encapsulated-NPDU is put for a Send alone, at most once, and on the path that holds then.
abbrev pub NpdusArePutOnce : Made → Type 0
NpdusArePutOnce a = (L : Log) (e : TimedEvent) → IsTrue (may_come L e) → (npdus_put a L e ≡ []) ⊎ IsPutOnce a L e

-- Whether an action delivers an NPDU.
abbrev pub delivers_npdu : Action → Bool
delivers_npdu (Deliver delivered) = true
delivers_npdu action = false

-- What a node delivers at an event.
abbrev pub delivered_at : Made → Log → TimedEvent → List Action
delivered_at a L e = filter delivers_npdu (actions_at a L e)

-- What is delivered of a message.
abbrev pub delivery : Message → List ℕ → Vmac → Delivered
delivery msg npdu from = record { from = from; broadcast = is_for_all msg; data_options = msg.data_options; npdu = npdu }

-- The log once an event brought these octets over the link, and its machine heard them.
abbrev pub with_heard : Made → Log → TimedEvent → LinkName → List ℕ → Log
with_heard a L e name o = with_event L e ++ hears a name o (with_event L e)

-- At this event a message came that passed, with an NPDU, and this is delivered once, as its sender's.
abbrev pub IsDeliveredOnce : Made → Log → TimedEvent → Type 0
IsDeliveredOnce a L e =
    (name : LinkName) × (o : List ℕ) × (msg : Message) × (npdu : List ℕ) × (from : Vmac) × (e.event ≡ Came name o)
    × (verdict a (with_event L e) name o ≡ Pass msg) × (msg.body ≡ Npdu npdu) × (sender name msg (with_heard a L e name o) ≡ Some from)
    × (delivered_at a L e ≡ Deliver (delivery msg npdu from) ∷ [])

-- A node delivers at most the one message that came.
abbrev pub DeliversWhatCame : Made → Type 0
DeliversWhatCame a = (L : Log) (e : TimedEvent) → IsTrue (may_come L e) → (delivered_at a L e ≡ []) ⊎ IsDeliveredOnce a L e

-- ---- words

-- Whether an action draws a word.
abbrev pub draws : Action → Bool
draws Draw = true
draws action = false

-- At this event a word is drawn once, as the last of the actions.
abbrev pub IsDrawnLast : Made → Log → TimedEvent → Type 0
IsDrawnLast a L e = (before : List Action) × (actions_at a L e ≡ before ++ Draw ∷ []) × (list_any draws before ≡ false)

-- A word is drawn at most once at an event, and as the last of its actions.
abbrev pub DrawsLast : Made → Type 0
DrawsLast a = (L : Log) (e : TimedEvent) → IsTrue (may_come L e) → (list_any draws (actions_at a L e) ≡ false) ⊎ IsDrawnLast a L e

-- ---- paths and slots

-- No broadcast goes over a direct connection.
abbrev pub BroadcastsKeepOffSlots : Made → Type 0
BroadcastsKeepOffSlots a =
    (events : List TimedEvent) → IsTrue (may_all_come a events)
    → (k : ℕ) → path (slot_calls (log a events)) (hub_use (log a events)) broadcast ≢ ByDirect k

-- No two established slots have the same VMAC or the same device.
abbrev pub SlotsKeepApart : Made → Type 0
SlotsKeepApart a = (events : List TimedEvent) → IsTrue (may_all_come a events) → PeersAreApart (slot_calls (log a events))
