-- What an event that comes to a node leads to: its log goes on, and its actions are carried out.
use Rattle.std.specs.Prelude.{ℕ, zero, suc, ◌+◌, if◌then◌else◌, List, [], ◌∷◌, ◌++◌, map, filter_map, Option, None}
use Rattle.std.specs.List.{list_any}
use Rattle.bsc_node.specs.declared.delivered.Delivered.{Delivered}
use Rattle.bsc_node.specs.declared.link_name.LinkName.{LinkName}
use Rattle.bsc_node.specs.declared.node_event.NodeEvent.{NodeEvent}
use Rattle.bsc_node.specs.declared.node_event.NodeEvent.TheVariants.{DialFailed, NoRandom}
use Rattle.bsc_node.specs.declared.timed_event.TimedEvent.{TimedEvent}
use Rattle.bsc_node.specs.declared.action.Action.{Action}
use Rattle.bsc_node.specs.declared.action.Action.TheVariants.{Dial, Take, Refuse, Put, Close, Deliver, Tell, Draw}
use Rattle.bsc_node.specs.Conditions.{fits}
use Rattle.bsc_node.specs.Logs.{Made, Log, Rule, in_order as rules_in_order, action_of}
use Rattle.bsc_node.specs.Laws.{draws}
use Rattle.bsc_node.specs.Node.{goes_on, actions_at}
use Rattle.bsc_network.specs.declared.arrival.Arrival.{Arrival}
use Rattle.bsc_network.specs.declared.parcel.Content.TheVariants.{Message, Closed}
use Rattle.bsc_network.specs.Worlds.{World, Node}
use Rattle.bsc_network.specs.Changes.{Change, unchanged, in_order, with_node, of_node, with_found, puts_now}
use Rattle.bsc_network.specs.NodeSides.{holds, other_way, puts_by}
use Rattle.bsc_network.specs.Dialling.{leads_to, dials_to}

-- ---- actions

-- A node takes the link on which something arrived, under a name.
abbrev pub takes_as : ℕ → LinkName → Arrival → Change
takes_as k name by = holds k (record { name = name; link = by.link; hears = by.way })

-- It closes that link instead.
abbrev pub refuses : Arrival → Change
refuses by = puts_now by.link (other_way by.way) Closed

-- It delivers what arrived: the place is that of the message.
abbrev pub delivers : ℕ → Delivered → Arrival → Change
delivers k delivered by w = record w { delivered = w.delivered ++ record { sent_at = by.sent_at; node = k; delivered = delivered } ∷ [] }

-- An action of a node is carried out, at an event that something brought about which arrived, where it did. What is told
-- stays with the node's user. A word that is drawn is answered below.
abbrev pub carries_out : ℕ → Option Arrival → Action → Change
carries_out k by (Dial name uri) w = dials_to k name (leads_to w uri) w
carries_out k by (Take name) w = with_found by (takes_as k name) w
carries_out k by (Refuse closing) w = with_found by refuses w
carries_out k by (Put name octets) w = puts_by k name (Message octets) w
carries_out k by (Close name closing) w = puts_by k name Closed w
carries_out k by (Deliver delivered) w = with_found by (delivers k delivered) w
carries_out k by (Tell note) w = w
carries_out k by Draw w = w

-- ---- one event

-- The events that come where one comes: that event, and then, where a word is drawn at it, that there is none.
abbrev pub with_answer : Made → Log → TimedEvent → List TimedEvent
with_answer a L e = if list_any draws (actions_at a L e) then e ∷ record { now = e.now; event = NoRandom } ∷ [] else e ∷ []

-- By which lines the log of a node goes on.
abbrev pub brings_about : Made → TimedEvent → Rule
brings_about a e L = rules_in_order (map (goes_on a) (with_answer a L e)) L

-- The log of a node goes on, and its actions are carried out, in order.
abbrev pub hears : ℕ → Option Arrival → TimedEvent → Node → Change
hears k by e n =
    in_order
    (with_node k (λ m. record m { log = m.log ++ brings_about m.made e m.log })
    ∷ map (carries_out k by) (filter_map action_of (brings_about n.made e n.log)))

-- An event comes to a node where it fits what the node has: an event of a link that is over for it is dropped.
abbrev pub comes_once : ℕ → Option Arrival → NodeEvent → Change
comes_once k by e = of_node k (λ n w. (if fits n.log e then hears k by (record { now = w.now; event = e }) n else unchanged) w)

-- ---- dials that failed

-- the first of those that failed isn't to be told any more
abbrev pub forgets_failure : List LinkName → Change
forgets_failure later w = record w { failed = later }

-- A node is told of the dials that failed, one after the other, and of those that fail then; so many at most, and then none
-- is left.
abbrev pub hears_failures : ℕ → ℕ → List LinkName → Change
hears_failures most k [] w = w
hears_failures zero k (name ∷ names) w = forgets_failure [] w
hears_failures (suc most) k (name ∷ names) w =
    (let told : World = comes_once k None (DialFailed name) (forgets_failure names w) in hears_failures most k told.failed told)

-- No more dials fail in one step than the URIs that a node can have learnt, and those of its hubs: it takes no message that
-- is longer than its maximum, and so learns no longer text of URIs.
abbrev pub most_failures : Node → ℕ
most_failures n = n.made.own.max_bvlc + 3

abbrev pub hears_all_failures : ℕ → ℕ → Change
hears_all_failures most k w = hears_failures most k w.failed w

-- ---- an event with what follows

-- An event comes to a node, and then it is told of the dials that failed.
abbrev pub comes : ℕ → Option Arrival → NodeEvent → Change
comes k by e = of_node k (λ n. in_order (comes_once k by e ∷ hears_all_failures (most_failures n) k ∷ []))
