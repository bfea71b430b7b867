-- Which events may come to a node: what its callers have to see to.
use Rattle.std.specs.Prelude.{◌^◌, nat_le, nat_lt, Bool, true, false, not, ◌&&◌, ◌||◌, if◌then◌else◌, List, [], ◌++◌, fold, length, is_some}
use Rattle.std.specs.List.{list_any}
use Rattle.bsc_octets.specs.Addresses.{same_vmac, zero_vmac}
use Rattle.bsc_connector.specs.Back.{at_last}
use Rattle.bsc_node.specs.declared.link_name.LinkName.{LinkName}
use Rattle.bsc_node.specs.declared.node_event.NodeEvent.{NodeEvent}
use Rattle.bsc_node.specs.declared.node_event.NodeEvent.TheVariants.{Start, Opened, DialFailed, Came, CameText, Lost, Send, Random, NoRandom}
use Rattle.bsc_node.specs.declared.timed_event.TimedEvent.{TimedEvent}
use Rattle.bsc_node.specs.declared.action.Action.TheVariants.{Draw}
use Rattle.bsc_node.specs.Logs.{Made, Line, came, did, Log, now}
use Rattle.bsc_node.specs.Links.{is_there, was_taken, initiating_events, request}
use Rattle.bsc_node.specs.Node.{goes_on}

-- whether the WebSocket of a link that was dialled has opened
abbrev pub has_opened : LinkName → Log → Bool
has_opened name L = is_some (request (initiating_events L name))

-- The link is under way: it was dialled, and it hasn't opened.
abbrev pub is_dialling : LinkName → Log → Bool
is_dialling name L = is_there name L && not (was_taken name L) && not (has_opened name L)

-- The link is open: it was taken, or it has opened.
abbrev pub is_open : LinkName → Log → Bool
is_open name L = is_there name L && (was_taken name L || has_opened name L)

abbrev pub is_start : Line → Bool
is_start (came e) = starts e.event
  where
    starts : NodeEvent → Bool
    starts Start = true
    starts e = false
is_start m = false

-- whether a line is that a word is drawn
abbrev pub is_draw : Line → Bool
is_draw (did Draw) = true
is_draw m = false

-- A word was drawn and isn't there yet.
abbrev pub awaits_word : Log → Bool
awaits_word L = at_last (λ before m. is_draw m) false L

-- whether an event brings a word, or says that there is none
abbrev pub brings_word : NodeEvent → Bool
brings_word (Random w) = true
brings_word NoRandom = true
brings_word e = false

-- what an event asks of the links, of the start and of an NPDU
abbrev pub fits : Log → NodeEvent → Bool
fits L Start = not (list_any is_start L)
fits L (Opened name) = is_dialling name L
fits L (DialFailed name) = is_dialling name L
fits L (Came name o) = is_open name L
fits L (CameText name) = is_open name L
fits L (Lost name) = is_there name L
fits L (Send dest npdu) = nat_lt 0 (length npdu) && not (same_vmac dest zero_vmac)
fits L e = true

-- An event may come where time doesn't fall, where a drawn word comes next exactly where one was drawn, and where the
-- event fits what is there.
abbrev pub may_come : Log → TimedEvent → Bool
may_come L e = nat_le (now L) e.now && nat_lt e.now (2 ^ 62) && (if brings_word e.event then awaits_word L else not (awaits_word L)) && fits L e.event

-- a log, and whether each event so far might come
pub record Watched : Type 0 where
  pub log : Log
  pub fine : Bool

-- Whether each of these events may come after those before it.
abbrev pub may_all_come : Made → List TimedEvent → Bool
may_all_come a events =
    (fold (λ (w : Watched) e. record { log = w.log ++ goes_on a e w.log; fine = w.fine && may_come w.log e })
    (record { log = []; fine = true }) events).fine
