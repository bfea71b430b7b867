-- A node that ran: the events that came to it, what it delivers, and what it puts for a Send.
use Rattle.std.specs.Prelude.{◌≡◌, ℕ, false, IsTrue, List, [], ◌∷◌, ◌++◌, length, slice_get, Some, ⊤}
use Rattle.std.specs.List.{list_any}
use Rattle.bsc_octets.specs.declared.vmac.Vmac.{Vmac}
use Rattle.bsc_octets.specs.Functions.{npdus}
use Rattle.bsc_frame.specs.declared.body.Body.TheVariants.{Npdu}
use Rattle.bsc_frame.specs.Payloads.{IsNode}
use Rattle.bsc_node.specs.declared.node_event.NodeEvent.{NodeEvent}
use Rattle.bsc_node.specs.declared.node_event.NodeEvent.TheVariants.{Came, Send}
use Rattle.bsc_node.specs.declared.timed_event.TimedEvent.{TimedEvent}
use Rattle.bsc_node.specs.declared.delivered.Delivered.{Delivered}
use Rattle.bsc_node.specs.declared.action.Action.TheVariants.{Deliver, Put}
use Rattle.bsc_node.specs.Conditions.{may_all_come, may_come}
use Rattle.bsc_node.specs.Laws.{delivered_at, npdus_put, with_event}
use Rattle.bsc_node.specs.Links.{begins}
use Rattle.bsc_node.specs.Logs.{Made, Line, Log}
use Rattle.bsc_node.specs.Node.{goes_on, log}
use Rattle.bsc_node.specs.Requesting.{own_message}
use Rattle.bsc_node.specs.Ways.{Way, way}
use Rattle.bsc_node_links.specs.Lives.{HasBegun, LinkLife, given_over, lines_since, put_over}

-- This event came to the node, and has this place in its log: so many lines stand before it.
pub record CameAt (a : Made) (L : Log) (place : ℕ) (e : TimedEvent) : Type 0 where
  pub before : Log
  pub later : List Line
  pub is : L ≡ before ++ (goes_on a e before ++ later)
  pub here : place ≡ length before
  pub may : IsTrue (may_come before e)

-- What is sent goes to an address of six octets.
abbrev pub IsWhole : NodeEvent → Type 0
IsWhole (Send dest npdu) = length dest.0 ≡ 6
IsWhole e = ⊤

-- A node's run: what it was made with, which is the identity of a node, and the events that came to it, each of which might come;
-- and what it was asked to send went to addresses of six octets.
pub record NodeRun : Type 0 where
  pub made : Made
  pub events : List TimedEvent
  pub may : IsTrue (may_all_come made events)
  pub whole : (place : ℕ) (e : TimedEvent) → CameAt made (log made events) place e → IsWhole e.event
  pub is_node : IsNode made.own

-- the log of a node's run
abbrev pub log_of : NodeRun → Log
log_of n = log n.made n.events

-- ---- links

-- The link began by the line at its place in this log, and none of its name has begun since.
pub record HasNow (L : Log) (x : LinkLife) : Type 0 where
  pub begun : HasBegun L x
  pub since : list_any (begins x.name) (lines_since L x) ≡ false

-- ---- deliveries and Sends

-- At the event of this place the node delivers this, and nothing else.
pub record DeliversAt (n : NodeRun) (place : ℕ) (d : Delivered) : Type 0 where
  pub e : TimedEvent
  pub comes : CameAt n.made (log_of n) place e
  pub delivers : delivered_at n.made comes.before e ≡ Deliver d ∷ []

-- At the event of this place the node is given o over the link: the r-th of the Encapsulated-NPDUs that the link gives.
pub record HearsAt (n : NodeRun) (x : LinkLife) (r place : ℕ) (o : List ℕ) : Type 0 where
  pub e : TimedEvent
  pub comes : CameAt n.made (log_of n) place e
  pub brings : e.event ≡ Came x.name o
  pub has : HasNow comes.before x
  pub nth : r ≡ length (npdus (given_over comes.before x))

-- A Send: the number of the node, the place of the event in its log, where the NPDU goes, and what it is.
pub record Sending : Type 0 where
  pub node : ℕ
  pub place : ℕ
  pub dest : Vmac
  pub npdu : List ℕ

-- For this Send the node puts o on the link, by the way that holds then: the r-th of the Encapsulated-NPDUs that it puts there, and
-- the only one that it puts for the Send.
pub record SendsAt (a : Made) (L : Log) (x : LinkLife) (r : ℕ) (s : Sending) (o : List ℕ) : Type 0 where
  pub e : TimedEvent
  pub comes : CameAt a L s.place e
  pub sends : e.event ≡ Send s.dest s.npdu
  pub path : Way
  pub by_path : way s.dest (with_event comes.before e) ≡ Some path
  pub link : path.link ≡ x.name
  pub octets : o ≡ own_message path (Npdu s.npdu) (with_event comes.before e)
  pub once : npdus_put a comes.before e ≡ Put path.link o ∷ []
  pub has : HasNow comes.before x
  pub nth : r ≡ length (npdus (put_over comes.before x))

-- The r-th Encapsulated-NPDU that node k puts on the link is of this Send of it.
pub record WasSent (k : ℕ) (n : NodeRun) (x : LinkLife) (r : ℕ) (o : List ℕ) : Type 0 where
  pub sending : Sending
  pub of_node : sending.node ≡ k
  pub sent : SendsAt n.made (log_of n) x r sending o

-- Each Encapsulated-NPDU that a node puts on a link is of a Send.
abbrev pub PutsWhatWasSent : NodeRun → Type 0
PutsWhatWasSent n = (k : ℕ) (x : LinkLife) (r : ℕ) (o : List ℕ) → HasBegun (log_of n) x
    → slice_get (npdus (put_over (log_of n) x)) r ≡ Some o → WasSent k n x r o
