-- Who a node says it is, and whom it takes the other end of a link to be.
use Rattle.std.specs.Prelude.{◌≡◌, ◌⊎◌, ℕ, ◌==◌, ◌||◌, Bool, true, false, IsTrue, List, ◌++◌, slice_index, Option, Some, None, ⊤}
use Rattle.std.specs.List.{AllByRecursion, list_any}
use Rattle.bsc_octets.specs.declared.identity.Identity.{Identity}
use Rattle.bsc_frame.specs.declared.message.Message.{Message}
use Rattle.bsc_frame.specs.declared.body.Body.{Body}
use Rattle.bsc_frame.specs.declared.body.Body.TheVariants.{ConnectRequest, ConnectAccept}
use Rattle.bsc_frame.specs.Payloads.{IsNode}
use Rattle.bsc_frame.specs.Spelling.{spelling}
use Rattle.bsc_checks.specs.declared.place.Place.{Place}
use Rattle.bsc_checks.specs.declared.verdict.Verdict.TheVariants.{Pass}
use Rattle.bsc_checks.specs.Outcomes.{outcome_of}
use Rattle.bsc_accept.specs.Messages.{connect_accept}
use Rattle.bsc_initiate.specs.Messages.{connect_request}
use Rattle.bsc_direct.specs.declared.call.SlotCall.TheVariants.{Up}
use Rattle.bsc_node.specs.declared.link_name.LinkName.{LinkName}
use Rattle.bsc_node.specs.declared.link_name.LinkName.TheVariants.{Direct}
use Rattle.bsc_node.specs.declared.node_event.NodeEvent.TheVariants.{Came}
use Rattle.bsc_node.specs.declared.timed_event.TimedEvent.{TimedEvent}
use Rattle.bsc_node.specs.declared.action.Action.{Action}
use Rattle.bsc_node.specs.declared.action.Action.TheVariants.{Put}
use Rattle.bsc_node.specs.Logs.{Made, Line, slot, Log, own}
use Rattle.bsc_node.specs.Links.{begins, peer, verdict}
use Rattle.bsc_node.specs.Ways.{established_peer}
use Rattle.bsc_node.specs.Node.{goes_on, actions_at, log}
use Rattle.bsc_node.specs.Conditions.{may_come, may_all_come}
use Rattle.bsc_node.specs.Laws.{with_event}

-- ---- who a node says it is

-- Whether octets are a Connect-Request (06) or a Connect-Accept (07).
abbrev pub is_connect : List ℕ → Bool
is_connect o = (slice_index o 0 == 0x06) || (slice_index o 0 == 0x07)

-- Octets are a Connect-Request or a Connect-Accept of this peer.
abbrev pub IsConnectOf : Identity → List ℕ → Type 0
IsConnectOf who o = (id : ℕ) × ((o ≡ spelling (connect_request id who)) ⊎ (o ≡ spelling (connect_accept id who)))

-- An action puts no Connect-Request and no Connect-Accept but of this peer.
abbrev pub PutsAs : Identity → Action → Type 0
PutsAs who (Put name o) = is_connect o ≡ true → IsConnectOf who o
PutsAs who action = ⊤

-- Each Connect-Request and Connect-Accept that a node puts has its own identity, with the VMAC that it then has.
abbrev pub NamesItself : Made → Type 0
NamesItself a = (events : List TimedEvent) (e : TimedEvent) → IsTrue (may_all_come a events) → IsTrue (may_come (log a events) e)
    → AllByRecursion (PutsAs (own a (with_event (log a events) e))) (actions_at a (log a events) e)

-- ---- whom it takes the other end to be

-- Who names itself by a body: a Connect-Request and a Connect-Accept say it.
abbrev pub named_by : Body → Option Identity
named_by (ConnectRequest who) = Some who
named_by (ConnectAccept who) = Some who
named_by body = None

-- What passes of a Connect-Request or a Connect-Accept names whose it is, at each place.
abbrev pub ConnectsNameTheirPeer : Type 0
ConnectsNameTheirPeer = (who : Identity) (o : List ℕ) (place : Place) (max : ℕ) (msg : Message) → IsNode who → IsConnectOf who o
    → outcome_of o place max ≡ Pass msg → named_by msg.body ≡ Some who

-- What passes of other octets names nobody.
abbrev pub OthersNameNobody : Type 0
OthersNameNobody = (o : List ℕ) (place : Place) (max : ℕ) (msg : Message) → is_connect o ≡ false → outcome_of o place max ≡ Pass msg → named_by msg.body ≡ None

-- By this event, behind the log L, a message comes over the link that passes and names its peer.
abbrev pub IsNamedAt : Made → Log → TimedEvent → LinkName → Identity → Type 0
IsNamedAt a L e name who =
    (o : List ℕ) × (msg : Message) × (e.event ≡ Came name o) × (verdict a (with_event L e) name o ≡ Pass msg) × (named_by msg.body ≡ Some who)

-- A line brings a slot up only with the peer that names itself over the slot's link at this event.
abbrev pub IsUpAsNamed : Made → Log → TimedEvent → Line → Type 0
IsUpAsNamed a L e (slot (Up k who)) = IsNamedAt a L e (Direct k) who
IsUpAsNamed a L e m = ⊤

-- A slot comes up only at a message over its link that passed and names its peer.
abbrev pub SlotsComeUpAsNamed : Made → Type 0
SlotsComeUpAsNamed a = (L : Log) (e : TimedEvent) → IsTrue (may_come L e) → AllByRecursion (IsUpAsNamed a L e) (goes_on a e L)

-- At some event of the log the peer named itself over the link, and since that event came no link of its name began.
pub record WasNamed (a : Made) (L : Log) (name : LinkName) (who : Identity) : Type 0 where
  pub before : Log
  pub e : TimedEvent
  pub later : List Line
  pub is : L ≡ before ++ (goes_on a e before ++ later)
  pub named : IsNamedAt a before e name who
  pub since : list_any (begins name) (goes_on a e before ++ later) ≡ false

-- The peer of a direct connection named itself over its link, since that began, in a message that passed.
abbrev pub PeersNamedThemselves : Made → Type 0
PeersNamedThemselves a = (events : List TimedEvent) → IsTrue (may_all_come a events)
    → (k : ℕ) (who : Identity) → peer (log a events) (Direct k) ≡ Some who → WasNamed a (log a events) (Direct k) who

-- The peer with which a slot is established named itself over the slot's link, since that began, in a message that passed.
abbrev pub SlotsHaveWhoNamedItself : Made → Type 0
SlotsHaveWhoNamedItself a = (events : List TimedEvent) → IsTrue (may_all_come a events)
    → (k : ℕ) (who : Identity) → established_peer k (log a events) ≡ Some who → WasNamed a (log a events) (Direct k) who

-- An event at which a link of a slot's name is dialled or taken leaves the slot not established.
abbrev pub BegunIsNotEstablished : Made → Type 0
BegunIsNotEstablished a = (events : List TimedEvent) (e : TimedEvent) → IsTrue (may_all_come a events) → IsTrue (may_come (log a events) e)
    → (k : ℕ) → list_any (begins (Direct k)) (goes_on a e (log a events)) ≡ true → established_peer k (log a events ++ goes_on a e (log a events)) ≡ None

-- A slot is established with the peer of its link.
abbrev pub SlotsHaveTheirPeers : Made → Type 0
SlotsHaveTheirPeers a = (events : List TimedEvent) → IsTrue (may_all_come a events)
    → (k : ℕ) (who : Identity) → established_peer k (log a events) ≡ Some who → peer (log a events) (Direct k) ≡ Some who
