-- Links that are there: what a node puts goes over such, and while one is there the node has the VMAC with which it began.
use Rattle.std.specs.Prelude.{◌≡◌, ℕ, ◌==◌, true, false, IsTrue, List, ◌∷◌, ◌++◌, Some}
use Rattle.std.specs.List.{list_any}
use Rattle.bsc_octets.specs.declared.identity.Identity.{Identity}
use Rattle.bsc_octets.specs.Forwarding.{function_in}
use Rattle.bsc_frame.specs.declared.message.Message.{Message}
use Rattle.bsc_frame.specs.Payloads.{IsNode}
use Rattle.bsc_checks.specs.declared.verdict.Verdict.TheVariants.{Pass}
use Rattle.bsc_direct.specs.declared.call.SlotCall.TheVariants.{Up}
use Rattle.bsc_connector.specs.Back.{until}
use Rattle.bsc_node.specs.declared.link_name.LinkName.{LinkName}
use Rattle.bsc_node.specs.declared.link_name.LinkName.TheVariants.{Direct}
use Rattle.bsc_node.specs.declared.node_event.NodeEvent.TheVariants.{Came}
use Rattle.bsc_node.specs.declared.timed_event.TimedEvent.{TimedEvent}
use Rattle.bsc_node.specs.declared.action.Action.TheVariants.{Put}
use Rattle.bsc_node.specs.Logs.{Made, Line, did, slot, Log, own, own_vmac}
use Rattle.bsc_node.specs.Links.{begins, is_there, peer, verdict}
use Rattle.bsc_node.specs.Ways.{established_peer}
use Rattle.bsc_node.specs.Node.{log}
use Rattle.bsc_node.specs.Conditions.{may_come, may_all_come}
use Rattle.bsc_node.specs.Laws.{with_event, with_heard}
use Rattle.bsc_node_identity.specs.Naming.{IsConnectOf, is_connect}

-- ---- which links are there

-- The link of an established slot is there.
abbrev pub EstablishedAreThere : Made → Type 0
EstablishedAreThere a = (events : List TimedEvent) → IsTrue (may_all_come a events)
    → (k : ℕ) (who : Identity) → established_peer k (log a events) ≡ Some who → is_there (Direct k) (log a events) ≡ true

-- What a node puts on a direct link goes over one that is there, wherever in the log it does.
abbrev pub DirectPutsAreThere : Made → Type 0
DirectPutsAreThere a = (events : List TimedEvent) → IsTrue (may_all_come a events)
    → (before : Log) (later : List Line) (k : ℕ) (o : List ℕ) → log a events ≡ before ++ did (Put (Direct k) o) ∷ later
    → is_there (Direct k) before ≡ true

-- ---- one link, one VMAC

-- A link that is there began with the VMAC that the node has.
abbrev pub LinksHaveOneVmac : Made → Type 0
LinksHaveOneVmac a = (events : List TimedEvent) → IsTrue (may_all_come a events)
    → (name : LinkName) → is_there name (log a events) ≡ true
    → own_vmac a (until (begins name) (log a events)) ≡ own_vmac a (log a events)

-- A Connect-Request or a Connect-Accept goes over a link that is there, and has the identity that the node had when that began.
abbrev pub IsAsBegun : Made → Log → LinkName → List ℕ → Type 0
IsAsBegun a L name o = is_connect o ≡ true → (is_there name L ≡ true) × IsConnectOf (own a (until (begins name) L)) o

-- So does each that a node puts, wherever in the log it does.
abbrev pub ConnectsAreAsBegun : Made → Type 0
ConnectsAreAsBegun a = (events : List TimedEvent) → IsTrue (may_all_come a events)
    → (before : Log) (later : List Line) (name : LinkName) (o : List ℕ) → log a events ≡ before ++ did (Put name o) ∷ later
    → IsAsBegun a before name o

-- ---- a message that names nobody

-- Where a message came over a direct link that is no Connect-Request and no Connect-Accept, its peer is the one that it had before.
abbrev pub PeersStay : Made → Type 0
PeersStay a = (events : List TimedEvent) (e : TimedEvent) → IsTrue (may_all_come a events) → IsTrue (may_come (log a events) e)
    → (k : ℕ) (o : List ℕ) (who : Identity) → e.event ≡ Came (Direct k) o → is_connect o ≡ false
    → peer (with_heard a (log a events) e (Direct k) o) (Direct k) ≡ Some who → peer (log a events) (Direct k) ≡ Some who

-- ---- slots that came up

-- The slot came up with this peer over the link that is its newest.
pub record CameUpWith (L : Log) (k : ℕ) (who : Identity) : Type 0 where
  pub before : Log
  pub later : List Line
  pub is : L ≡ before ++ slot (Up k who) ∷ later
  pub since : list_any (begins (Direct k)) later ≡ false

-- An NPDU passes over a direct link only where its slot came up over it, with the peer that the link has.
abbrev pub NpdusPassWhereUp : Made → Type 0
NpdusPassWhereUp a = (events : List TimedEvent) (e : TimedEvent) → IsTrue (may_all_come a events)
    → IsTrue (may_come (log a events) e)
    → (k : ℕ) (o : List ℕ) (msg : Message) → e.event ≡ Came (Direct k) o
    → verdict a (with_event (log a events) e) (Direct k) o ≡ Pass msg → (function_in o == 0x01) ≡ true
    → (who : Identity) × (peer (log a events) (Direct k) ≡ Some who) × CameUpWith (log a events) k who

-- ---- another VMAC

-- A node that was made with the identity of a node has such, whatever it drew.
abbrev pub StaysANode : Made → Type 0
StaysANode a = IsNode a.own → (L : Log) → IsNode (own a L)
