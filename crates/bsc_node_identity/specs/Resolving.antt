-- Which URIs a node has learnt, which it tells, and which it dials.
use Rattle.std.specs.Prelude.{◌≡◌, ℕ, ◌==◌, Bool, true, IsTrue, List, ◌++◌, slice_index, Option, Some, ⊤, [], slice_get, unwrap_or}
use Rattle.std.specs.List.{AllByRecursion}
use Rattle.bsc_octets.specs.declared.vmac.Vmac.{Vmac}
use Rattle.bsc_frame.specs.declared.message.Message.{Message}
use Rattle.bsc_frame.specs.declared.body.Body.TheVariants.{AddressResolutionAck}
use Rattle.bsc_checks.specs.declared.verdict.Verdict.TheVariants.{Pass}
use Rattle.bsc_node.specs.Messages.{message_octets}
use Rattle.bsc_connector.specs.declared.side.Side.TheVariants.{Primary, Failover}
use Rattle.bsc_node.specs.declared.link_name.LinkName.{LinkName}
use Rattle.bsc_node.specs.declared.link_name.LinkName.TheVariants.{Hub, Direct}
use Rattle.bsc_node.specs.declared.node_event.NodeEvent.TheVariants.{Came}
use Rattle.bsc_node.specs.declared.timed_event.TimedEvent.{TimedEvent}
use Rattle.bsc_node.specs.declared.action.Action.{Action}
use Rattle.bsc_node.specs.declared.action.Action.TheVariants.{Dial, Put}
use Rattle.bsc_node.specs.Logs.{Made, Line, Log}
use Rattle.bsc_node.specs.Links.{verdict}
use Rattle.bsc_node.specs.Ways.{learnt, uris_to_dial}
use Rattle.bsc_node.specs.Receiving.{sender}
use Rattle.bsc_node.specs.Node.{goes_on, actions_at, log}
use Rattle.bsc_node.specs.Conditions.{may_come, may_all_come}
use Rattle.bsc_node.specs.Laws.{with_event, with_heard}

-- By this event, behind the log L, an Address-Resolution-ACK comes that passes, with these URIs, and v is its sender.
abbrev pub IsAnsweredAt : Made → Log → TimedEvent → Vmac → List ℕ → Type 0
IsAnsweredAt a L e v uris =
    (name : LinkName) × (o : List ℕ) × (msg : Message) × (e.event ≡ Came name o) × (verdict a (with_event L e) name o ≡ Pass msg)
    × (msg.body ≡ AddressResolutionAck uris) × (sender name msg (with_heard a L e name o) ≡ Some v)

-- At some event of the log v said that these are its URIs.
pub record WasAnswered (a : Made) (L : Log) (v : Vmac) (uris : List ℕ) : Type 0 where
  pub before : Log
  pub e : TimedEvent
  pub later : List Line
  pub is : L ≡ before ++ (goes_on a e before ++ later)
  pub answered : IsAnsweredAt a before e v uris

-- The URIs that a node has learnt of another are those that an Address-Resolution-ACK from that VMAC said.
abbrev pub LearnsWhatWasAnswered : Made → Type 0
LearnsWhatWasAnswered a = (events : List TimedEvent) → IsTrue (may_all_come a events)
    → (v : Vmac) (uris : List ℕ) → learnt v (log a events) ≡ Some uris → WasAnswered a (log a events) v uris

-- Whether octets are an Address-Resolution-ACK.
abbrev pub is_uris : List ℕ → Bool
is_uris o = slice_index o 0 == 0x03

-- Octets are an Address-Resolution-ACK with these URIs, where there are any.
abbrev pub IsAnswerOf : Option (List ℕ) → List ℕ → Type 0
IsAnswerOf own o = (uris : List ℕ) × (id : ℕ) × (dest : Option Vmac) × (own ≡ Some uris) × (o ≡ message_octets id dest (AddressResolutionAck uris))

-- An action puts no Address-Resolution-ACK but with these URIs.
abbrev pub TellsUris : Option (List ℕ) → Action → Type 0
TellsUris own (Put name o) = is_uris o ≡ true → IsAnswerOf own o
TellsUris own action = ⊤

-- An Address-Resolution-ACK that a node puts has its own URIs.
abbrev pub TellsItsOwnUris : Made → Type 0
TellsItsOwnUris a = (L : Log) (e : TimedEvent) → IsTrue (may_come L e) → AllByRecursion (TellsUris a.limits.uris) (actions_at a L e)

-- ---- dialling

-- A dial goes to the URI that the node was made with for the hub, or for a slot to one of those that it has learnt of some
-- VMAC.
abbrev pub DialsKnown : Made → Log → Action → Type 0
DialsKnown a L (Dial (Hub Primary) uri) = uri ≡ a.limits.primary
DialsKnown a L (Dial (Hub Failover) uri) = uri ≡ unwrap_or a.limits.failover []
DialsKnown a L (Dial (Direct k) uri) = (v : Vmac) × (place : ℕ) × (slice_get (uris_to_dial v L) place ≡ Some uri)
DialsKnown a L action = ⊤

-- A node dials its hubs by the URIs that it was made with, and for direct connections URIs that it has learnt.
abbrev pub DialsWhatItKnows : Made → Type 0
DialsWhatItKnows a = (L : Log) (e : TimedEvent) → IsTrue (may_come L e) → AllByRecursion (DialsKnown a (with_event L e)) (actions_at a L e)
