-- For which log a node's state stands.
use Rattle.std.specs.Prelude.{◌≡◌, ℕ, ◌<◌, ◌+◌, ◌%◌, if◌then◌else◌, min, true, false, List, [], ◌++◌, filter_map, ⊤, Bool, ◌||◌, Option, Some, None, is_some}
use Rattle.bsc_octets.specs.Forwarding.{function_in}
use Rattle.bsc_octets.specs.Functions.{is_response}
use Rattle.bsc_connector.specs.declared.side.Side.TheVariants.{Primary, Failover}
use Rattle.bsc_connector.specs.declared.event.ConnectorEvent.{ConnectorEvent}
use Rattle.bsc_connector.specs.Back.{first_of}
use Rattle.bsc_connector.specs.Sides.{connects}
use Rattle.bsc_connector.specs.Standing.{ConnectorStands}
use Rattle.bsc_direct.specs.declared.bounds.TheConstants.{SLOTS}
use Rattle.bsc_direct.specs.Standing.{DirectStands}
use Rattle.bsc_initiate.specs.declared.event.InitEvent.{InitEvent}
use Rattle.bsc_initiate.specs.declared.initiating.Initiating.{Initiating}
use Rattle.bsc_initiate.specs.Past as InitiatingPast
use Rattle.bsc_initiate.specs.Standing.{InitiatingStands}
use Rattle.bsc_accept.specs.declared.event.Event.{Event}
use Rattle.bsc_accept.specs.declared.accepting.Accepting.{Accepting}
use Rattle.bsc_accept.specs.Past as AcceptingPast
use Rattle.bsc_accept.specs.Standing.{AcceptingStands}
use Rattle.bsc_resolve.specs.declared.call.ResolveCall.{ResolveCall}
use Rattle.bsc_node.specs.declared.bounds.TheConstants.{RENEWALS}
use Rattle.bsc_node.specs.declared.link_name.LinkName.{LinkName}
use Rattle.bsc_node.specs.declared.link_name.LinkName.TheVariants.{Direct}
use Rattle.bsc_node.specs.declared.action.Action.{Action}
use Rattle.bsc_node.specs.Logs.{Made, Line, Log, Rule, now, next_id, own, is_finishing, action_of}
use Rattle.bsc_node.specs.Links.{is_there, was_taken, start, initiating_events, accepting_events, request, accepts_by, who_accepted, who_asked, peer}
use Rattle.bsc_node.specs.Hubs.{waits, hub_events, is_dropped, is_connected_event}
use Rattle.bsc_node.specs.Ways.{slot_calls, resolve_calls, tries}
use Rattle.bsc_node.specs.Meeting.{renewals, refusing_side, is_hub}
use Rattle.bsc_node_core.specs.declared.machine.Machine.{Machine}
use Rattle.bsc_node_core.specs.declared.machine.Machine.TheVariants.{Gone, Over, Dialled, Taken, Asked}
use Rattle.bsc_node_core.specs.declared.state.State.{State}
use Rattle.bsc_node_core.specs.Machines.{says_there}
use Rattle.bsc_node_core.specs.Tables.{Kept, link_at, is_name}
use Rattle.bsc_node_core.specs.Spares.{Agrees}

-- Whether its peer has accepted, by the state of a machine that the node dialled with; before the Connect-Request no message
-- came.
abbrev pub AcceptStands : InitiatingPast.Standing → List InitEvent → Type 0
AcceptStands InitiatingPast.awaiting_websocket E = (request E ≡ None) × ((id : ℕ) → first_of (accepts_by id) E ≡ None)
AcceptStands (InitiatingPast.awaiting_accept id) E = (request E ≡ Some id) × (first_of (accepts_by id) E ≡ None)
AcceptStands InitiatingPast.connected E = is_some (who_accepted E) ≡ true
AcceptStands (InitiatingPast.disconnecting f) E = is_some (who_accepted E) ≡ true

-- A machine that the node dialled with stands for what the log says it was told.
pub record DialledStands (a : Made) (L : Log) (name : LinkName) (m : Initiating) : Type 0 where
  pub dialled : was_taken name L ≡ false
  pub alone : accepting_events L name ≡ []
  pub machine : InitiatingStands m (start a L name) (initiating_events L name)
  pub accept : AcceptStands (InitiatingPast.standing (initiating_events L name)) (initiating_events L name)

-- Whether its peer has asked, by the state of a machine of a link that the node took.
abbrev pub AskStands : AcceptingPast.Standing → Option ℕ → List Event → Type 0
AskStands AcceptingPast.awaiting_request None E = who_asked E ≡ None
AskStands standing question E = is_some (who_asked E) ≡ true

-- A machine of a link that the node took, which is no hub's.
pub record TakenStands (a : Made) (L : Log) (name : LinkName) (m : Accepting) : Type 0 where
  pub slot : is_hub name ≡ false
  pub taken : was_taken name L ≡ true
  pub alone : initiating_events L name ≡ []
  pub machine : AcceptingStands m (start a L name) (accepting_events L name)
  pub ask : AskStands (AcceptingPast.standing (accepting_events L name)) (AcceptingPast.question (accepting_events L name)) (accepting_events L name)

-- A machine that has closed, or that has asked, stands only while its newest step is carried out: the link is the busy one.
abbrev pub MachineStands : Made → Option LinkName → Log → LinkName → Machine → Type 0
MachineStands a busy L name Gone = ⊤
MachineStands a busy L name Over = busy ≡ Some name
MachineStands a busy L name (Dialled m) = DialledStands a L name m
MachineStands a busy L name (Taken m) = TakenStands a L name m
MachineStands a busy L name (Asked m) = TakenStands a L name m × (busy ≡ Some name)

-- A link is there where the log says so, its machine stands for what it was told, and its peer is that of the log.
pub record LinkStands (a : Made) (busy : Option LinkName) (L : Log) (name : LinkName) (l : Kept) : Type 0 where
  pub there : is_there name L ≡ says_there l.machine
  pub machine : MachineStands a busy L name l.machine
  pub peer : peer L name ≡ l.peer

-- What a node was made with; the log that it stood for before the newest event came, the time of that event, and what had
-- happened to its address resolution; the link whose machine's newest step isn't carried out yet; and what the node kept then.
pub record Base : Type 0 where
  pub made : Made
  pub before : Log
  pub now : ℕ
  pub asked : List ResolveCall
  pub busy : Option LinkName
  pub spare : State

-- The actions since then.
pub record HaveCome (b : Base) (out : List Action) (L : Log) : Type 0 where
  pub lines : List Line
  pub log : L ≡ b.before ++ lines
  pub actions : out ≡ filter_map action_of lines

-- What a node keeps is what the log says, and what wasn't touched of it is as it was before the newest event came.
pub record Stands (b : Base) (out : List Action) (s : State) (L : Log) : Type 0 where
  pub now : now L ≡ b.now
  pub own : own b.made L ≡ s.own
  pub next : next_id L ≡ s.next
  pub finishing : is_finishing L ≡ s.finishing
  pub renewals : min RENEWALS (renewals L) ≡ s.renewals
  pub newest_hub : refusing_side L ≡ s.newest_hub
  pub dropped : is_dropped Failover L ≡ s.dropped
  pub connector : ConnectorStands s.connector (waits b.made) (hub_events L)
  pub direct : DirectStands s.direct (slot_calls L)
  pub asked : resolve_calls L ≡ b.asked
  pub links : (name : LinkName) → is_name name ≡ true → LinkStands b.made b.busy L name (link_at s.links name)
  pub tries : (k : ℕ) → k < SLOTS → min (tries k L) 18446744073709551615 ≡ (link_at s.links (Direct k)).tries
  pub spare : Agrees b.spare s
  pub actions : HaveCome b out L

-- the number of the next message once these octets are put: a response has none of its own
abbrev pub next_after : List ℕ → ℕ → ℕ
next_after o n = if is_response (function_in o) then n else (n + 1) % 65536

-- the renewals since a hub accepted, and whether the failover was dropped, once the connector was told this
abbrev pub renewals_after : ConnectorEvent → ℕ → ℕ
renewals_after e n = if is_connected_event e then 0 else n

abbrev pub dropped_after : ConnectorEvent → Bool → Bool
dropped_after e d = d || connects Primary e

-- For whatever log it stood, it stands for that with the lines of the rule.
abbrev pub FollowsAlways : (Made → Rule) → List Action → State → List Action → State → Type 0
FollowsAlways rule out s out' s' = (b : Base) (L : Log) → Stands b out s L → Stands b out' s' (L ++ rule b.made L)
