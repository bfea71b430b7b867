-- The log of a node: what came to it, what it asked of its parts, and what it did, in the order in which it came about,
-- newest last. All that a node knows is read off its log by looking back.
use Rattle.std.specs.Prelude.{ℕ, ◌+◌, ◌%◌, Bool, true, false, not, List, [], ◌∷◌, ◌++◌, drop, length, count_by, fold}
use Rattle.std.specs.Prelude.{Option, Some, None, unwrap_or}
use Rattle.std.specs.List.{list_any}
use Rattle.std.specs.Option.{option_map}
use Rattle.bsc_octets.specs.declared.vmac.Vmac.{Vmac}
use Rattle.bsc_octets.specs.declared.identity.Identity.{Identity}
use Rattle.bsc_octets.specs.Addresses.{random48_of}
use Rattle.bsc_octets.specs.Forwarding.{function_in}
use Rattle.bsc_octets.specs.Functions.{is_response}
use Rattle.bsc_connector.specs.Back.{newest_of}
use Rattle.bsc_connector.specs.declared.event.HubEvent.{HubEvent}
use Rattle.bsc_initiate.specs.declared.event.InitEvent.{InitEvent}
use Rattle.bsc_accept.specs.declared.event.Event.{Event}
use Rattle.bsc_resolve.specs.declared.call.ResolveCall.{ResolveCall}
use Rattle.bsc_direct.specs.declared.call.SlotCall.{SlotCall}
use Rattle.bsc_node.specs.declared.link_name.LinkName.{LinkName}
use Rattle.bsc_node.specs.declared.node_event.NodeEvent.{NodeEvent}
use Rattle.bsc_node.specs.declared.node_event.NodeEvent.TheVariants.{Finish, Random}
use Rattle.bsc_node.specs.declared.timed_event.TimedEvent.{TimedEvent}
use Rattle.bsc_node.specs.declared.node_limits.NodeLimits.{NodeLimits}
use Rattle.bsc_node.specs.declared.note.Note.{Note}
use Rattle.bsc_node.specs.declared.action.Action.{Action}
use Rattle.bsc_node.specs.declared.action.Action.TheVariants.{Put, Tell}

-- What a node was made with: its identity and its settings.
pub record Made : Type 0 where
  pub own : Identity
  pub limits : NodeLimits

-- ---- logs

-- One line of a log.
pub data Line : Type 0 where
  -- an event came to the node
  came : TimedEvent → Line
  -- the machine of a link that the node dialled was told something
  initiating : LinkName → InitEvent → Line
  -- the machine of a link that it took was told something
  accepting : LinkName → Event → Line
  -- the connector was told something
  connector : HubEvent → Line
  -- something happened to the slots
  slot : SlotCall → Line
  -- something happened to address resolution
  resolution : ResolveCall → Line
  -- the node did something
  did : Action → Line

abbrev pub Log : Type 0
Log = List Line

-- A rule says by which lines a log goes on.
abbrev pub Rule : Type 0
Rule = Log → List Line

-- ---- how rules are put together

-- the rule by which nothing comes about
abbrev pub nothing : Rule
nothing L = []

-- The log L after some rules, each of which sees what those before it brought about.
abbrev pub after : List Rule → Log → Log
after rules L = fold (λ (M : Log) (rule : Rule). M ++ rule M) L rules

-- Some rules, one after the other.
abbrev pub in_order : List Rule → Rule
in_order rules L = drop (length L) (after rules L)

abbrev pub if_so : Bool → Rule → Rule → Rule
if_so true rule other L = rule L
if_so false rule other L = other L

-- One rule where the log passes the test, and another where it doesn't.
abbrev pub either : (Log → Bool) → Rule → Rule → Rule
either test rule other L = if_so (test L) rule other L

-- A rule for those logs that pass the test.
abbrev pub when : (Log → Bool) → Rule → Rule
when test rule L = if_so (test L) rule nothing L

abbrev pub with_some : {A : Type 0} → Option A → (A → Rule) → Rule → Rule
with_some (Some x) rule other L = rule x L
with_some None rule other L = other L

-- One rule of what is found in the log, and another where it isn't found.
abbrev pub where_found : {A : Type 0} → (Log → Option A) → (A → Rule) → Rule → Rule
where_found look rule other L = with_some (look L) rule other L

-- The node does this.
abbrev pub does : Action → Rule
does action L = did action ∷ []

-- The node tells its user this.
abbrev pub tells : Note → Rule
tells note = does (Tell note)

-- ---- time, numbers and address

abbrev pub event_of : Line → Option TimedEvent
event_of (came e) = Some e
event_of m = None

abbrev pub action_of : Line → Option Action
action_of (did action) = Some action
action_of m = None

-- The time: that of the newest event.
abbrev pub now : Log → ℕ
now L = unwrap_or (option_map (λ (e : TimedEvent). e.now) (newest_of event_of L)) 0

-- whether the node put a message of its own, which is numbered: no response
abbrev pub is_numbered : Line → Bool
is_numbered (did (Put name o)) = not (is_response (function_in o))
is_numbered m = false

-- The Message ID of the node's next message: its messages are numbered from 1, and after FFFF comes 0000.
abbrev pub next_id : Log → ℕ
next_id L = (count_by is_numbered L + 1) % 65536

abbrev pub renewal_in : NodeEvent → Option Vmac
renewal_in (Random w) = Some (random48_of w)
renewal_in e = None

abbrev pub renewal_of : Line → Option Vmac
renewal_of (came e) = renewal_in e.event
renewal_of m = None

-- The node's VMAC: the newest that was drawn, or the one that it was given.
abbrev pub own_vmac : Made → Log → Vmac
own_vmac a L = unwrap_or (newest_of renewal_of L) a.own.vmac

-- Who the node is.
abbrev pub own : Made → Log → Identity
own a L = record a.own { vmac = own_vmac a L }

abbrev pub is_finish : Line → Bool
is_finish (came e) = finishes e.event
  where
    finishes : NodeEvent → Bool
    finishes Finish = true
    finishes e = false
is_finish m = false

-- Whether the node is to end.
abbrev pub is_finishing : Log → Bool
is_finishing L = list_any is_finish L
