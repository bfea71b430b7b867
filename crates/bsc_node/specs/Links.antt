-- The links of a node: which are there, what the machine of each was asked, in which phase each is and who its peer is.
use Rattle.std.specs.Prelude.{ℕ, ◌==◌, Bool, true, false, not, ◌&&◌, if◌then◌else◌, List, [], ◌∷◌, map, filter_map, Option, Some, None, is_some, unwrap_or}
use Rattle.std.specs.List.{list_any}
use Rattle.std.specs.Option.{option_or, option_map, option_and_then}
use Rattle.bsc_octets.specs.declared.vmac.Vmac.{Vmac}
use Rattle.bsc_octets.specs.declared.identity.Identity.{Identity}
use Rattle.bsc_frame.specs.declared.message.Message.{Message}
use Rattle.bsc_connector.specs.declared.side.Side.TheVariants.{Primary, Failover}
use Rattle.bsc_connector.specs.Back.{first_of, newest_of, since, until, at_last}
use Rattle.bsc_connector.specs.Sides.{same_side}
use Rattle.bsc_accept.specs.declared.closing.Closing.{Closing}
use Rattle.bsc_checks.specs.declared.phase.Phase.{Phase}
use Rattle.bsc_checks.specs.declared.phase.Phase.TheVariants.{AwaitingAccept, Connected}
use Rattle.bsc_checks.specs.declared.place.Place.{Place}
use Rattle.bsc_checks.specs.declared.place.Place.TheVariants.{NodeHub, NodeDirect}
use Rattle.bsc_checks.specs.declared.verdict.Verdict.{Verdict}
use Rattle.bsc_checks.specs.declared.verdict.Verdict.TheVariants.{Pass}
use Rattle.bsc_accept.specs.declared.start.Start.{Start}
use Rattle.bsc_initiate.specs.declared.event.InitEvent.{InitEvent}
use Rattle.bsc_initiate.specs.declared.event.InitEvent.TheVariants.{Opened, Message as InitMessage, Tick as InitTick, Finish as InitFinish}
use Rattle.bsc_initiate.specs.declared.step.InitStep.{InitStep}
use Rattle.bsc_initiate.specs.declared.step.InitStep.TheVariants.{Put as InitPut, PutClose as InitPutClose, Connected as InitConnected, Refused, Up as InitUp}
use Rattle.bsc_initiate.specs.declared.step.InitStep.TheVariants.{Close as InitClose, Nothing as InitNothing}
use Rattle.bsc_accept.specs.declared.event.Event.{Event}
use Rattle.bsc_accept.specs.declared.event.Event.TheVariants.{Message as AcceptMessage, Tick as AcceptTick, Finish as AcceptFinish}
use Rattle.bsc_accept.specs.declared.step.Step.{Step}
use Rattle.bsc_accept.specs.declared.step.Step.TheVariants.{Ask, Put as AcceptPut, PutClose as AcceptPutClose}
use Rattle.bsc_accept.specs.declared.step.Step.TheVariants.{Up as AcceptUp, Close as AcceptClose, Nothing as AcceptNothing}
use Rattle.bsc_initiate.specs.Messages.{who_accepts}
use Rattle.bsc_initiate.specs.Past as Initiating
use Rattle.bsc_initiate.specs.Steps as InitiatingSteps
use Rattle.bsc_accept.specs.Messages.{who_asks}
use Rattle.bsc_accept.specs.Past as Accepting
use Rattle.bsc_accept.specs.Steps as AcceptingSteps
use Rattle.bsc_direct.specs.Slots.{slots}
use Rattle.bsc_checks.specs.Outcomes.{outcome_of}
use Rattle.bsc_node.specs.declared.link_name.LinkName.{LinkName}
use Rattle.bsc_node.specs.declared.link_name.LinkName.TheVariants.{Hub, Direct}
use Rattle.bsc_node.specs.declared.node_event.NodeEvent.{NodeEvent}
use Rattle.bsc_node.specs.declared.node_event.NodeEvent.TheVariants.{DialFailed, Lost}
use Rattle.bsc_node.specs.declared.action.Action.{Action}
use Rattle.bsc_node.specs.declared.action.Action.TheVariants.{Dial, Take, Close}
use Rattle.bsc_node.specs.Logs.{Made, Line, came, initiating, accepting, did, Log, Rule, now, own, own_vmac, next_id}

-- ---- names

abbrev pub same_link : LinkName → LinkName → Bool
same_link (Hub s) (Hub t) = same_side s t
same_link (Direct k) (Direct j) = k == j
same_link name other = false

-- All names, in the order in which a Tick and a Finish go through them: the primary hub, the failover, then the slots.
abbrev pub names : List LinkName
names = Hub Primary ∷ Hub Failover ∷ map (λ k. Direct k) slots

-- ---- which links are there

-- whether by this action the link begins, and whether it was then taken and not dialled
abbrev pub begins_by : LinkName → Action → Option Bool
begins_by name (Dial other uri) = if same_link other name then Some false else None
begins_by name (Take other) = if same_link other name then Some true else None
begins_by name action = None

abbrev pub beginning_of : LinkName → Line → Option Bool
beginning_of name (did action) = begins_by name action
beginning_of name m = None

abbrev pub begins : LinkName → Line → Bool
begins name m = is_some (beginning_of name m)

-- whether it is the number of a slot
abbrev pub is_in_slots : ℕ → Bool
is_in_slots k = list_any (λ j. k == j) slots

-- whether a line begins no link, or that of a hub or of a slot
abbrev pub begins_in_slots : Line → Bool
begins_in_slots (did (Dial (Direct k) uri)) = is_in_slots k
begins_in_slots (did (Take (Direct k))) = is_in_slots k
begins_in_slots m = true

-- whether by this event, or by this action, the link is over
abbrev pub is_over_by_event : LinkName → NodeEvent → Bool
is_over_by_event name (DialFailed other) = same_link other name
is_over_by_event name (Lost other) = same_link other name
is_over_by_event name e = false

abbrev pub is_over_by : LinkName → Line → Bool
is_over_by name (came e) = is_over_by_event name e.event
is_over_by name (did (Close other closing)) = same_link other name
is_over_by name m = false

-- What the log says since the link's newest beginning.
abbrev pub life : Log → LinkName → Log
life L name = since (begins name) L

-- A link is there, open or under way: it was dialled or taken, and since then it wasn't closed or lost, nor did the dial
-- fail.
abbrev pub is_there : LinkName → Log → Bool
is_there name L = list_any (begins name) L && not (list_any (is_over_by name) (life L name))

-- Whether no link at all is there.
abbrev pub none_there : Log → Bool
none_there L = not (list_any (λ name. is_there name L) names)

-- Whether the link was taken, and not dialled.
abbrev pub was_taken : LinkName → Log → Bool
was_taken name L = unwrap_or (newest_of (beginning_of name) L) false

-- ---- their machines

-- With what the link's machine started: who the node was then, and the time.
abbrev pub start : Made → Log → LinkName → Start
start a L name = let before = until (begins name) L in record { own = own a before; times = a.limits.times; at = now before }

abbrev pub initiating_event : LinkName → Line → Option InitEvent
initiating_event name (initiating other call) = if same_link other name then Some call else None
initiating_event name m = None

abbrev pub accepting_event : LinkName → Line → Option Event
accepting_event name (accepting other call) = if same_link other name then Some call else None
accepting_event name m = None

-- What the link's machine was told since it began, where it was dialled, and where it was taken.
abbrev pub initiating_events : Log → LinkName → List InitEvent
initiating_events L name = filter_map (initiating_event name) (life L name)

abbrev pub accepting_events : Log → LinkName → List Event
accepting_events L name = filter_map (accepting_event name) (life L name)

-- the Message ID of the Connect-Request that a dialled link put, once its WebSocket has opened
abbrev pub request : List InitEvent → Option ℕ
request E = first_of Initiating.request_at E

-- who accepts the Connect-Request with this Message ID
abbrev pub accepts_by : ℕ → InitEvent → Option Identity
accepts_by id (InitMessage now (Pass msg)) = if msg.id == id then who_accepts msg.body else None
accepts_by id e = None

-- who asks by a Connect-Request
abbrev pub asks_by : Event → Option Identity
asks_by (AcceptMessage now (Pass msg)) = who_asks msg.body
asks_by e = None

-- who accepted, and who asked
abbrev pub who_accepted : List InitEvent → Option Identity
who_accepted E = option_and_then (λ id. first_of (accepts_by id) E) (request E)

abbrev pub who_asked : List Event → Option Identity
who_asked E = first_of asks_by E

-- The link's peer, once it has named itself: by the Connect-Accept, or by the Connect-Request.
abbrev pub peer : Log → LinkName → Option Identity
peer L name = option_or (who_accepted (initiating_events L name)) (who_asked (accepting_events L name))

-- ---- where a message comes

abbrev pub phase_by : Bool → Log → LinkName → Phase
phase_by false L name = unwrap_or (Initiating.phase (initiating_events L name)) AwaitingAccept
phase_by true L name = Accepting.phase (accepting_events L name)

-- The phase of the link, by what its machine was told. (No message comes before the WebSocket has opened.)
abbrev pub phase : Log → LinkName → Phase
phase L name = phase_by (was_taken name L) L name

-- whether it is the phase Connected
abbrev pub is_in_connected : Phase → Bool
is_in_connected Connected = true
is_in_connected phase = false

-- The place of a message that comes over the link.
abbrev pub place : Made → Log → LinkName → Place
place a L (Hub s) = NodeHub (own_vmac a L) (phase L (Hub s))
place a L (Direct k) = NodeDirect (own_vmac a L) (option_map (λ (who : Identity). who.vmac) (peer L (Direct k))) (phase L (Direct k))

-- What becomes of the octets that come over the link: the verdict of the checks at that place, where no message is to be
-- longer than the node takes.
abbrev pub verdict : Made → Log → LinkName → List ℕ → Verdict
verdict a L name o = outcome_of o (place a L name) a.own.max_bvlc

-- ---- what a link's machine is told

abbrev pub by_machine : (LinkName → InitEvent) → (LinkName → Event) → LinkName → Bool → List Line
by_machine dialled taken name false = initiating name (dialled name) ∷ []
by_machine dialled taken name true = accepting name (taken name) ∷ []

-- The machine of a link that opened is told so.
abbrev pub opens : LinkName → Rule
opens name L = initiating name (Opened (now L) (next_id L)) ∷ []

-- The link's machine gets a message, with its verdict.
abbrev pub hears : Made → LinkName → List ℕ → Rule
hears a name o L = by_machine (λ n. InitMessage (now L) (verdict a L n o)) (λ n. AcceptMessage (now L) (verdict a L n o)) name (was_taken name L)

-- The link's machine is told the time.
abbrev pub ticks : LinkName → Rule
ticks name L = by_machine (λ n. InitTick (now L) (next_id L)) (λ n. AcceptTick (now L)) name (was_taken name L)

-- The link's machine is told to finish, with the node's next number.
abbrev pub finishes : LinkName → Rule
finishes name L = by_machine (λ n. InitFinish (now L) (next_id L)) (λ n. AcceptFinish (now L) (next_id L)) name (was_taken name L)

-- ---- the newest step of a link's machine

-- What a machine's step is to the node, whichever of the two machines it is.
pub data Outcome : Type 0 where
  -- a message is put
  puts : List ℕ → Outcome
  -- a message is put, and the link is closed
  puts_and_closes : List ℕ → Closing → Outcome
  -- the link is closed
  closes : Closing → Outcome
  -- the peer has named itself, by its Connect-Accept or its Connect-Request
  meets : Identity → Outcome
  -- the peer refused, with this error code; the address that its NAK came from, where it has one
  is_refused : Option Vmac → ℕ → Outcome
  -- a message is for the node
  passes_up : Message → Outcome
  -- nothing
  keeps_still : Outcome

-- a message that passed is for the node
abbrev pub up_from : Verdict → Outcome
up_from (Pass msg) = passes_up msg
up_from v = keeps_still

abbrev pub up_by_initiating : InitEvent → Outcome
up_by_initiating (InitMessage now v) = up_from v
up_by_initiating e = keeps_still

-- the Originating Virtual Address of the message that came
abbrev pub origin_of : InitEvent → Option Vmac
origin_of (InitMessage now (Pass msg)) = msg.origin
origin_of e = None

-- What a step of an initiating machine is to the node.
abbrev pub initiating_outcome : InitEvent → InitStep → Outcome
initiating_outcome e (InitPut o) = puts o.items
initiating_outcome e (InitPutClose o closing) = puts_and_closes o.items closing
initiating_outcome e (InitConnected who) = meets who
initiating_outcome e (Refused code) = is_refused (origin_of e) code
initiating_outcome e InitUp = up_by_initiating e
initiating_outcome e (InitClose closing) = closes closing
initiating_outcome e InitNothing = keeps_still

-- In Connected what the accepting machine does nothing with is for the node.
abbrev pub up_by_accepting : Accepting.Standing → Event → Outcome
up_by_accepting Accepting.connected (AcceptMessage now v) = up_from v
up_by_accepting standing e = keeps_still

-- What a step of an accepting machine is to the node. No message that comes to a node is judged to be carried on, so none
-- goes up so.
abbrev pub accepting_outcome : Accepting.Standing → Event → Step → Outcome
accepting_outcome standing e (Ask who) = meets who
accepting_outcome standing e (AcceptPut o) = puts o.items
accepting_outcome standing e (AcceptPutClose o closing) = puts_and_closes o.items closing
accepting_outcome standing e AcceptUp = keeps_still
accepting_outcome standing e (AcceptClose closing) = closes closing
accepting_outcome standing e AcceptNothing = up_by_accepting standing e

abbrev pub outcome_by : Bool → Made → Log → LinkName → Outcome
outcome_by false a L name = at_last (λ E e. initiating_outcome e (InitiatingSteps.step (start a L name) E e)) keeps_still (initiating_events L name)
outcome_by true a L name =
    at_last (λ E e. accepting_outcome (Accepting.standing E) e (AcceptingSteps.step (start a L name) E e)) keeps_still
    (accepting_events L name)

-- The step of the link's machine when it was last told something.
abbrev pub outcome : Made → Log → LinkName → Outcome
outcome a L name = outcome_by (was_taken name L) a L name
