-- How what the code hands on stands for the words of the definition.
use Rattle.std.specs.Prelude.{ℕ, Bool, true, false, Option, Some, None}
use Rattle.std.specs.Option.{option_map}
use Rattle.bsc_octets.specs.declared.identity.Identity.{Identity}
use Rattle.bsc_octets.specs.declared.vmac.Vmac.{Vmac}
use Rattle.bsc_frame.specs.declared.message.Message.{Message}
use Rattle.bsc_checks.specs.declared.verdict.Verdict.{Verdict}
use Rattle.bsc_checks.specs.declared.verdict.Verdict.TheVariants.{Pass}
use Rattle.bsc_accept.specs.declared.event.Event.{Event}
use Rattle.bsc_accept.specs.declared.event.Event.TheVariants.{Message as AcceptMessage}
use Rattle.bsc_accept.specs.Past as AcceptingPast
use Rattle.bsc_initiate.specs.declared.event.InitEvent.{InitEvent}
use Rattle.bsc_initiate.specs.declared.event.InitEvent.TheVariants.{Message as InitMessage}
use Rattle.bsc_initiate.specs.declared.step.InitStep.{InitStep}
use Rattle.bsc_initiate.specs.declared.step.InitStep.TheVariants.{Put, PutClose, Close, Connected, Refused, Up, Nothing}
use Rattle.bsc_connector.specs.declared.hub_use.HubUse.{HubUse}
use Rattle.bsc_direct.specs.declared.routes.Route.{Route}
use Rattle.bsc_direct.specs.declared.routes.Route.TheVariants.{Direct as ByDirect, Hub as ByHub, NoPath as ByNone}
use Rattle.bsc_node.specs.declared.link_name.LinkName.TheVariants.{Direct}
use Rattle.bsc_node.specs.Links.{Outcome, puts, puts_and_closes, closes, meets, is_refused, passes_up, keeps_still}
use Rattle.bsc_node.specs.declared.note.Note.TheVariants.{DirectDown}
use Rattle.bsc_node.specs.Logs.{Rule, nothing, tells, where_found}
use Rattle.bsc_node.specs.Hubs.{link_in_use}
use Rattle.bsc_node.specs.Ways as Ways
use Rattle.bsc_node_core.specs.declared.way.Way.{Way}

-- ---- ways

abbrev pub way_of : Way → Ways.Way
way_of w = record { link = w.link; dest = w.dest }

-- the way by a route, where this hub is in use
abbrev pub way_by : Vmac → HubUse → Route → Option Ways.Way
way_by v used (ByDirect k) = Some (record { link = Direct k; dest = None })
way_by v used ByHub = option_map (λ link. record { link = link; dest = Some v }) (link_in_use used)
way_by v used ByNone = None

-- ---- a machine's step

abbrev pub up_from : Option Message → Outcome
up_from None = keeps_still
up_from (Some msg) = passes_up msg

-- the message that passed, and the Originating Virtual Address that it has
abbrev pub message_in : Verdict → Option Message
message_in (Pass msg) = Some msg
message_in v = None

abbrev pub origin_in : Verdict → Option Vmac
origin_in (Pass msg) = msg.origin
origin_in v = None

-- the message that passed at an event of a machine that the node dialled with, and of one of a link that it took
abbrev pub message_of : InitEvent → Option Message
message_of (InitMessage now v) = message_in v
message_of e = None

abbrev pub message_taken : Event → Option Message
message_taken (AcceptMessage now v) = message_in v
message_taken e = None

-- whether what an accepting machine does nothing with at this event is for the node: a message in Connected
abbrev pub goes_up : Event → AcceptingPast.Standing → Bool
goes_up (AcceptMessage now v) AcceptingPast.connected = true
goes_up e standing = false

-- What a step is to the node, with the address that a message came from and the message, where one came.
abbrev pub outcome_of : Option Vmac → Option Message → InitStep → Outcome
outcome_of origin msg (Put o) = puts o.items
outcome_of origin msg (PutClose o closing) = puts_and_closes o.items closing
outcome_of origin msg (Close closing) = closes closing
outcome_of origin msg (Connected who) = meets who
outcome_of origin msg (Refused code) = is_refused origin code
outcome_of origin msg Up = up_from msg
outcome_of origin msg Nothing = keeps_still

-- ---- a slot

-- That a direct connection is down is told, where it was established.
abbrev pub tells_down : ℕ → Rule
tells_down k = where_found (Ways.established_peer k) (λ (who : Identity). tells (DirectDown who.vmac)) nothing
