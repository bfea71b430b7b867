-- Rules: what follows where a peer has named itself or has refused, and where a VMAC is drawn anew.
use Rattle.std.specs.Prelude.{ℕ, ◌==◌, nat_lt, Bool, true, false, not, ◌&&◌, [], ◌∷◌, count_by, Option, Some, None}
use Rattle.bsc_octets.specs.declared.identity.Identity.{Identity}
use Rattle.bsc_octets.specs.declared.vmac.Vmac.{Vmac}
use Rattle.bsc_connector.specs.declared.side.Side.{Side}
use Rattle.bsc_connector.specs.declared.event.ConnectorEvent.TheVariants.{Connected}
use Rattle.bsc_connector.specs.Back.{newest_of, since}
use Rattle.bsc_accept.specs.declared.closing.Closing.{Closing}
use Rattle.bsc_accept.specs.declared.reason.Reason.TheVariants.{WrongPeer as ReasonWrongPeer}
use Rattle.bsc_accept.specs.declared.event.Event.TheVariants.{Joined, Refused}
use Rattle.bsc_accept.specs.Messages.{duplicate_vmac_code}
use Rattle.bsc_accept.specs.Steps.{closing, normal}
use Rattle.bsc_history.specs.declared.reply.Refusal.TheVariants.{Duplicate}
use Rattle.bsc_direct.specs.declared.call.SlotCall.TheVariants.{Up}
use Rattle.bsc_direct.specs.declared.establish.Establish.{Establish}
use Rattle.bsc_direct.specs.declared.establish.Establish.TheVariants.{Up as IsUp}
use Rattle.bsc_node.specs.declared.link_name.LinkName.{LinkName}
use Rattle.bsc_node.specs.declared.link_name.LinkName.TheVariants.{Hub, Direct}
use Rattle.bsc_node.specs.declared.bounds.TheConstants.{RENEWALS}
use Rattle.bsc_node.specs.declared.node_event.NodeEvent.{NodeEvent}
use Rattle.bsc_node.specs.declared.node_event.NodeEvent.TheVariants.{Came, Random}
use Rattle.bsc_node.specs.declared.note.Note.TheVariants.{DirectUp, Nak, Renewed, NoRandom}
use Rattle.bsc_node.specs.declared.action.Action.TheVariants.{Close, Draw}
use Rattle.bsc_node.specs.Logs.{Made, Line, came, connector, accepting, Log, Rule, nothing, in_order, either, when, where_found, does}
use Rattle.bsc_node.specs.Logs.{tells, own_vmac, is_finishing}
use Rattle.bsc_node.specs.Links.{none_there, was_taken}
use Rattle.bsc_node.specs.Hubs.{is_under_way, is_connected_event}
use Rattle.bsc_node.specs.Ways.{wanted, awaits_peer, establish, slots_see}
use Rattle.bsc_node.specs.Ending.{carries_out, tells_connector, ends, closes_link, finishes_link}

-- ---- direct connections

-- The direct connection to another peer than the wanted one, or to one whose VMAC is taken, is closed so.
abbrev pub wrong_peer : Closing
wrong_peer = closing 1008 ReasonWrongPeer

-- who asked is accepted
abbrev pub joins : LinkName → Rule
joins name L = accepting name Joined ∷ []

-- who asked is refused, since its VMAC is taken
abbrev pub refuses : LinkName → Rule
refuses name L = accepting name (Refused (Duplicate None)) ∷ []

-- A replaced slot is told to finish.
abbrev pub finishes_replaced : Made → Option ℕ → Rule
finishes_replaced a None = nothing
finishes_replaced a (Some k) = finishes_link a (Direct k)

-- A direct connection is established; that it is up is told; the slot that it replaced is told to finish.
abbrev pub comes_up : Made → ℕ → Identity → Option ℕ → Rule
comes_up a k who replaced = in_order (slots_see (Up k who) ∷ tells (DirectUp who.vmac) ∷ finishes_replaced a replaced ∷ [])

-- A peer that this node dialled is established, or the link is closed.
abbrev pub meets_dialled : Made → ℕ → Identity → Establish → Rule
meets_dialled a k who (IsUp replaced) = comes_up a k who replaced
meets_dialled a k who otherwise = closes_link a (Direct k) wrong_peer

-- A peer that dialled this node gets the Connect-Accept and is established, or gets the NAK for a duplicate VMAC and the
-- link is closed.
abbrev pub meets_taken : Made → ℕ → Identity → Establish → Rule
meets_taken a k who (IsUp replaced) = in_order (joins (Direct k) ∷ carries_out a (Direct k) ∷ comes_up a k who replaced ∷ [])
meets_taken a k who otherwise = in_order (refuses (Direct k) ∷ carries_out a (Direct k) ∷ ends a (Direct k) ∷ [])

abbrev pub meets_slot : Made → ℕ → Identity → Rule
meets_slot a k who L = either (was_taken (Direct k)) (meets_taken a k who (establish a k who L)) (meets_dialled a k who (establish a k who L)) L

-- The peer of a direct connection has named itself. Where its slot doesn't wait for it the link is closed.
abbrev pub meets_direct : Made → ℕ → Identity → Rule
meets_direct a k who = either (awaits_peer k) (meets_slot a k who) (closes_link a (Direct k) wrong_peer)

-- The peer of a link has named itself: a hub that is tried is connected, a direct connection is established or not.
abbrev pub meets_peer : Made → LinkName → Identity → Rule
meets_peer a (Hub s) who = when (is_under_way a s) (tells_connector a (Connected s))
meets_peer a (Direct k) who = meets_direct a k who

-- ---- refusals

-- Who refused: over a hub connection the address that the NAK came from, where it has one, and over a direct connection
-- the peer that was wanted.
abbrev pub refuser : LinkName → Option Vmac → Log → Option Vmac
refuser (Hub s) origin L = origin
refuser (Direct k) origin L = wanted k L

-- The error code of the refusal is told.
abbrev pub tells_refusal : LinkName → Option Vmac → ℕ → Rule
tells_refusal name origin code L = tells (Nak (refuser name origin L) 0x06 code) L

abbrev pub is_renewal : Line → Bool
is_renewal (came e) = is_random e.event
  where
    is_random : NodeEvent → Bool
    is_random (Random w) = true
    is_random e = false
is_renewal m = false

abbrev pub is_accept_of_hub : Line → Bool
is_accept_of_hub (connector e) = is_connected_event e.event
is_accept_of_hub m = false

-- How often the node renewed its VMAC since a hub last accepted it.
abbrev pub renewals : Log → ℕ
renewals L = count_by is_renewal (since is_accept_of_hub L)

abbrev pub is_hub : LinkName → Bool
is_hub (Hub s) = true
is_hub (Direct k) = false

-- The node may draw another VMAC: a hub refused it as a duplicate, no link is there, the node isn't to end, and it
-- renewed its VMAC fewer times than it may since a hub last accepted it.
abbrev pub may_draw : LinkName → ℕ → Log → Bool
may_draw name code L = is_hub name && (code == duplicate_vmac_code) && none_there L && not (is_finishing L) && nat_lt (renewals L) RENEWALS

-- A link whose Connect-Request was refused is closed, and the refusal is told. Then another VMAC is drawn, and what
-- follows where a link is over waits for it; or that follows at once.
abbrev pub is_refused_by : Made → LinkName → Option Vmac → ℕ → Rule
is_refused_by a name origin code =
    in_order (does (Close name normal) ∷ tells_refusal name origin code ∷ either (may_draw name code) (does Draw) (ends a name) ∷ [])

-- whether a message came over the link of a hub, and of which
abbrev pub hub_message : NodeEvent → Option Side
hub_message (Came (Hub s) o) = Some s
hub_message e = None

abbrev pub hub_message_of : Line → Option Side
hub_message_of (came e) = hub_message e.event
hub_message_of m = None

-- The hub whose refusal the drawn word answers: the one whose message was the newest.
abbrev pub refusing_side : Log → Option Side
refusing_side L = newest_of hub_message_of L

-- That link, which is closed, is over now.
abbrev pub ends_refused : Made → Rule
ends_refused a = where_found refusing_side (λ s. ends a (Hub s)) nothing

-- The node has the VMAC of the word that was drawn, and tells so.
abbrev pub renews : Made → Rule
renews a = in_order ((λ L. tells (Renewed (own_vmac a L)) L) ∷ ends_refused a ∷ [])

-- No word was drawn: the node keeps its VMAC, and tells so.
abbrev pub keeps_vmac : Made → Rule
keeps_vmac a = in_order (tells NoRandom ∷ ends_refused a ∷ [])
