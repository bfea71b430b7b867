-- Rules: what follows where a message comes for the node, over its hub or a direct connection.
use Rattle.std.specs.Prelude.{ℕ, ◌==◌, Bool, false, not, ◌&&◌, if◌then◌else◌, List, [], ◌∷◌, Option, Some, None, is_some}
use Rattle.std.specs.Option.{option_or, option_map}
use Rattle.bsc_octets.specs.declared.identity.Identity.{Identity}
use Rattle.bsc_octets.specs.declared.vmac.Vmac.{Vmac}
use Rattle.bsc_octets.specs.Addresses.{same_vmac, broadcast}
use Rattle.bsc_frame.specs.declared.advert.Advert.{Advert}
use Rattle.bsc_frame.specs.declared.message.Message.{Message}
use Rattle.bsc_frame.specs.declared.body.Body.{Body}
use Rattle.bsc_frame.specs.declared.body.Body.TheVariants.{BvlcResult, Npdu, AddressResolution, AddressResolutionAck, Advertisement, AdvertisementSolicitation}
use Rattle.bsc_frame.specs.declared.answer.Answer.{Answer}
use Rattle.bsc_frame.specs.declared.answer.Answer.TheVariants.{Ack, Nak}
use Rattle.bsc_node.specs.Messages.{message_octets, nak, not_supported_code}
use Rattle.bsc_resolve.specs.declared.call.ResolveCall.TheVariants.{Answered, Refused}
use Rattle.bsc_node.specs.declared.link_name.LinkName.{LinkName}
use Rattle.bsc_node.specs.declared.link_name.LinkName.TheVariants.{Hub, Direct}
use Rattle.bsc_node.specs.declared.note.Note.TheVariants.{Uris, Advert as ToldAdvert, Nak as ToldNak}
use Rattle.bsc_node.specs.declared.action.Action.TheVariants.{Put, Deliver}
use Rattle.bsc_node.specs.Logs.{Made, Log, Rule, nothing, in_order, when, with_some, does, tells, next_id}
use Rattle.bsc_node.specs.Links.{peer}
use Rattle.bsc_node.specs.Hubs.{hub_use, hub_status}
use Rattle.bsc_node.specs.Ways.{awaits, resolution_sees}

-- ---- who sent it, and to whom an answer goes

-- Who sent the message: its Originating Virtual Address, or on a direct connection the peer. The hub itself has none.
abbrev pub sender : LinkName → Message → Log → Option Vmac
sender (Hub s) msg L = msg.origin
sender (Direct k) msg L = option_or msg.origin (option_map (λ (who : Identity). who.vmac) (peer L (Direct k)))

-- The Destination Virtual Address of an answer: over the hub the address that the message came from, none over a direct
-- connection.
abbrev pub answer_dest : LinkName → Message → Option Vmac
answer_dest (Hub s) msg = msg.origin
answer_dest (Direct k) msg = None

abbrev pub is_broadcast_address : Option Vmac → Bool
is_broadcast_address None = false
is_broadcast_address (Some v) = same_vmac v broadcast

-- Whether the message came for all.
abbrev pub is_for_all : Message → Bool
is_for_all msg = is_broadcast_address msg.dest

-- An answer with this Message ID is put.
abbrev pub answers : LinkName → Message → ℕ → Body → Rule
answers name msg id body = does (Put name (message_octets id (answer_dest name msg) body))

-- ---- the rules, one a kind of message

-- An NPDU is delivered, with its data options as they came.
abbrev pub delivers : Message → List ℕ → Vmac → Rule
delivers msg npdu from = does (Deliver (record { from = from; broadcast = is_for_all msg; data_options = msg.data_options; npdu = npdu }))

-- A question for the node's URIs is answered by them; a node that accepts no direct connections answers a unicast by the
-- NAK that the function isn't supported.
abbrev pub answers_by : LinkName → Message → Option (List ℕ) → Rule
answers_by name msg (Some uris) = answers name msg msg.id (AddressResolutionAck uris)
answers_by name msg None = when (λ L. not (is_for_all msg)) (answers name msg msg.id (nak 0x02 not_supported_code))

abbrev pub answers_question : Made → LinkName → Message → Rule
answers_question a name msg = answers_by name msg a.limits.uris

-- An answer to a question that is under way for the sender's URIs is told, and they are learnt.
abbrev pub learns : Made → Message → List ℕ → Vmac → Rule
learns a msg uris from = when (awaits a msg.id from) (in_order (resolution_sees (Answered msg.id from uris) ∷ tells (Uris from uris) ∷ []))

-- What the node advertises: the hub in use, whether it accepts direct connections, and what it takes.
abbrev pub advert : Made → Log → Advert
advert a L = record { status = hub_status (hub_use L); accepts = if is_some a.limits.uris then 1 else 0; max_bvlc = a.own.max_bvlc; max_npdu = a.own.max_npdu }

-- A solicitation is answered by an Advertisement, which has the node's next number.
abbrev pub advertises : Made → LinkName → Message → Rule
advertises a name msg L = answers name msg (next_id L) (Advertisement (advert a L)) L

-- A question that is under way and that the NAK answers is dropped.
abbrev pub drops_question : Made → ℕ → ℕ → Vmac → Rule
drops_question a function id from = when (λ L. (function == 0x02) && awaits a id from L) (resolution_sees (Refused id from))

-- A NAK of a function is told, and drops the question that it answers.
abbrev pub takes_nak : Made → LinkName → Message → ℕ → ℕ → Rule
takes_nak a name msg function code L =
    in_order (tells (ToldNak (sender name msg L) function code) ∷ with_some (sender name msg L) (drops_question a function msg.id) nothing ∷ []) L

-- An ACK does nothing.
abbrev pub takes_answer : Made → LinkName → Message → Answer → Rule
takes_answer a name msg (Ack function) = nothing
takes_answer a name msg (Nak function marker class code details) = takes_nak a name msg function code

-- a rule of who sent the message, where that is known
abbrev pub of_sender : LinkName → Message → (Vmac → Rule) → Rule
of_sender name msg rule L = with_some (sender name msg L) rule nothing L

abbrev pub takes_body : Made → LinkName → Message → Body → Rule
takes_body a name msg (Npdu npdu) = of_sender name msg (delivers msg npdu)
takes_body a name msg AddressResolution = answers_question a name msg
takes_body a name msg (AddressResolutionAck uris) = of_sender name msg (learns a msg uris)
takes_body a name msg (Advertisement ad) = of_sender name msg (λ from. tells (ToldAdvert from ad))
takes_body a name msg AdvertisementSolicitation = advertises a name msg
takes_body a name msg (BvlcResult answer) = takes_answer a name msg answer
takes_body a name msg body = nothing

-- What follows where a message comes for the node.
abbrev pub takes_up : Made → LinkName → Message → Rule
takes_up a name msg = takes_body a name msg msg.body
