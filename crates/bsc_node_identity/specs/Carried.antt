-- What comes of a message that was put, and where one goes: over a hub, and over a direct connection.
use Rattle.std.specs.Prelude.{◌≡◌, ◌<◌, ◌^◌, ℕ, length, Option, Some, None, if◌then◌else◌}
use Rattle.bsc_octets.specs.declared.vmac.Vmac.{Vmac}
use Rattle.bsc_octets.specs.declared.identity.Identity.{Identity}
use Rattle.bsc_octets.specs.Addresses.{same_vmac, broadcast}
use Rattle.bsc_octets.specs.Forwarding.{out}
use Rattle.bsc_frame.specs.declared.message.Message.{Message}
use Rattle.bsc_frame.specs.declared.body.Body.{Body}
use Rattle.bsc_checks.specs.declared.place.Place.{Place}
use Rattle.bsc_checks.specs.declared.verdict.Verdict.TheVariants.{Pass}
use Rattle.bsc_checks.specs.Outcomes.{outcome_of}
use Rattle.bsc_node.specs.declared.link_name.LinkName.{LinkName}
use Rattle.bsc_node.specs.declared.link_name.LinkName.TheVariants.{Hub, Direct}
use Rattle.bsc_node.specs.Messages.{message, message_octets}
use Rattle.bsc_node.specs.Logs.{Log}
use Rattle.bsc_node.specs.Ways.{Way, way, established_peer}

-- The Destination Virtual Address of what the hub passes on: the broadcast stays, and that of one node is taken out.
abbrev pub dest_out : Vmac → Option Vmac
dest_out dest = if same_vmac dest broadcast then Some broadcast else None

-- A message with this body as the hub passes it on from v: it has v as the Originating Virtual Address.
abbrev pub passed_on : ℕ → Vmac → Vmac → Body → Message
passed_on id v dest body = record (message id (dest_out dest) body) { origin = Some v }

-- What passes, at any place, of a message with this body that the hub passed on is that message, from its sender, to all or
-- to the one.
abbrev pub IsCarriedOn : Body → Type 0
IsCarriedOn body =
    (id : ℕ) (v dest : Vmac) (place : Place) (max : ℕ) (msg : Message) → id < 2 ^ 16 → length v.0 ≡ 6 → length dest.0 ≡ 6
    → outcome_of (out (message_octets id (Some dest) body) v) place max ≡ Pass msg → msg ≡ passed_on id v dest body

-- What passes, at any place, of a message with this body that was put without addresses is that message.
abbrev pub IsCarriedPlainly : Body → Type 0
IsCarriedPlainly body =
    (id : ℕ) (place : Place) (max : ℕ) (msg : Message) → id < 2 ^ 16 → outcome_of (message_octets id None body) place max ≡ Pass msg
    → msg ≡ message id None body

-- ---- where it goes

-- By this link and with this Destination Virtual Address a message gets to v: over a hub connection with v, and over a
-- direct connection with none, where the slot is established with a peer at v.
abbrev pub LeadsTo : Log → Vmac → LinkName → Option Vmac → Type 0
LeadsTo L v (Hub s) dest = dest ≡ Some v
LeadsTo L v (Direct k) dest = (dest ≡ None) × (who : Identity) × (established_peer k L ≡ Some who) × (who.vmac ≡ v)

-- The way of a message leads to its destination.
abbrev pub WaysLeadThere : Type 0
WaysLeadThere = (L : Log) (v : Vmac) (w : Way) → way v L ≡ Some w → LeadsTo L v w.link w.dest
