-- Words for what NPDUs are carried, and where.
use Rattle.std.specs.Prelude.{◌≡◌, ◌<◌, ◌^◌, ◌⊎◌, ℕ, List, [], filter, take, Option, Some, None}
use Rattle.bsc_octets.specs.declared.vmac.Vmac.{Vmac}
use Rattle.bsc_octets.specs.Functions.{is_npdu}
use Rattle.bsc_frame.specs.declared.body.Body.TheVariants.{Npdu}
use Rattle.bsc_node.specs.Messages.{message_octets}
use Rattle.bsc_network.specs.Worlds.{Hub}
use Rattle.bsc_network.specs.Outboxes.{Frame, frames}

-- Which Sends there were: whether at a place a node sends an NPDU to an address.
abbrev pub Sendings : Type 1
Sendings = ℕ → ℕ → Vmac → List ℕ → Type 0

-- The Encapsulated-NPDUs among some frames.
abbrev pub npdus : List Frame → List Frame
npdus fs = filter (λ f. is_npdu f.octets) fs

-- What was taken from the outbox of this connection, where there is one: so many frames.
abbrev pub taken_of : Hub → Option ℕ → ℕ → List Frame
taken_of h None taken = []
taken_of h (Some c) taken = take taken (frames h c)

-- A frame is the NPDU of a Send of node k at its place, with the Send's destination or, over a direct connection, with none, and with
-- a Message ID of two octets.
abbrev pub IsSentBy : Sendings → ℕ → Frame → Type 0
IsSentBy S k f =
    (dest : Vmac) × (npdu : List ℕ) × (id : ℕ) × (to : Option Vmac) × S f.sent_at k dest npdu
    × (f.octets ≡ message_octets id to (Npdu npdu)) × ((to ≡ Some dest) ⊎ (to ≡ None)) × (id < 2 ^ 16)
