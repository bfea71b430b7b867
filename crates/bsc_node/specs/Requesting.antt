-- Rules: what follows where the user of the node wants something.
use Rattle.std.specs.Prelude.{ℕ, nat_le, Bool, false, ◌&&◌, List, [], ◌∷◌, length, Option, Some, None}
use Rattle.bsc_octets.specs.declared.identity.Identity.{Identity}
use Rattle.bsc_octets.specs.declared.vmac.Vmac.{Vmac}
use Rattle.bsc_frame.specs.declared.body.Body.{Body}
use Rattle.bsc_frame.specs.declared.body.Body.TheVariants.{Npdu, AddressResolution, AdvertisementSolicitation}
use Rattle.bsc_node.specs.Messages.{message_octets}
use Rattle.bsc_resolve.specs.declared.call.ResolveCall.TheVariants.{Ask}
use Rattle.bsc_direct.specs.declared.call.SlotCall.TheVariants.{Claim}
use Rattle.bsc_resolve.specs.declared.ask_refusal.AskRefusal.{AskRefusal}
use Rattle.bsc_resolve.specs.declared.ask_refusal.AskRefusal.TheVariants.{Full, Pending, NoMemory}
use Rattle.bsc_node.specs.declared.link_name.LinkName.TheVariants.{Direct}
use Rattle.bsc_node.specs.declared.note.Note.TheVariants.{NoPath, TooLong, NoUris, SlotsFull, AsksFull, AskPending, NoDirect}
use Rattle.bsc_node.specs.declared.action.Action.TheVariants.{Dial, Put}
use Rattle.bsc_node.specs.Logs.{Made, Log, Rule, nothing, in_order, either, where_found, does, tells, next_id, now}
use Rattle.bsc_node.specs.Links.{peer}
use Rattle.bsc_node.specs.Ways.{Way, way, established, learnt, uris_to_dial, free_slot, ask_refusal, slots_see, resolution_sees}

-- The octets of the node's next message that goes this way.
abbrev pub own_message : Way → Body → Log → List ℕ
own_message w body L = message_octets (next_id L) w.dest body

-- It is put.
abbrev pub puts_own : Way → Body → Rule
puts_own w body L = does (Put w.link (own_message w body L)) L

-- A rule of the way to v, where there is a path; else that there is none is told.
abbrev pub by_path : Vmac → (Way → Rule) → Rule
by_path v rule = where_found (way v) rule (tells (NoPath v))

-- ---- sending

-- whether a peer takes an NPDU in a message of these octets
abbrev pub takes_it : List ℕ → List ℕ → Option Identity → Bool
takes_it npdu o None = false
takes_it npdu o (Some who) = nat_le (length npdu) who.max_npdu && nat_le (length o) who.max_bvlc

-- Whether the NPDU and the message are no longer than the other end takes: the hub, or the peer of the direct connection.
abbrev pub other_end_takes : Way → List ℕ → Log → Bool
other_end_takes w npdu L = takes_it npdu (own_message w (Npdu npdu) L) (peer L w.link)

-- An NPDU goes by the path, unless it is too long for the other end.
abbrev pub sends : Vmac → List ℕ → Rule
sends v npdu = by_path v (λ w. either (other_end_takes w npdu) (puts_own w (Npdu npdu)) (tells (TooLong v)))

-- ---- asking

abbrev pub asks_unless : Way → Vmac → Option AskRefusal → Rule
asks_unless w v None L = in_order (puts_own w AddressResolution ∷ resolution_sees (Ask (now L) (next_id L) v) ∷ []) L
asks_unless w v (Some (Full held)) L = tells AsksFull L
asks_unless w v (Some (Pending id)) L = tells (AskPending v) L
asks_unless w v (Some NoMemory) L = []

-- A question for v's URIs goes by the path, unless there is no room for it or one is under way.
abbrev pub resolves : Made → Vmac → Rule
resolves a v = by_path v (λ w L. asks_unless w v (ask_refusal a v L) L)

-- A solicitation of an Advertisement goes by the path.
abbrev pub solicits : Vmac → Rule
solicits v = by_path v (λ w. puts_own w AdvertisementSolicitation)

-- ---- direct connections

-- The slot is claimed for v, and the first URI is dialled that begins with `ws://`, where there is one.
abbrev pub dials_first : Vmac → ℕ → List (List ℕ) → Rule
dials_first v k [] = tells (NoDirect v)
dials_first v k (uri ∷ uris) = in_order (slots_see (Claim k (Some v)) ∷ does (Dial (Direct k) uri) ∷ [])

-- A direct connection to v is wanted: nothing is done where one is established; else URIs have to be learnt, then a slot
-- free, then one of the URIs such that it can be dialled.
abbrev pub directs : Vmac → Rule
directs v =
    where_found (established v) (λ k. nothing)
    (where_found (learnt v) (λ text. where_found free_slot (λ k L. dials_first v k (uris_to_dial v L) L) (tells SlotsFull)) (tells (NoUris v)))
