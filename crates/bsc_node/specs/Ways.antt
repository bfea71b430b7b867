-- Direct connections, learnt URIs, and the way of a message that the node sends.
use Rattle.std.specs.Prelude.{ℕ, ◌==◌, nat_eq, Bool, false, ◌&&◌, if◌then◌else◌, List, [], ◌∷◌, filter, filter_map, count_by, slice_get}
use Rattle.std.specs.Prelude.{Option, Some, None, is_none}
use Rattle.std.specs.List.{starts_with}
use Rattle.std.specs.Option.{option_map, option_and_then}
use Rattle.bsc_octets.specs.declared.vmac.Vmac.{Vmac}
use Rattle.bsc_octets.specs.declared.identity.Identity.{Identity}
use Rattle.bsc_connector.specs.Back.{since}
use Rattle.bsc_direct.specs.declared.call.SlotCall.{SlotCall}
use Rattle.bsc_direct.specs.declared.call.SlotCall.TheVariants.{Claim}
use Rattle.bsc_resolve.specs.declared.call.ResolveCall.{ResolveCall}
use Rattle.bsc_direct.specs.declared.establish.Establish.{Establish}
use Rattle.bsc_direct.specs.declared.routes.Route.{Route}
use Rattle.bsc_direct.specs.declared.routes.Route.TheVariants.{Direct as ByDirect, Hub as ByHub, NoPath as ByNone}
use Rattle.bsc_resolve.specs.declared.ask_refusal.AskRefusal.{AskRefusal}
use Rattle.bsc_resolve.specs.Resolving as Resolving
use Rattle.bsc_direct.specs.Slots as Slots
use Rattle.bsc_direct.specs.Paths.{path}
use Rattle.bsc_node.specs.declared.link_name.LinkName.{LinkName}
use Rattle.bsc_node.specs.declared.link_name.LinkName.TheVariants.{Direct}
use Rattle.bsc_node.specs.Logs.{Made, Line, slot, resolution, Log, Rule, own_vmac}
use Rattle.bsc_node.specs.Links.{begins}
use Rattle.bsc_node.specs.Hubs.{hub_use, link_in_use}

-- ---- slots

abbrev pub slot_call_of : Line → Option SlotCall
slot_call_of (slot call) = Some call
slot_call_of m = None

-- What happened to the slots.
abbrev pub slot_calls : Log → List SlotCall
slot_calls L = filter_map slot_call_of L

-- This happens to the slots.
abbrev pub slots_see : SlotCall → Rule
slots_see call L = slot call ∷ []

-- The lowest free slot, where one is free.
abbrev pub free_slot : Log → Option ℕ
free_slot L = Slots.free_slot (slot_calls L)

-- The VMAC that is wanted of the slot's peer.
abbrev pub wanted : ℕ → Log → Option Vmac
wanted k L = Slots.wanted (slot_calls L) k

-- The peer with which the slot is established.
abbrev pub established_peer : ℕ → Log → Option Identity
established_peer k L = Slots.established_peer (slot_calls L) k

-- Whether the slot waits for its peer: it is claimed and not established.
abbrev pub awaits_peer : ℕ → Log → Bool
awaits_peer k L = Slots.is_claimed (slot_calls L) k && is_none (established_peer k L)

-- The slot that is established for v.
abbrev pub established : Vmac → Log → Option ℕ
established v L = Slots.established (slot_calls L) v

-- Whether the connection of the slot with who is established.
abbrev pub establish : Made → ℕ → Identity → Log → Establish
establish a k who L = Slots.establish (own_vmac a L) (slot_calls L) k who

-- ---- questions and URIs

abbrev pub resolve_call_of : Line → Option ResolveCall
resolve_call_of (resolution call) = Some call
resolve_call_of m = None

-- What happened to address resolution.
abbrev pub resolve_calls : Log → List ResolveCall
resolve_calls L = filter_map resolve_call_of L

-- This happens to address resolution.
abbrev pub resolution_sees : ResolveCall → Rule
resolution_sees call L = resolution call ∷ []

-- Why a question for v isn't asked. A question waits for the connect wait.
abbrev pub ask_refusal : Made → Vmac → Log → Option AskRefusal
ask_refusal a v L = Resolving.ask_refusal a.limits.times.connect_wait (resolve_calls L) v

-- Whether a question for v with this Message ID is under way.
abbrev pub awaits : Made → ℕ → Vmac → Log → Bool
awaits a id v L = Resolving.awaits a.limits.times.connect_wait (resolve_calls L) id v

-- the first word of a text, and the words after a space
abbrev pub words_with : List ℕ → List ℕ → List (List ℕ)
words_with word [] = word ∷ []
words_with word (c ∷ cs) = if c == 0x20 then word ∷ words_with [] cs else words_with (push_back word c) cs
  where
    push_back : List ℕ → ℕ → List ℕ
    push_back [] c = c ∷ []
    push_back (b ∷ bs) c = b ∷ push_back bs c

-- whether a URI begins with `ws://`
abbrev pub is_ws_uri : List ℕ → Bool
is_ws_uri uri = starts_with nat_eq uri (0x77 ∷ 0x73 ∷ 0x3A ∷ 0x2F ∷ 0x2F ∷ [])

-- The URIs that were learnt of v, where any were: a text with one space between two.
abbrev pub learnt : Vmac → Log → Option (List ℕ)
learnt v L = Resolving.learnt (resolve_calls L) v

-- Those of them that begin with `ws://`, in order.
abbrev pub uris_to_dial : Vmac → Log → List (List ℕ)
uris_to_dial v L = of_text (learnt v L)
  where
    of_text : Option (List ℕ) → List (List ℕ)
    of_text None = []
    of_text (Some text) = filter is_ws_uri (words_with [] text)

abbrev pub is_claim_of : ℕ → Line → Bool
is_claim_of k (slot (Claim j wanted)) = j == k
is_claim_of k m = false

-- How often the slot was dialled since it was claimed.
abbrev pub tries : ℕ → Log → ℕ
tries k L = count_by (begins (Direct k)) (since (is_claim_of k) L)

-- The URI that the slot dials next: of those learnt by now of the VMAC that it was dialled for, the next in order.
abbrev pub next_uri : ℕ → Log → Option (List ℕ)
next_uri k L = option_and_then (λ v. slice_get (uris_to_dial v L) (tries k L)) (wanted k L)

-- ---- the way of a message

-- By which link a message goes, and with which Destination Virtual Address: that of its destination over the hub, and
-- none over a direct connection.
pub record Way : Type 0 where
  pub link : LinkName
  pub dest : Option Vmac

abbrev pub way_by : Log → Vmac → Route → Option Way
way_by L v (ByDirect k) = Some (record { link = Direct k; dest = None })
way_by L v ByHub = option_map (λ link. record { link = link; dest = Some v }) (link_in_use (hub_use L))
way_by L v ByNone = None

-- The way of a message to v, where there is a path.
abbrev pub way : Vmac → Log → Option Way
way v L = way_by L v (path (slot_calls L) (hub_use L) v)
