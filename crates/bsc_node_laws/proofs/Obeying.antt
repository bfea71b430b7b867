-- What follows from a machine's step fits where it stands, whichever step it is; and so does what follows where time passes,
-- where the node is to end, and where the user wants something.
-- It serves the clauses of `links_begin_anew`.
use Rattle.std.proofs.Common.{◌≡◌, ℕ, true, false, List, [], ◌∷◌, ◌++◌, Option, Some, None, refl, ap, sym, ◌∙◌}
use Rattle.std.specs.Prelude.{⊤, not, map}
use Rattle.std.proofs.lemmas.List.{append_assoc}
use Rattle.bsc_octets.specs.declared.vmac.Vmac.{Vmac}
use Rattle.bsc_octets.specs.declared.identity.Identity.{Identity}
use Rattle.bsc_connector.specs.declared.side.Side.{Side}
use Rattle.bsc_connector.specs.declared.side.Side.TheVariants.{Primary, Failover}
use Rattle.bsc_connector.specs.declared.event.ConnectorEvent.TheVariants.{Connected, Tick as ConnectorTick}
use Rattle.bsc_accept.specs.declared.closing.Closing.{Closing}
use Rattle.bsc_accept.specs.Steps.{normal}
use Rattle.bsc_direct.specs.declared.call.SlotCall.TheVariants.{Claim, Up}
use Rattle.bsc_direct.specs.declared.establish.Establish.{Establish}
use Rattle.bsc_direct.specs.declared.establish.Establish.TheVariants.{Up as IsUp, Duplicate, WrongPeer}
use Rattle.bsc_direct.specs.Slots.{is_claimed}
use Rattle.bsc_node.specs.declared.link_name.LinkName.{LinkName}
use Rattle.bsc_node.specs.declared.link_name.LinkName.TheVariants.{Hub, Direct}
use Rattle.bsc_node.specs.declared.note.Note.TheVariants.{DirectUp, NoDirect, NoUris, SlotsFull, Nak}
use Rattle.bsc_node.specs.declared.action.Action.TheVariants.{Dial, Put, Close, Draw, Tell}
use Rattle.bsc_node.specs.Logs.{Made, Line, slot, did, Log, nothing, in_order, if_so, with_some, where_found, does, tells}
use Rattle.bsc_node.specs.Links.{names, begins, is_there, was_taken, ticks, Outcome, puts, puts_and_closes, closes, meets, is_refused, passes_up, keeps_still, outcome, is_in_slots}
use Rattle.bsc_node.specs.Hubs.{is_under_way}
use Rattle.bsc_node.specs.Ways.{slot_calls, free_slot, established, learnt, uris_to_dial, awaits_peer, establish, slots_see, wanted, next_uri}
use Rattle.bsc_node.specs.Ending.{carries_out_by, carries_out, tells_connector, tells_finished, ends, closes_link, finishes_link}
use Rattle.bsc_node.specs.Meeting.{joins, refuses, wrong_peer, finishes_replaced, comes_up, meets_dialled, meets_taken, meets_slot, meets_peer}
use Rattle.bsc_node.specs.Meeting.{refuser, tells_refusal, may_draw, is_refused_by, refusing_side, ends_refused}
use Rattle.bsc_node.specs.Receiving.{takes_up}
use Rattle.bsc_node.specs.Requesting.{dials_first, directs}
use Rattle.bsc_node.specs.Events.{obeys_by, obeys, dial_fails, tries_next, ticks_link, ticks_resolution, time_passes, is_to_end}
use Rattle.bsc_node.proofs.Order.{in_order-brought}
use Rattle.bsc_node.proofs.Passing.{pass-some}
use Rattle.bsc_node.proofs.Lasting.{free_in_slots}
use Rattle.bsc_node_laws.proofs.Tied.{Tied, EachFits}
use Rattle.bsc_node_laws.proofs.There.{gone-stays, gone-stays_all}
use Rattle.bsc_node_laws.proofs.Tying.{free_gone, claimed_now}
use Rattle.bsc_node_laws.proofs.Asked.{asked_closes}
use Rattle.bsc_node_laws.proofs.Plain.{plain-carries_by, plain-carries, plain-ticks, plain-takes_body}
use Rattle.bsc_node_laws.proofs.Fitting.{FitsAlways, fit-plain, fit-cons, fit-then, fit-last, fit-in_order, fit-when, fit-either, fit-some, fit-mapped, fit-each_append}
use Rattle.bsc_node_laws.proofs.Fitting.{fit-tells_connector, OverAt, over, fit-tells_finished, fit-ends, fit-closes_link, fit-finishes_link}
use Rattle.bsc_node.proofs.There.{closed-gone}

-- A link that a machine's step closed isn't there.
carried_gone : (name : LinkName) (o : List ℕ) (closing : Closing) (L : Log) → is_there name (L ++ carries_out_by name (puts_and_closes o closing) L) ≡ false
carried_gone name o closing L =
    ap (λ (lines : List Line). is_there name (L ++ lines)) (in_order-brought (does (Put name o) ∷ does (Close name closing) ∷ []) L)
    ∙ ap (is_there name) (sym (append_assoc L (did (Put name o) ∷ []) (did (Close name closing) ∷ []))) ∙ closed-gone name (L ++ did (Put name o) ∷ []) closing

-- ---- a peer has named itself

fit_finishes_replaced : (a : Made) (replaced : Option ℕ) → FitsAlways a (finishes_replaced a replaced)
fit_finishes_replaced a None L t = tt
fit_finishes_replaced a (Some k) L t = fit-finishes_link a (Direct k) L t

fit_comes_up : (a : Made) (k : ℕ) (who : Identity) (replaced : Option ℕ) → FitsAlways a (comes_up a k who replaced)
fit_comes_up a k who replaced =
    fit-in_order a (slots_see (Up k who) ∷ tells (DirectUp who.vmac) ∷ finishes_replaced a replaced ∷ []) ((λ L t. (tt, tt)), ((λ L t. (tt, tt)), (fit_finishes_replaced a replaced, tt)))

fit_meets_dialled : (a : Made) (k : ℕ) (who : Identity) (e : Establish) → FitsAlways a (meets_dialled a k who e)
fit_meets_dialled a k who (IsUp replaced) = fit_comes_up a k who replaced
fit_meets_dialled a k who (Duplicate holder) = fit-closes_link a (Direct k) wrong_peer
fit_meets_dialled a k who (WrongPeer v) = fit-closes_link a (Direct k) wrong_peer

-- the machine that had asked closes the link where who asked is refused
fit_refused : (a : Made) (k : ℕ) (who : Identity) (L : Log) → Tied a L → was_taken (Direct k) L ≡ true → outcome a L (Direct k) ≡ meets who
    → EachFits a L (in_order (refuses (Direct k) ∷ carries_out a (Direct k) ∷ ends a (Direct k) ∷ []) L)
fit_refused a k who L t taken met =
    fit-then a (refuses (Direct k)) (carries_out a (Direct k) ∷ ends a (Direct k) ∷ []) L t (tt, tt)
    (λ u. fit-then a (carries_out a (Direct k)) (ends a (Direct k) ∷ []) asked u (fit-plain a (carries_out a (Direct k)) (plain-carries a (Direct k)) asked u)
    (λ v. fit-last a (ends a (Direct k)) (asked ++ carries_out a (Direct k) asked) (fit-ends a (Direct k) (asked ++ carries_out a (Direct k) asked) v gone)))
  where
    asked : Log
    asked = L ++ refuses (Direct k) L

    gone : is_there (Direct k) (asked ++ carries_out a (Direct k) asked) ≡ false
    gone = let c = asked_closes a L k who taken met in ap (λ (u : Outcome). is_there (Direct k) (asked ++ carries_out_by (Direct k) u asked)) c.2 ∙ carried_gone (Direct k) c.0 c.1 asked

fit_meets_taken : (a : Made) (k : ℕ) (who : Identity) (e : Establish) (L : Log) → Tied a L → was_taken (Direct k) L ≡ true → outcome a L (Direct k) ≡ meets who
    → EachFits a L (meets_taken a k who e L)
fit_meets_taken a k who (IsUp replaced) L t taken met =
    fit-in_order a (joins (Direct k) ∷ carries_out a (Direct k) ∷ comes_up a k who replaced ∷ [])
    ((λ M u. (tt, tt)), (fit-plain a (carries_out a (Direct k)) (plain-carries a (Direct k)), (fit_comes_up a k who replaced, tt))) L t
fit_meets_taken a k who (Duplicate holder) L t taken met = fit_refused a k who L t taken met
fit_meets_taken a k who (WrongPeer v) L t taken met = fit_refused a k who L t taken met

fit_meets_peer : (a : Made) (name : LinkName) (who : Identity) (L : Log) → Tied a L → outcome a L name ≡ meets who → EachFits a L (meets_peer a name who L)
fit_meets_peer a (Hub s) who L t met = fit-when a (is_under_way a s) (tells_connector a (Connected s)) L (λ h. fit-tells_connector a (Connected s) L t refl tt)
fit_meets_peer a (Direct k) who L t met =
    fit-either a (awaits_peer k) (meets_slot a k who) (closes_link a (Direct k) wrong_peer) L
    (λ h. fit-either a (was_taken (Direct k)) (meets_taken a k who (establish a k who L)) (meets_dialled a k who (establish a k who L)) L
    (λ taken. fit_meets_taken a k who (establish a k who L) L t taken met) (λ dialled. fit_meets_dialled a k who (establish a k who L) L t))
    (λ h. fit-closes_link a (Direct k) wrong_peer L t)

-- ---- a refusal

fit_is_refused_by : (a : Made) (name : LinkName) (origin : Option Vmac) (code : ℕ) → FitsAlways a (is_refused_by a name origin code)
fit_is_refused_by a name origin code L t =
    fit-then a (does (Close name normal)) (tells_refusal name origin code ∷ draws_or_ends ∷ []) L t (tt, tt)
    (λ u. fit-then a (tells_refusal name origin code) (draws_or_ends ∷ []) closed u (tt, tt)
    (λ v. fit-last a draws_or_ends told (fit-either a (may_draw name code) (does Draw) (ends a name) told (λ d. (tt, tt)) (λ d. fit-ends a name told v (over name told gone)))))
  where
    draws_or_ends : Log → List Line
    draws_or_ends M = if_so (may_draw name code M) (does Draw) (ends a name) M

    closed : Log
    closed = L ++ did (Close name normal) ∷ []

    told : Log
    told = closed ++ tells_refusal name origin code closed

    gone : is_there name told ≡ false
    gone = gone-stays name closed (did (Tell (Nak (refuser name origin closed) 0x06 code))) refl (closed-gone name L normal)

-- ---- a machine's step

-- Whichever step a machine took, what follows from it fits.
fit_obeys_by : (a : Made) (name : LinkName) (o : Outcome) (L : Log) → Tied a L → outcome a L name ≡ o → EachFits a L (obeys_by a name o L)
fit_obeys_by a name (puts o) L t h = (tt, tt)
fit_obeys_by a name (puts_and_closes o closing) L t h =
    fit-then a (carries_out_by name (puts_and_closes o closing)) (ends a name ∷ []) L t
    (fit-plain a (carries_out_by name (puts_and_closes o closing)) (plain-carries_by name (puts_and_closes o closing)) L t)
    (λ u. fit-last a (ends a name) carried (fit-ends a name carried u (over name carried (carried_gone name o closing L))))
  where
    carried : Log
    carried = L ++ carries_out_by name (puts_and_closes o closing) L
fit_obeys_by a name (closes closing) L t h = fit-closes_link a name closing L t
fit_obeys_by a name (meets who) L t h = fit_meets_peer a name who L t h
fit_obeys_by a name (is_refused origin code) L t h = fit_is_refused_by a name origin code L t
fit_obeys_by a name (passes_up msg) L t h = fit-plain a (takes_up a name msg) (plain-takes_body a name msg msg.body) L t
fit_obeys_by a name keeps_still L t h = tt

pub fit-obeys : (a : Made) (name : LinkName) → FitsAlways a (obeys a name)
fit-obeys a name L t = fit_obeys_by a name (outcome a L name) L t refl

-- ---- time, and the end

fit_ticks_link : (a : Made) (name : LinkName) → FitsAlways a (ticks_link a name)
fit_ticks_link a name L t =
    fit-when a (is_there name) (in_order (ticks name ∷ obeys a name ∷ [])) L
    (λ h. fit-in_order a (ticks name ∷ obeys a name ∷ []) (fit-plain a (ticks name) (plain-ticks name), (fit-obeys a name, tt)) L t)

pub fit-time_passes : (a : Made) → FitsAlways a (time_passes a)
fit-time_passes a =
    fit-in_order a (map (ticks_link a) names ++ tells_connector a ConnectorTick ∷ ticks_resolution ∷ [])
    (fit-each_append a (map (ticks_link a) names) (tells_connector a ConnectorTick ∷ ticks_resolution ∷ []) (fit-mapped a (ticks_link a) names (fit_ticks_link a))
    ((λ L t. fit-tells_connector a ConnectorTick L t refl tt), ((λ L t. (tt, tt)), tt)))

pub fit-is_to_end : (a : Made) → FitsAlways a (is_to_end a)
fit-is_to_end a = fit-in_order a (tells_finished ∷ map (finishes_link a) names) (fit-tells_finished a, fit-mapped a (finishes_link a) names (fit-finishes_link a))

-- ---- direct connections are dialled

-- A slot that was found free is claimed and dialled.
fit_dials_first : (a : Made) (v : Vmac) (k : ℕ) (uris : List (List ℕ)) (L : Log) → Tied a L → free_slot L ≡ Some k → EachFits a L (dials_first v k uris L)
fit_dials_first a v k [] L t free = (tt, tt)
fit_dials_first a v k (uri ∷ uris) L t free =
    fit-cons a (slots_see (Claim k (Some v))) (does (Dial (Direct k) uri) ∷ []) L (tt, tt)
    (fit-last a (does (Dial (Direct k) uri)) (L ++ slot (Claim k (Some v)) ∷ [])
    (((gone-stays (Direct k) L (slot (Claim k (Some v))) refl (free_gone a L k t free), claimed_now L k (Some v)), free_in_slots L k free), tt))

pub fit-directs : (a : Made) (v : Vmac) → FitsAlways a (directs v)
fit-directs a v L t =
    fit-some a (established v L) (λ k. nothing) (where_found (learnt v) (λ text. where_found free_slot (λ k M. dials_first v k (uris_to_dial v M) M) (tells SlotsFull)) (tells (NoUris v))) L
    (λ k is. tt)
    (fit-some a (learnt v L) (λ text. where_found free_slot (λ k M. dials_first v k (uris_to_dial v M) M) (tells SlotsFull)) (tells (NoUris v)) L
    (λ text is. fit-some a (free_slot L) (λ k M. dials_first v k (uris_to_dial v M) M) (tells SlotsFull) L (λ k free. fit_dials_first a v k (uris_to_dial v L) L t free) (tt, tt)) (tt, tt))

-- ---- a dial failed, and a refusal whose word was awaited

-- What is asked of a slot that dials its next URI.
abbrev pub MayDialNext : LinkName → Log → Type 0
MayDialNext (Hub s) L = ⊤
MayDialNext (Direct k) L = (is_claimed (slot_calls L) k ≡ true) × (is_in_slots k ≡ true)

fit_tries_next : (a : Made) (k : ℕ) (L : Log) → Tied a L → is_there (Direct k) L ≡ false → MayDialNext (Direct k) L → EachFits a L (tries_next a k L)
fit_tries_next a k L t gone may =
    fit-some a (next_uri k L) (λ uri. does (Dial (Direct k) uri)) (in_order (tells_none ∷ ends a (Direct k) ∷ [])) L (λ uri is. (((gone, may.0), may.1), tt))
    (fit-then a tells_none (ends a (Direct k) ∷ []) L t (fit-some a (wanted k L) (λ v. tells (NoDirect v)) nothing L (λ v is. (tt, tt)) tt)
    (λ u. fit-last a (ends a (Direct k)) (L ++ tells_none L) (fit-ends a (Direct k) (L ++ tells_none L) u
    (gone-stays_all (Direct k) L (tells_none L) (pass-some (λ m. not (begins (Direct k) m)) (wanted k L) (λ v. tells (NoDirect v)) nothing (λ v M. refl) (λ M. refl) L) gone))))
  where
    tells_none : Log → List Line
    tells_none M = with_some (wanted k M) (λ v. tells (NoDirect v)) nothing M

pub fit-dial_fails : (a : Made) (name : LinkName) (L : Log) → Tied a L → is_there name L ≡ false → MayDialNext name L → EachFits a L (dial_fails a name L)
fit-dial_fails a (Hub s) L t gone may = fit-ends a (Hub s) L t (over (Hub s) L gone)
fit-dial_fails a (Direct k) L t gone may = fit_tries_next a k L t gone may

hub_over : (s : Side) (L : Log) → is_there (Hub Primary) L ≡ false → OverAt (Hub s) L
hub_over Primary L gone = gone
hub_over Failover L gone = tt

pub fit-ends_refused : (a : Made) (L : Log) → Tied a L → is_there (Hub Primary) L ≡ false → EachFits a L (ends_refused a L)
fit-ends_refused a L t gone = fit-some a (refusing_side L) (λ s. ends a (Hub s)) nothing L (λ s is. fit-ends a (Hub s) L t (hub_over s L gone)) tt
