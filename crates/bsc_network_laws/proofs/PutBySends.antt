-- Each NPDU that node k puts at an event is that of a Send of its own, in this very step.
-- It serves clauses of functions of `laws`.
use Rattle.std.proofs.Common.{◌≡◌, ◌<◌, ◌⊎◌, inl, inr, ℕ, Bool, true, false, List, [], ◌∷◌, ◌++◌, Option, Some, None, refl, ap, sym, subst, ◌∙◌}
use Rattle.std.specs.Prelude.{◌^◌, IsTrue, if◌then◌else◌, filter_map, map}
use Rattle.std.specs.List.{list_any}
use Rattle.std.specs.Option.{option_map}
use Rattle.bsc_octets.specs.declared.vmac.Vmac.{Vmac}
use Rattle.bsc_octets.specs.Functions.{is_npdu}
use Rattle.bsc_direct.specs.declared.routes.Route.{Route}
use Rattle.bsc_direct.specs.declared.routes.Route.TheVariants.{Direct as ByDirect, Hub as ByHub, NoPath as ByNone}
use Rattle.bsc_direct.specs.Paths.{path}
use Rattle.bsc_node.specs.declared.link_name.LinkName.{LinkName}
use Rattle.bsc_node.specs.declared.node_event.NodeEvent.{NodeEvent}
use Rattle.bsc_node.specs.declared.node_event.NodeEvent.TheVariants.{Send, NoRandom}
use Rattle.bsc_node.specs.declared.timed_event.TimedEvent.{TimedEvent}
use Rattle.bsc_node.specs.declared.action.Action.TheVariants.{Put}
use Rattle.bsc_node.specs.Logs.{Log, action_of, in_order, next_id}
use Rattle.bsc_node.specs.Hubs.{hub_use, link_in_use}
use Rattle.bsc_node.specs.Ways.{Way as NodeWay, way, way_by, slot_calls}
use Rattle.bsc_node.specs.Node.{goes_on, actions_at}
use Rattle.bsc_node.specs.Laws.{with_event, draws}
use Rattle.bsc_node.specs.Conditions.{fits, may_come}
use Rattle.bsc_node_laws.proofs.Drawn.{draws_at}
use Rattle.bsc_node_identity.proofs.Timely.{Timely, may_then}
use Rattle.bsc_network.specs.declared.world_step.WorldStep.{WorldStep}
use Rattle.bsc_network.specs.declared.world_step.WorldStep.TheVariants.{Node as OfNode}
use Rattle.bsc_network.specs.declared.arrival.Arrival.{Arrival}
use Rattle.bsc_network.specs.declared.parcel.Content.{Content}
use Rattle.bsc_network.specs.declared.parcel.Content.TheVariants.{Opened, Arrived, Message, Closed}
use Rattle.bsc_network.specs.Worlds.{World, Node}
use Rattle.bsc_network.specs.NodeEvents.{brings_about}
use Rattle.bsc_network.specs.NodeSides.{name_of}
use Rattle.bsc_network.specs.Arriving.{event_of}
use Rattle.bsc_network_laws.specs.Carrying.{Sendings, IsSentBy}
use Rattle.bsc_network_laws.proofs.Acting.{Among}
use Rattle.bsc_network_laws.proofs.Moves.{Comes}
use Rattle.bsc_network_laws.proofs.Sent.{IsOfSend, put_is_of_send}
use Rattle.bsc_network_laws.proofs.Timing.{no_word_comes}
use Rattle.bsc_network_laws.proofs.Events.{among-both, actions-one, actions-two}
use Rattle.bsc_lemmas.proofs.Numbers.{small_id}
use Rattle.bsc_node.proofs.Common.{no_word_then}
use Rattle.bsc_node.proofs.Moments.{now_then}

-- ---- the way of a Send

way_dest : (L : Log) (v : Vmac) (r : Route) (w : NodeWay) → way_by L v r ≡ Some w → (w.dest ≡ Some v) ⊎ (w.dest ≡ None)
way_dest L v (ByDirect k) w h = inr (ap (λ (o : Option NodeWay). dest_in o) (sym h))
  where
    dest_in : Option NodeWay → Option Vmac
    dest_in None = None
    dest_in (Some x) = x.dest
way_dest L v ByHub w h = over (link_in_use (hub_use L)) h
  where
    over : (o : Option LinkName) → option_map (λ link. record { link = link; dest = Some v }) o ≡ Some w → (w.dest ≡ Some v) ⊎ (w.dest ≡ None)
    over None g = cc
    over (Some link) g = inl cc
way_dest L v ByNone w h = cc

-- ---- a Send comes only as the step's own event

pub not_sent : (content : Content) (name : Option LinkName) (dest : Vmac) (npdu : List ℕ) → event_of content name ≡ Some (Send dest npdu) → ⊥
not_sent Arrived name dest npdu h = cc
not_sent Opened (Some name) dest npdu h = cc
not_sent (Message o) (Some name) dest npdu h = cc
not_sent Closed (Some name) dest npdu h = cc
not_sent Opened None dest npdu h = cc
not_sent (Message o) None dest npdu h = cc
not_sent Closed None dest npdu h = cc

pub sent_is_own : (D : WorldStep) (w : World) (k : ℕ) (n : Node) (by : Option Arrival) (e : NodeEvent) (dest : Vmac) (npdu : List ℕ) → Comes D w k n by e → e ≡ Send dest npdu
    → D ≡ OfNode k (Send dest npdu)
sent_is_own D w k n (Some a) e dest npdu (content, heard, came, is) sent = absurd (not_sent content (name_of a.link a.way n) dest npdu (is ∙ ap Some sent))
sent_is_own D w k n None e dest npdu (inl own) sent = own.0 ∙ ap (OfNode k) sent
sent_is_own D w k n None e dest npdu (inr (inl (l, way, name, is, held))) sent = cc
sent_is_own D w k n None e dest npdu (inr (inr (name, is))) sent = cc

-- ---- an NPDU that is put

-- It is that of a Send, which is the step's own event.
pub put_is_sent : (S : Sendings) (place T : ℕ) (D : WorldStep) (w : World) (k : ℕ) (n : Node) (by : Option Arrival) (e : NodeEvent) (name : LinkName) (o : List ℕ)
    → T < 2 ^ 62 → Timely T n.log → Comes D w k n by e → fits n.log e ≡ true → ((dest : Vmac) (npdu : List ℕ) → D ≡ OfNode k (Send dest npdu) → S place k dest npdu)
    → Among (Put name o) (filter_map action_of (brings_about n.made (record { now = T; event = e }) n.log)) → is_npdu o ≡ true → IsSentBy S k (record { octets = o; sent_at = place })
put_is_sent S place T D w k n by e name o below calm come fit sends among npdu = split (list_any draws (actions_at n.made n.log event)) refl among
  where
    event : TimedEvent
    event = record { now = T; event = e }

    none : TimedEvent
    none = record { now = T; event = NoRandom }

    may : IsTrue (may_come n.log event)
    may = may_then T n.log e below calm (no_word_comes D w k n by e come) fit

    of_send : IsOfSend n.made n.log event name o → IsSentBy S k (record { octets = o; sent_at = place })
    of_send s = (
      s.dest,
      s.npdu,
      next_id (with_event n.log event),
      s.path.dest,
      sends s.dest s.npdu (sent_is_own D w k n by e s.dest s.npdu come s.event),
      s.octets,
      way_dest (with_event n.log event) s.dest (path (slot_calls (with_event n.log event)) (hub_use (with_event n.log event)) s.dest) s.path s.by,
      small_id _,
    )

    first : Among (Put name o) (actions_at n.made n.log event) → IsSentBy S k (record { octets = o; sent_at = place })
    first h = of_send (put_is_of_send n.made n.log event name o may h npdu)

    no_send : (dest : Vmac) (octets : List ℕ) → NoRandom ≡ Send dest octets → ⊥
    no_send dest octets h = cc

    second : list_any draws (actions_at n.made n.log event) ≡ true → Among (Put name o) (actions_at n.made (n.log ++ goes_on n.made event n.log) none)
        → IsSentBy S k (record { octets = o; sent_at = place })
    second drawn h =
        let M = n.log ++ goes_on n.made event n.log in
        let s = put_is_of_send n.made M none name o (no_word_then T M below (now_then n.made n.log event may) (draws_at n.made n.log event may ∙ drawn)) h npdu in
        absurd (no_send s.dest s.npdu s.event)

    either_of : list_any draws (actions_at n.made n.log event) ≡ true → Among (Put name o) (actions_at n.made n.log event)
        ⊎ Among (Put name o) (actions_at n.made (n.log ++ goes_on n.made event n.log) none) → IsSentBy S k (record { octets = o; sent_at = place })
    either_of drawn (inl h) = first h
    either_of drawn (inr h) = second drawn h

    split : (b : Bool) → list_any draws (actions_at n.made n.log event) ≡ b
        → Among (Put name o) (filter_map action_of (in_order (map (goes_on n.made) (if b then event ∷ none ∷ [] else event ∷ [])) n.log)) → IsSentBy S k (record { octets = o; sent_at = place })
    split false drawn h = first (subst (Among (Put name o)) (actions-one n.made event n.log) h)
    split true drawn h = either_of drawn (among-both (Put name o) (actions_at n.made n.log event) _ (subst (Among (Put name o)) (actions-two n.made event none n.log) h))
