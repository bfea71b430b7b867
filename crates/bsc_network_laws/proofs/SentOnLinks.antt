-- After each step, each NPDU that a node put on a way is that of a Send of its own, at its place.
-- It serves clauses of functions of `laws`.
use Rattle.std.proofs.Common.{◌≡◌, ◌<◌, ℕ, Bool, true, false, cond, List, [], ◌∷◌, Option, Some, None, refl, ap, sym, subst, ◌∙◌}
use Rattle.std.specs.Prelude.{◌+◌, ◌^◌, filter_map, ⊤}
use Rattle.std.specs.Option.{option_map}
use Rattle.std.specs.List.{AllByRecursion}
use Rattle.bsc_octets.specs.declared.vmac.Vmac.{Vmac}
use Rattle.bsc_octets.specs.Functions.{is_npdu}
use Rattle.bsc_history.specs.declared.call.Call.TheVariants.{Connect}
use Rattle.bsc_node.specs.declared.link_name.LinkName.{LinkName}
use Rattle.bsc_node.specs.declared.node_event.NodeEvent.{NodeEvent}
use Rattle.bsc_node.specs.declared.node_event.NodeEvent.TheVariants.{Send}
use Rattle.bsc_node.specs.declared.action.Action.{Action}
use Rattle.bsc_node.specs.declared.action.Action.TheVariants.{Put}
use Rattle.bsc_node.specs.Conditions.{fits}
use Rattle.bsc_node.specs.Logs.{action_of}
use Rattle.bsc_node.specs.Links.{same_link}
use Rattle.bsc_node_identity.proofs.Timely.{Timely}
use Rattle.bsc_network.specs.declared.way.Way.{Way}
use Rattle.bsc_network.specs.declared.way.Way.TheVariants.{Up, Down}
use Rattle.bsc_network.specs.declared.target.Target.{Target}
use Rattle.bsc_network.specs.declared.target.Target.TheVariants.{Hub as ToHub, Node as ToNode}
use Rattle.bsc_network.specs.declared.world_step.WorldStep.{WorldStep}
use Rattle.bsc_network.specs.declared.world_step.WorldStep.TheVariants.{Node as OfNode}
use Rattle.bsc_network.specs.declared.hold.Hold.{Hold}
use Rattle.bsc_network.specs.declared.arrival.Arrival.{Arrival}
use Rattle.bsc_network.specs.declared.parcel.Content.{Content}
use Rattle.bsc_network.specs.declared.parcel.Content.TheVariants.{Opened, Arrived, Message, Closed}
use Rattle.bsc_network.specs.Traffic.{Traffic, without_front, and_then}
use Rattle.bsc_network.specs.Worlds.{World, Hub, Node, Link, HubSide, node_at, link_at}
use Rattle.bsc_network.specs.Changes.{with_found, with_link, with_side, with_traffic, puts_at}
use Rattle.bsc_network.specs.HubCalls.{called}
use Rattle.bsc_network.specs.NodeSides.{other_way, hold_of, puts_on, puts_by}
use Rattle.bsc_network.specs.Dialling.{new_link}
use Rattle.bsc_network.specs.NodeEvents.{brings_about, hears}
use Rattle.bsc_network.proofs.Places.{all-changed, all-changed_here, all-found, all-reversed}
use Rattle.bsc_network_laws.specs.Ends.{receiver, message_of, messages}
use Rattle.bsc_network_laws.specs.Carrying.{Sendings, npdus, IsSentBy}
use Rattle.bsc_network_laws.proofs.Moves.{IsHeardBy, IsSide, Comes, Each}
use Rattle.bsc_network_laws.proofs.Acting.{Among, EachAct}
use Rattle.bsc_network_laws.proofs.Sides.{side-side}
use Rattle.bsc_network_laws.proofs.Beside.{KeepsGiven, hears-beside}
use Rattle.bsc_network_laws.proofs.Holding.{EndOf, HoldsFit, heard_of}
use Rattle.bsc_network_laws.proofs.Knowing.{Knows, Amid, amid, amid-first, amid-log}
use Rattle.bsc_network_laws.proofs.OwnOctets.{own_is_none}
use Rattle.bsc_network_laws.proofs.SideFits.{CarriesNone, npdus-more, npdus-kept}
use Rattle.bsc_network_laws.proofs.PutBySends.{put_is_sent}
use Rattle.bsc_lemmas.proofs.Lists.{all-at, all-push as all-one_more, all_append as all-joined}
use Rattle.bsc_network.proofs.Common.{not_both, same_node}
use Rattle.std.proofs.lemmas.Option.{same_Some as some_same}

-- ---- one link

-- What the node that dialled put on a link, and what a node that was dialled did.
pub record LinkSent (S : Sendings) (x : Link) : Type 0 where
  pub up : AllByRecursion (IsSentBy S x.from) (npdus (messages x.up))
  pub down : (k : ℕ) → x.to ≡ ToNode k → AllByRecursion (IsSentBy S k) (npdus (messages x.down))

abbrev pub AllSent : Sendings → World → Type 0
AllSent S w = AllByRecursion (LinkSent S) w.links

-- where it is an NPDU, it is that of a Send of node k
abbrev pub Fresh : Sendings → ℕ → ℕ → Content → Type 0
Fresh S k place (Message o) = is_npdu o ≡ true → IsSentBy S k (record { octets = o; sent_at = place })
Fresh S k place content = ⊤

fresh-one : (S : Sendings) (k place : ℕ) (content : Content) → Fresh S k place content
    → AllByRecursion (IsSentBy S k) (npdus (filter_map message_of (record { content = content; sent_at = place } ∷ [])))
fresh-one S k place (Message o) fresh = by (is_npdu o) fresh
  where
    by : (b : Bool) → (b ≡ true → IsSentBy S k (record { octets = o; sent_at = place })) → AllByRecursion (IsSentBy S k) (cond b (record { octets = o; sent_at = place } ∷ []) [])
    by true f = (f refl, tt)
    by false f = tt
fresh-one S k place Opened fresh = tt
fresh-one S k place Arrived fresh = tt
fresh-one S k place Closed fresh = tt

sent-more : (S : Sendings) (k place : ℕ) (content : Content) (t : Traffic) → Fresh S k place content → AllByRecursion (IsSentBy S k) (npdus (messages t))
    → AllByRecursion (IsSentBy S k) (npdus (messages (and_then (record { content = content; sent_at = place }) t)))
sent-more S k place content t fresh all =
    subst (AllByRecursion (IsSentBy S k)) (sym (npdus-more (record { content = content; sent_at = place }) t))
    (all-joined (IsSentBy S k) (npdus (messages t)) _ all (fresh-one S k place content fresh))

-- ---- links are changed

sent-link : (S : Sendings) (w : World) (l : ℕ) (f : Link → Link) → ((x : Link) → LinkSent S x → LinkSent S (f x)) → AllSent S w → AllSent S (with_link l f w)
sent-link S w l f keeps = all-changed (LinkSent S) l f keeps w.links

sent-side : (S : Sendings) (w : World) (l : ℕ) (f : HubSide → HubSide) → AllSent S w → AllSent S (with_side l f w)
sent-side S w l f = sent-link S w l (λ link. record link { side = f link.side }) (λ x sent. record { up = sent.up; down = sent.down })

-- what carries no NPDU is put on the way down
sent-none : (S : Sendings) (w : World) (l place : ℕ) (content : Content) → CarriesNone content → AllSent S w → AllSent S (puts_at l Down place content w)
sent-none S w l place content none =
    sent-link S w l _ (λ x sent. record { up = sent.up; down = λ k is. subst (AllByRecursion (IsSentBy S k)) (sym (npdus-kept content place x.down none)) (sent.down k is) })

-- something is put on the way down from a hub
sent-hub : (S : Sendings) (w : World) (l j place : ℕ) (content : Content) → option_map (λ (x : Link). x.to) (link_at w l) ≡ Some (ToHub j) → AllSent S w → AllSent S (puts_at l Down place content w)
sent-hub S w l j place content lead =
    all-changed_here (LinkSent S) l _ w.links (λ x here sent. record {
      up = sent.up;
      down = λ k is. absurd (not_both k j x.to is (some_same x.to (ToHub j) (sym (ap (option_map (λ (y : Link). y.to)) here) ∙ lead)));
    })

-- a node puts something on a way of a link, by the other of which it hears
sent-node : (S : Sendings) (w : World) (l k place : ℕ) (way : Way) (content : Content) → IsHeardBy w l way k → Fresh S k place content → AllSent S w
    → AllSent S (puts_at l (other_way way) place content w)
sent-node S w l k place Down content heard fresh =
    all-changed_here (LinkSent S) l _ w.links (λ x here sent.
    let same : k ≡ x.from = sym (same_node x.from k (some_same (ToNode x.from) (ToNode k) (sym (ap (option_map (receiver Down)) here) ∙ heard))) in
    record { up = sent-more S x.from place content x.up (subst (λ i. Fresh S i place content) same fresh) sent.up; down = sent.down })
sent-node S w l k place Up content heard fresh =
    all-changed_here (LinkSent S) l _ w.links (λ x here sent. record {
      up = sent.up;
      down = λ j is.
          let same : k ≡ j = same_node k j (sym (some_same x.to (ToNode k) (sym (ap (option_map (receiver Up)) here) ∙ heard)) ∙ is) in
          sent-more S j place content x.down (subst (λ i. Fresh S i place content) same fresh) (sent.down j is);
    })

sent-puts_by : (S : Sendings) (w : World) (k : ℕ) (name : LinkName) (content : Content) → HoldsFit w → Fresh S k w.steps content → AllSent S w → AllSent S (puts_by k name content w)
sent-puts_by S w k name content fit fresh s = at_node (node_at w k) refl
  where
    at_hold : (n : Node) → node_at w k ≡ Some n → (o : Option Hold) → hold_of name n ≡ o → AllSent S (with_found o (puts_on content) w)
    at_hold n here None is = s
    at_hold n here (Some h) is = sent-node S w h.link k w.steps h.hears content (all-found (EndOf w k) (λ h. same_link h.name name) _ h (all-reversed (EndOf w k) n.holds (fit k n here)) is) fresh s

    at_node : (o : Option Node) → node_at w k ≡ o → AllSent S (with_found o (λ n. with_found (hold_of name n) (puts_on content)) w)
    at_node None is = s
    at_node (Some n) is = at_hold n is (hold_of name n) refl

sent-new : (S : Sendings) (w : World) (k : ℕ) (t : Target) → LinkSent S (new_link w k t)
sent-new S w k (ToHub j) = record { up = tt; down = λ i is. tt }
sent-new S w k (ToNode j) = record { up = tt; down = λ i is. tt }

-- ---- the moves of a step

-- what is known of an action: an NPDU that it puts is that of a Send
abbrev Known : Sendings → ℕ → ℕ → Action → Type 0
Known S place k action = (name : LinkName) (o : List ℕ) → action ≡ Put name o → is_npdu o ≡ true → IsSentBy S k (record { octets = o; sent_at = place })

each_act : (S : Sendings) (T place : ℕ) (D : WorldStep) (k : ℕ) (w : World) (n : Node) (by : Option Arrival) (e : NodeEvent) → Comes D w k n by e
    → EachAct k by (Known S place k) (KeepsGiven (Amid w T place) (AllSent S))
each_act S T place D k w n by e come = record {
  puts = λ u name o known a. sent-puts_by S u k name (Message o) a.knows.holds (λ is. subst (λ p. IsSentBy S k (record { octets = o; sent_at = p })) (sym a.knows.at.steps) (known name o refl is));
  closes = λ u name a. sent-puts_by S u k name Closed a.knows.holds tt;
  takes = λ u name b is known a s. s;
  dials_as = λ u name uri t known leads a s. all-one_more (LinkSent S) u.links (new_link u k t) s (sent-new S u k t);
  fails_as = λ u name a s. s;
  refuses_it = λ u b is a. sent-node S u b.link k u.steps b.way Closed (a.kept.ends b.link b.way k (heard_of D w k n by b e come is)) tt;
  delivers_one = λ u d b is known a s. s;
}

-- the Send of the step, where there is one, is among the Sends
abbrev pub IsCounted : Sendings → ℕ → WorldStep → Type 0
IsCounted S place D = (k : ℕ) (dest : Vmac) (npdu : List ℕ) → D ≡ OfNode k (Send dest npdu) → S place k dest npdu

-- an event comes to a node
sent-hears : (S : Sendings) (T place : ℕ) (D : WorldStep) → IsCounted S place D → (w : World) (k : ℕ) (n : Node) (by : Option Arrival) (e : NodeEvent) → node_at w k ≡ Some n
    → Comes D w k n by e → fits n.log e ≡ true
    → KeepsGiven (Knows T place) (AllSent S) w (hears k by (record { now = w.now; event = e }) n w)
sent-hears S T place D sends w k n by e here come fit m =
    hears-beside k by (Known S place k) (Amid w T place) (AllSent S) (amid T place D k w n by e come) (each_act S T place D k w n by e come) (record { now = w.now; event = e }) n w
    (amid-first T place w m) (amid-log T place D k n by e w here come fit m) (λ s. s)
    (λ action among name o is npdu.
    put_is_sent S place w.now D w k n by e name o (subst (λ t. t < 2 ^ 62) (sym m.at.now) m.at.below)
    (subst (λ t. Timely t n.log) (sym m.at.now) (all-at (λ (x : Node). Timely T x.log) w.nodes k n m.at.timely here)) come fit
    (sends k) (subst (λ (a : Action). Among a (filter_map action_of (brings_about n.made (record { now = w.now; event = e }) n.log))) is among) npdu)

-- where the link leads, by what is known of the side
leads : (w : World) (l j : ℕ) (h : Hub) (k : Link) → IsSide w l j h k → option_map (λ (x : Link). x.to) (link_at w l) ≡ Some (ToHub j)
leads w l j h k side = ap (option_map (λ (x : Link). x.to)) side.link ∙ ap Some side.leads

-- Each NPDU that a node put on a way stays that of a Send of its own.
pub sent_stays : (S : Sendings) (T place : ℕ) (D : WorldStep) → IsCounted S place D → Each D (KeepsGiven (Knows T place) (AllSent S))
sent_stays S T place D sends = record {
  over = λ w l m. sent-side S w l _;
  tells = λ w l j h k e other side m. sent-side S w l _;
  empty = λ w l m. sent-side S w l _;
  closes_down = λ w l m. sent-none S w l w.steps Closed tt;
  hub_puts = λ w l j h k st o side wanted is m. sent-none S w l w.steps (Message o) (own_is_none h.about st wanted o is);
  leaves = λ w l j h k c side conn m s. s;
  stops = λ w j h here is m s. s;
  asks = λ w l j p h k o who side came said is m s. s;
  joins = λ w l j p h k o who c replaced side came said is m s. let v = called j l p (Connect who) w in sent-side S (with_side l (λ x. record x { conn = Some c }) v) l _ (sent-side S v l _ s);
  forwards = λ w l j p h k o c side conn came said m s. s;
  takes = λ w l j h k c f side conn is m s.
      let v = with_side l (λ x. record x { taken = x.taken + 1 }) w in
      sent-hub S v l j f.sent_at (Message f.octets) (leads v l j h _ (side-side w l j h k (λ x. record x { taken = x.taken + 1 }) refl side)) (sent-side S w l _ s);
  hears = λ w k n by e here come fit. sent-hears S T place D sends w k n by e here come fit;
  forgets = λ w later m s. s;
  arrives = λ w l way k x here is m. sent-arrives w l way;
  loses = λ w l m. sent-link S w l _ (λ x sent. record { up = sent.up; down = sent.down });
}
  where
    sent-arrives : (w : World) (l : ℕ) (way : Way) → AllSent S w → AllSent S (with_link l (with_traffic way without_front) w)
    sent-arrives w l Up = sent-link S w l _ (λ x sent. record { up = sent.up; down = sent.down })
    sent-arrives w l Down = sent-link S w l _ (λ x sent. record { up = sent.up; down = sent.down })
