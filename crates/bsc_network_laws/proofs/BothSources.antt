-- What a node delivers that came from a hub came from the Send at its place; so each delivery has its source.
-- It serves clauses of functions of `laws`.
use Rattle.std.proofs.Common.{◌≡◌, inl, ℕ, true, List, [], ◌∷◌, ◌++◌, Option, Some, refl, ap, sym, subst, ◌∙◌}
use Rattle.std.specs.Prelude.{length, slice_get}
use Rattle.std.specs.List.{AllByRecursion}
use Rattle.std.proofs.lemmas.List.{map-append}
use Rattle.std.proofs.lemmas.Option.{slice_get-map}
use Rattle.bsc_octets.specs.declared.vmac.Vmac.{Vmac}
use Rattle.bsc_octets.specs.Forwarding.{out}
use Rattle.bsc_octets.specs.Functions.{is_npdu}
use Rattle.bsc_checks.specs.declared.verdict.Verdict.TheVariants.{Pass}
use Rattle.bsc_checks.specs.Outcomes.{outcome_of}
use Rattle.bsc_history.specs.declared.connection.Connection.{Connection}
use Rattle.bsc_history.specs.Ends.{joined, live}
use Rattle.bsc_history.proofs.Lists.{In, In_from_all}
use Rattle.bsc_history.proofs.Connections.{found_in, joined_in}
use Rattle.bsc_node.specs.declared.node_event.NodeEvent.{NodeEvent}
use Rattle.bsc_node.specs.declared.node_event.NodeEvent.TheVariants.{Send}
use Rattle.bsc_node.specs.Laws.{with_event, with_heard, delivery}
use Rattle.bsc_node.specs.Links.{place as place_at}
use Rattle.bsc_network.specs.declared.world_step.WorldStep.{WorldStep}
use Rattle.bsc_network.specs.declared.world_step.WorldStep.TheVariants.{Node as OfNode}
use Rattle.bsc_network.specs.declared.timed_step.TimedStep.{TimedStep}
use Rattle.bsc_network.specs.declared.world_delivery.WorldDelivery.{WorldDelivery}
use Rattle.bsc_network.specs.declared.way.Way.{Way}
use Rattle.bsc_network.specs.declared.way.Way.TheVariants.{Up, Down}
use Rattle.bsc_network.specs.declared.target.Target.TheVariants.{Hub as ToHub}
use Rattle.bsc_network.specs.declared.arrival.Arrival.{Arrival}
use Rattle.bsc_network.specs.Worlds.{World, Hub, Node, Link, Posted, entries, history, traffic}
use Rattle.bsc_network.specs.Outboxes.{Frame}
use Rattle.bsc_network.proofs.Places.{found-in}
use Rattle.bsc_network.specs.declared.parcel.Content.TheVariants.{Message}
use Rattle.bsc_network.specs.Courses.{IsWhole, MayMakeAll}
use Rattle.bsc_network_laws.specs.Deliveries.{IsAmong, Sends}
use Rattle.bsc_network_laws.specs.Ends.{receiver, putter, messages}
use Rattle.bsc_network_laws.specs.Carrying.{Sendings}
use Rattle.bsc_network_laws.specs.Naming.{Cast}
use Rattle.bsc_network_laws.specs.Connecting.{IsOfDialler, JoinsDiallers}
use Rattle.bsc_network_laws.specs.Passing.{IsPassedOn, IsPassedBy, PassesOn}
use Rattle.bsc_network_laws.proofs.Moves.{Lets, EachWhole, LetsWhole}
use Rattle.bsc_network_laws.proofs.Stepping.{begun, done, whole-step}
use Rattle.bsc_network_laws.proofs.Beside.{Keeps, KeepsGiven, KeepsBoth, each-as, together}
use Rattle.bsc_network_laws.proofs.Whole.{as_whole, beside_whole, together_whole}
use Rattle.bsc_network_laws.proofs.Named.{all-messages}
use Rattle.bsc_network_laws.proofs.Diallers.{Inv, IsFit, KnowsNames, diallers_stay}
use Rattle.bsc_network_laws.proofs.HubsThere.{HubsThere, hub-found}
use Rattle.bsc_network_laws.proofs.HubsThere as There
use Rattle.bsc_network_laws.proofs.SentOnLinks.{IsCounted}
use Rattle.bsc_network_laws.proofs.Numbering.{joined_longer}
use Rattle.bsc_network_laws.proofs.Passing.{KnowsHistories, all_unfiltered, passes}
use Rattle.bsc_network_laws.proofs.ComingDown.{comes_down}
use Rattle.bsc_network_laws.proofs.Histories.{keeps_both, keeps_as, whole_as, knows_histories}
use Rattle.bsc_node_identity.proofs.PassedOn.{IsDeliveredSo, passed_so}
use Rattle.bsc_network_laws.proofs.FromHubs.{came_by_hub}
use Rattle.bsc_network_laws.proofs.Lasting.{Lasts}
use Rattle.bsc_network_laws.proofs.Lasting as Lasting
use Rattle.bsc_network_laws.proofs.Brought.{at_once}
use Rattle.bsc_network_laws.proofs.MadeWell.{MadeWell}
use Rattle.bsc_network_laws.proofs.OtherEnds.{KnowsEnds, knows_ends}
use Rattle.bsc_network_laws.proofs.DirectLinks.{AllDirect}
use Rattle.bsc_network_laws.proofs.Directly.{direct_stays, each-among}
use Rattle.bsc_node_identity.proofs.Npdus.{passed-npdu}
use Rattle.bsc_network_laws.proofs.Reached.{UpLaw}
use Rattle.bsc_network_laws.proofs.Sources.{AllFrom, HubsPart, KnowsSources, from-same, from-hears}
use Rattle.bsc_lemmas.proofs.Lists.{all-at}
use Rattle.bsc_network.proofs.Common.{same_node}

-- Each Send is to an address of six octets.
abbrev pub AreWhole : Sendings → Type 0
AreWhole S = (place k : ℕ) (dest : Vmac) (npdu : List ℕ) → S place k dest npdu → length dest.0 ≡ 6

abbrev HasAddress : TimedStep → Type 0
HasAddress t = IsWhole t.step

each_whole : (before : ℕ) (steps : List TimedStep) → MayMakeAll before steps → AllByRecursion HasAddress steps
each_whole before [] may = tt
each_whole before (t ∷ steps) may = (may.0.whole, each_whole t.now steps may.1)

-- So it is with steps that may be made.
pub sends_whole : (steps : List TimedStep) → MayMakeAll 0 steps → AreWhole (Sends steps)
sends_whole steps may place k dest npdu sent =
    let there = found-in (λ (t : TimedStep). t.step) (slice_get steps place) (OfNode k (Send dest npdu)) (sym (slice_get-map (λ (t : TimedStep). t.step) steps place) ∙ sent) in
    subst IsWhole there.2 (all-at HasAddress steps place there.0 (each_whole 0 steps may) there.1)

-- what is known besides, of hubs
pub record KnowsHubs (cast : Cast) (S : Sendings) (T place : ℕ) (w : World) : Type 0 where
  pub histories : KnowsHistories cast S T place w
  pub passes : PassesOn S w
  pub there : HubsThere w
  pub diallers : Inv cast w

-- ---- a message that came from a hub

-- who sent has joined
from_has_joined : (S : Sendings) (w : World) (posted : List Posted) (to : Connection) (f : Frame) (p : IsPassedOn S w posted to f) → In p.from (joined (entries posted))
from_has_joined S w posted to f p =
    let G = entries p.before in
    let in_joined : In p.from (joined (G ++ entries (p.forward ∷ p.later))) =
    joined_longer G (entries (p.forward ∷ p.later)) p.from (joined_in _ G p.from (found_in p.from.number (live G) p.from p.sender_live).0) in
    subst (λ H. In p.from (joined H)) (sym (ap entries p.split ∙ map-append (λ (x : Posted). x.entry) p.before (p.forward ∷ p.later))) in_joined

hub_puts_down : (way : Way) (link : Link) (j : ℕ) → putter way link ≡ ToHub j → way ≡ Down
hub_puts_down Up link j h = cc
hub_puts_down Down link j h = refl

hubs_part : (cast : Cast) → IsFit cast → (S : Sendings) → AreWhole S → (T place : ℕ) (w : World) (k : ℕ) (n : Node) (by : Option Arrival) (e : NodeEvent) → KnowsHubs cast S T place w
    → HubsPart S w k n by e
hubs_part cast fit S whole T place w k n by e known name o c j msg npdu v comes puts passed body from = (
  p.2.sender,
  p.2.dest,
  subst (S a.sent_at p.2.sender p.2.dest) (sym so.npdu_is) p.2.sends,
  inl (came_by_hub S w a.link j h.0 c.link (record { octets = o; sent_at = a.sent_at }) p d c.found h.1 leads stands node refl (whole a.sent_at p.2.sender p.2.dest p.2.npdu p.2.sends) so),
)
  where
    a : Arrival
    a = c.arrival

    d : WorldDelivery
    d = record { sent_at = a.sent_at; node = k; delivered = delivery msg npdu v }

    down : a.way ≡ Down
    down = hub_puts_down a.way c.link j puts

    leads : c.link.to ≡ ToHub j
    leads = sym (ap (λ way. putter way c.link) down) ∙ puts

    stood : slice_get c.link.down.put c.place ≡ Some (record { content = Message o; sent_at = a.sent_at })
    stood = sym (ap (λ way. slice_get (traffic way c.link).put c.place) down) ∙ c.stood

    stands : IsAmong (messages c.link.down) (record { octets = o; sent_at = a.sent_at })
    stands = all-messages (IsAmong (messages c.link.down)) c.link.down.put c.place o a.sent_at (each-among (messages c.link.down)) stood

    node : c.link.from ≡ k
    node = same_node c.link.from k (sym (ap (λ way. receiver way c.link) down) ∙ c.heard)

    h : (x : Hub) × (slice_get w.hubs j ≡ Some x)
    h = hub-found w.hubs j (known.there.within a.link j c.link c.found leads)

    npdu_so : is_npdu o ≡ true
    npdu_so = passed-npdu o (place_at n.made (with_event n.log (at_once w.now e)) name) n.made.own.max_bvlc msg npdu passed body

    p : IsPassedBy S w h.0.posted a.link (record { octets = o; sent_at = a.sent_at })
    p =
        all-messages (λ f. is_npdu f.octets ≡ true → IsPassedBy S w h.0.posted a.link f) c.link.down.put c.place o a.sent_at
        (all_unfiltered (IsPassedBy S w h.0.posted a.link) (λ f. is_npdu f.octets) (messages c.link.down)
        (comes_down S w known.histories.sides.joined known.histories.legally known.histories.sides.names.0.0.sides known.passes a.link j h.0 c.link c.found leads h.1))
        stood npdu_so

    dialler : IsOfDialler cast w p.2.from
    dialler =
        In_from_all (IsOfDialler cast w) p.2.from (joined (history h.0)) (all-at (JoinsDiallers cast w) w.hubs j h.0 known.diallers h.1)
        (from_has_joined S w h.0.posted p.0 (record { octets = o; sent_at = a.sent_at }) p.2)

    six : length p.2.from.who.vmac.0 ≡ 6
    six = (fit dialler.0 p.2.from.who dialler.2).address

    so : IsDeliveredSo p.2.from.who.vmac p.2.dest p.2.npdu (delivery msg npdu v)
    so =
        passed_so name msg (with_heard n.made n.log (at_once w.now e) name o) (place_at n.made
        (with_event n.log (at_once w.now e)) name) n.made.own.max_bvlc p.2.id p.2.from.who.vmac p.2.dest p.2.npdu npdu v p.2.small six
        (whole a.sent_at p.2.sender p.2.dest p.2.npdu p.2.sends)
        (subst (λ m. outcome_of m (place_at n.made (with_event n.log (at_once w.now e)) name) n.made.own.max_bvlc ≡ Pass msg)
        (p.2.octets ∙ ap (λ m. out m p.2.from.who.vmac) p.2.carried) passed) body from

-- ---- what is known

whole_both : (D : WorldStep) (P Q : World → Type 0) → LetsWhole D (Keeps P) → LetsWhole D (Keeps Q) → LetsWhole D (Keeps (λ u. P u × Q u))
whole_both D P Q M N = together_whole D P Q M (record {
  over = λ w l j h k side none p. N.each.over w l j h k side none;
  tells = λ w l j h k e other side p. N.each.tells w l j h k e other side;
  empty = λ w l p. N.each.empty w l;
  closes_down = λ w l p. N.each.closes_down w l;
  hub_puts = λ w l j h k st o side wanted is p. N.each.hub_puts w l j h k st o side wanted is;
  leaves = λ w l j h k c side conn p. N.each.leaves w l j h k c side conn;
  stops = λ w j h here is p. N.each.stops w j h here is;
  asks = λ w l j place h k m who side came said is p. N.each.asks w l j place h k m who side came said is;
  joins = λ w l j place h k m who c replaced side came said is p. N.each.joins w l j place h k m who c replaced side came said is;
  forwards = λ w l j place h k m c side conn came said p. N.each.forwards w l j place h k m c side conn came said;
  takes = λ w l j h k c f side conn is p. N.each.takes w l j h k c f side conn is;
  hears = λ w k n by e here come fit p. N.each.hears w k n by e here come fit;
  forgets = λ w later p. N.each.forgets w later;
  arrives = λ w l way k x here is p. N.each.arrives w l way k x here is;
  loses = λ w l p. N.each.loses w l;
})

-- the diallers, with the ends and the NPDUs of direct connections
abbrev KnowsEnded : Cast → Sendings → ℕ → ℕ → World → Type 0
KnowsEnded cast S T place u = (KnowsEnds cast T place u × AllDirect S cast u) × (HubsThere u × Inv cast u)

knows_ended : (cast : Cast) → IsFit cast → MadeWell cast → (S : Sendings) (T place : ℕ) (D : WorldStep) → IsCounted S place D → Lets D (Keeps (KnowsEnded cast S T place))
knows_ended cast fit made S T place D sends =
    keeps_as D (λ u. ((KnowsEnds cast T place u × AllDirect S cast u) × Inv cast u) × HubsThere u) (KnowsEnded cast S T place) (λ w p. (p.0.0, (p.1, p.0.1))) (λ w p. ((p.0, p.1.1), p.1.0))
    (keeps_both D (λ u. (KnowsEnds cast T place u × AllDirect S cast u) × Inv cast u) HubsThere
    (together D (λ u. KnowsEnds cast T place u × AllDirect S cast u) (Inv cast)
    (together D (KnowsEnds cast T place) (AllDirect S cast) (knows_ends cast made T place D) (direct_stays S cast made T place D sends))
    (each-as D (KeepsGiven (KnowsNames cast T place) (Inv cast)) (KeepsGiven (λ u. KnowsEnds cast T place u × AllDirect S cast u) (Inv cast)) (λ u v f q. f q.0.0) (diallers_stay cast fit T place D)))
    (There.lets D))

pub knows_sources : (cast : Cast) → IsFit cast → MadeWell cast → (S : Sendings) (T place : ℕ) (D : WorldStep) → IsCounted S place D
    → LetsWhole D (Keeps (KnowsSources S cast T place (KnowsHubs cast S T place)))
knows_sources cast fit made S T place D sends =
    whole_as D (λ u. KnowsEnded cast S T place u × (KnowsHistories cast S T place u × PassesOn S u)) (KnowsSources S cast T place (KnowsHubs cast S T place))
    (λ w p. (p.0.0.0, p.0.0.1, record { histories = p.1.0; passes = p.1.1; there = p.0.1.0; diallers = p.0.1.1 }))
    (λ w q. (((q.0, q.1), (q.2.there, q.2.diallers)), (q.2.histories, q.2.passes)))
    (whole_both D (KnowsEnded cast S T place) (λ u. KnowsHistories cast S T place u × PassesOn S u) (as_whole D (Keeps (KnowsEnded cast S T place)) (knows_ended cast fit made S T place D sends))
    (together_whole D (KnowsHistories cast S T place) (PassesOn S) (knows_histories cast fit S T place D sends) (passes cast S T place D)))

-- ---- the moves of a step

-- Each delivery stays from the Send at its place, and each new one is.
sources_stay : UpLaw → (cast : Cast) → IsFit cast → (S : Sendings) → AreWhole S → (T place : ℕ) (D : WorldStep)
    → EachWhole D (KeepsGiven (KnowsSources S cast T place (KnowsHubs cast S T place)) (AllFrom S))
sources_stay law cast fit S whole T place D = record {
  over = λ w l j h k side none m. from-same S w _ (G.each.over w l j h k side none) refl;
  tells = λ w l j h k e other side m. from-same S w _ (G.each.tells w l j h k e other side) refl;
  empty = λ w l m. from-same S w _ (G.each.empty w l) refl;
  closes_down = λ w l m. from-same S w _ (G.each.closes_down w l) refl;
  hub_puts = λ w l j h k st o side wanted is m. from-same S w _ (G.each.hub_puts w l j h k st o side wanted is) refl;
  leaves = λ w l j h k c side conn m. from-same S w _ (G.each.leaves w l j h k c side conn) refl;
  stops = λ w j h here is m. from-same S w _ (G.each.stops w j h here is) refl;
  asks = λ w l j p h k o who side came said is m. from-same S w _ (G.each.asks w l j p h k o who side came said is) refl;
  joins = λ w l j p h k o who c replaced side came said is m. from-same S w _ (G.each.joins w l j p h k o who c replaced side came said is) refl;
  forwards = λ w l j p h k o c side conn came said m. from-same S w _ (G.each.forwards w l j p h k o c side conn came said) refl;
  takes = λ w l j h k c f side conn is m. from-same S w _ (G.each.takes w l j h k c f side conn is) refl;
  hears = λ w k n by e here come fits_now m. from-hears law S cast T place D (KnowsHubs cast S T place) w k n by e (hubs_part cast fit S whole T place w k n by e m.2) here come fits_now m;
  forgets = λ w later m. from-same S w _ (G.each.forgets w later) refl;
  arrives = λ w l way k x here is m. from-same S w _ (G.each.arrives w l way k x here is) refl;
  loses = λ w l m. from-same S w _ (G.each.loses w l) refl;
}
  where
    G : LetsWhole D Lasts
    G = as_whole D Lasts (Lasting.lets D)

-- Where each Send is to a whole address, each delivery is from the Send at its place after a step, where each was before it.
pub sources-done : UpLaw → (cast : Cast) → IsFit cast → MadeWell cast → (S : Sendings) → AreWhole S → (t : TimedStep) (place : ℕ) → IsCounted S place t.step → (w : World)
    → KnowsSources S cast t.now place (KnowsHubs cast S t.now place) (begun w t) → AllFrom S (begun w t) → AllFrom S (done w t)
sources-done law cast fit made S whole t place sends w known =
    (whole-step (KeepsBoth (KnowsSources S cast t.now place (KnowsHubs cast S t.now place)) (AllFrom S)) t
    (beside_whole t.step (KnowsSources S cast t.now place (KnowsHubs cast S t.now place)) (AllFrom S) (knows_sources cast fit made S t.now place t.step sends)
    (sources_stay law cast fit S whole t.now place t.step)) w known).1
