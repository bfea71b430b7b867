-- What is delivered of a message that came from a node over a direct connection came over it from the Send at its place, between slots
-- that were up with each other; and that stays so.
-- It serves clauses of functions of `laws`.
use Rattle.std.proofs.Common.{◌≡◌, ℕ, Bool, true, false, List, ◌∷◌, ◌++◌, Option, Some, None, refl, ap, sym, subst, ◌∙◌}
use Rattle.std.specs.Prelude.{IsTrue, filter_map}
use Rattle.std.specs.Option.{option_map}
use Rattle.std.proofs.lemmas.List.Elements.{filter_map-append}
use Rattle.bsc_octets.specs.declared.identity.Identity.{Identity}
use Rattle.bsc_octets.specs.declared.vmac.Vmac.{Vmac}
use Rattle.bsc_octets.specs.Functions.{is_npdu}
use Rattle.bsc_frame.specs.declared.message.Message.{Message}
use Rattle.bsc_frame.specs.declared.body.Body.TheVariants.{Npdu}
use Rattle.bsc_checks.specs.declared.verdict.Verdict.TheVariants.{Pass}
use Rattle.bsc_checks.specs.Outcomes.{outcome_of}
use Rattle.bsc_node.specs.declared.link_name.LinkName.{LinkName}
use Rattle.bsc_node.specs.declared.link_name.LinkName.TheVariants.{Hub as HubName, Direct}
use Rattle.bsc_node.specs.declared.node_event.NodeEvent.{NodeEvent}
use Rattle.bsc_node.specs.declared.node_event.NodeEvent.TheVariants.{Came}
use Rattle.bsc_node.specs.declared.timed_event.TimedEvent.{TimedEvent}
use Rattle.bsc_node.specs.Messages.{message}
use Rattle.bsc_node.specs.Conditions.{may_come}
use Rattle.bsc_node.specs.Laws.{with_event, with_heard, delivery}
use Rattle.bsc_node.specs.Links.{same_link, peer, place as place_at, verdict}
use Rattle.bsc_node.specs.Logs.{Made, Line, came}
use Rattle.bsc_node.specs.Receiving.{is_for_all, sender}
use Rattle.bsc_node_identity.specs.Naming.{named_by}
use Rattle.bsc_node_identity.specs.There.{CameUpWith}
use Rattle.bsc_node_identity.proofs.Carried.{npdus_plainly}
use Rattle.bsc_node_identity.proofs.Events.{sender-was_peer}
use Rattle.bsc_network.specs.declared.way.Way.{Way}
use Rattle.bsc_network.specs.declared.way.Way.TheVariants.{Up, Down}
use Rattle.bsc_network.specs.declared.target.Target.{Target}
use Rattle.bsc_network.specs.declared.target.Target.TheVariants.{Hub as ToHub, Node as ToNode}
use Rattle.bsc_network.specs.declared.hold.Hold.{Hold}
use Rattle.bsc_network.specs.declared.arrival.Arrival.{Arrival}
use Rattle.bsc_network.specs.declared.world_delivery.WorldDelivery.{WorldDelivery}
use Rattle.bsc_network.specs.Worlds.{World, Node, Link, traffic, node_at}
use Rattle.bsc_network.specs.NodeSides.{other_way, hold_of}
use Rattle.bsc_network.specs.NodeEvents.{brings_about}
use Rattle.bsc_network.specs.Outboxes.{Frame}
use Rattle.bsc_network.proofs.Places.{get-changed, all-found, all-reversed}
use Rattle.bsc_network_laws.specs.Ends.{putter, message_of, messages}
use Rattle.bsc_network_laws.specs.Carrying.{Sendings}
use Rattle.bsc_network_laws.specs.Deliveries.{IsAmong, SentOver, HeardOver, CameDirectly}
use Rattle.bsc_network_laws.specs.Naming.{Cast}
use Rattle.bsc_network_laws.specs.Peers.{other_end, who_is}
use Rattle.bsc_network_laws.proofs.Casting.{Stays, Casts, node-identity}
use Rattle.bsc_network_laws.proofs.Named.{all-messages}
use Rattle.bsc_network_laws.proofs.Lasting.{Longer, NodeGrows, Lasts, LinkGrows, lasts-log}
use Rattle.bsc_network_laws.proofs.Acting.{goes_on_in}
use Rattle.bsc_network_laws.proofs.Brought.{at_once, begins-with}
use Rattle.bsc_network_laws.proofs.Reached.{UpLaw, passes-where_up}
use Rattle.bsc_network_laws.proofs.OtherEnds.{LeadsToHub, EndsRight, putter-grows, receiver-grows, CameBy, came-end}
use Rattle.bsc_network_laws.proofs.DirectLinks.{IsSentDirectly, AllDirect, among-longer, log-grows, sent_over-grows}
use Rattle.bsc_network_laws.proofs.Directly.{each-among, newest-among, held-name}
use Rattle.bsc_node_identity.proofs.Npdus.{passed-npdu}
use Rattle.bsc_network_laws.proofs.Passing.{all_unfiltered}
use Rattle.bsc_frame.proofs.Common.{same_npdu}
use Rattle.bsc_lemmas.proofs.Lists.{all-at}
use Rattle.std.proofs.lemmas.Option.{same_Some as some_same}

-- ---- a delivery

-- A message that came to node k from another node, with what is known of the network then.
pub record CameFrom (S : Sendings) (cast : Cast) (w : World) (k : ℕ) (n : Node) (by : Option Arrival) (e : NodeEvent) (name : LinkName) (o : List ℕ) (other : ℕ) : Type 0 where
  pub ends : EndsRight cast w
  pub direct : AllDirect S cast w
  pub casts : Casts cast w
  pub here : node_at w k ≡ Some n
  pub may : IsTrue (may_come n.log (at_once w.now e))
  pub came : e ≡ Came name o
  pub over : CameBy w k n name o by
  pub puts : putter over.arrival.way over.link ≡ ToNode other
  pub law : UpLaw

-- Once the node's log has gone on, a delivery of it is from the Send at its place, and came directly.
pub came_directly : (S : Sendings) (cast : Cast) (w : World) (k : ℕ) (n : Node) (by : Option Arrival) (e : NodeEvent) (name : LinkName) (o : List ℕ) (other : ℕ)
    (c : CameFrom S cast w k n by e name o other) (msg : Message) (npdu : List ℕ) (v : Vmac)
    → verdict n.made (with_event n.log (at_once w.now e)) name o ≡ Pass msg → msg.body ≡ Npdu npdu → sender name msg (with_heard n.made n.log (at_once w.now e) name o) ≡ Some v
    → (dest : Vmac) × S c.over.arrival.sent_at other dest npdu
    × CameDirectly (goes_on_in k (at_once w.now e) w) other dest (record { sent_at = c.over.arrival.sent_at; node = k; delivered = delivery msg npdu v })
came_directly S cast w k n by e name o other c msg npdu v passed body from = (
  s.dest,
  subst (S a.sent_at other s.dest) (sym same) s.sends,
  record {
    number = a.link;
    link = c.over.link;
    found = c.over.found;
    way = a.way;
    put_by = c.puts;
    heard_by = c.over.heard;
    octets = o;
    carried = all-messages (IsAmong (messages (traffic a.way c.over.link))) (traffic a.way c.over.link).put c.over.place o a.sent_at (each-among (messages (traffic a.way c.over.link))) c.over.stood;
    from = m.0;
    to = longer n;
    at_sender = m.1;
    at_receiver = get-changed k longer w.nodes ∙ ap (option_map longer) c.here;
    sent = subst (λ (x : List ℕ). SentOver m.0 s.dest x a.link (other_way a.way) n.made.own) (sym same)
        (subst (SentOver m.0 s.dest s.npdu a.link (other_way a.way)) own (sent_over-grows s.from m.0 s.dest s.npdu a.link (other_way a.way) s.who m.2 s.sent));
    heard = subst (λ (x : Made). HeardOver (longer n) o a.link a.way x.own) (sym m.2.made) (known name refl).1;
    address = ap (λ (x : Made). x.own.vmac) m.2.made ∙ (known name refl).0;
    unicast = ap is_for_all said;
    destination = s.destination ∙ ap (λ (who : Identity). who.vmac) own;
  },
)
  where
    a : Arrival
    a = c.over.arrival

    event : TimedEvent
    event = at_once w.now e

    is_one : is_npdu o ≡ true
    is_one = passed-npdu o (place_at n.made (with_event n.log event) name) n.made.own.max_bvlc msg npdu passed body

    s : IsSentDirectly S cast w a.link a.way other k (record { octets = o; sent_at = a.sent_at })
    s =
        all-messages (λ (f : Frame). is_npdu f.octets ≡ true → IsSentDirectly S cast w a.link a.way other k f) (traffic a.way c.over.link).put c.over.place o a.sent_at
        (all_unfiltered (IsSentDirectly S cast w a.link a.way other k) (λ (f : Frame). is_npdu f.octets) (messages (traffic a.way c.over.link))
        (c.direct a.link c.over.link a.way other k (record { link = c.over.found; puts = c.puts; hears = c.over.heard }))) c.over.stood is_one

    said : msg ≡ message s.id None (Npdu s.npdu)
    said =
        npdus_plainly s.npdu s.id (place_at n.made (with_event n.log event) name) n.made.own.max_bvlc msg s.small
        (ap (λ (x : List ℕ). outcome_of x (place_at n.made (with_event n.log event) name) n.made.own.max_bvlc) (sym s.octets) ∙ passed)

    same : npdu ≡ s.npdu
    same = same_npdu npdu s.npdu (sym body ∙ ap (λ (m : Message). m.body) said)

    own : s.who ≡ n.made.own
    own = some_same s.who n.made.own (sym s.is ∙ node-identity cast w k n c.casts c.here)

    end : other_end w (hold_of name n) ≡ Some (ToNode other)
    end = came-end w k n name o by c.over ∙ ap Some c.puts

    stays : Stays n.made n.log
    stays = all-at (λ (x : Node). Stays x.made x.log) w.nodes k n c.casts.stays c.here

    is_hub : (t : Option Target) (j : ℕ) → t ≡ Some (ToNode other) → t ≡ Some (ToHub j) → ⊥
    is_hub t j p q = cc

    longer : Node → Node
    longer x = record x { log = x.log ++ brings_about x.made event x.log }

    -- the sender's node, once the log of this one has gone on
    m : (y : Node) × (node_at (goes_on_in k event w) other ≡ Some y) × NodeGrows s.from y
    m = (lasts-log w k event).nodes.at other s.from s.at_sender

    lines : (later : List Line) × (brings_about n.made event n.log ≡ came event ∷ later)
    lines = begins-with n.made n.log event

    held_is : (slot : ℕ) → name ≡ Direct slot → c.over.held ≡ record { name = Direct slot; link = a.link; hears = a.way }
    held_is slot is =
        ap (λ (x : LinkName). let g : Hold = record { name = x; link = c.over.held.link; hears = c.over.held.hears } in g) (held-name name n c.over.held c.over.holds ∙ is)
        ∙ ap (λ (x : ℕ). let g : Hold = record { name = Direct slot; link = x; hears = c.over.held.hears } in g) c.over.over
        ∙ ap (λ (x : Way). let g : Hold = record { name = Direct slot; link = a.link; hears = x } in g) c.over.hears

    -- What it knows of its slot: the peer is the sender, whose address it delivers, and the slot had come up with it.
    known : (link : LinkName) → name ≡ link → (s.from.made.own.vmac ≡ v) × HeardOver (longer n) o a.link a.way s.from.made.own
    known (HubName side) is =
        let l = all-found (LeadsToHub w) (λ (g : Hold). same_link g.name name) _ c.over.held (all-reversed (LeadsToHub w) n.holds (c.ends.hubs k n c.here)) c.over.holds side
        (held-name name n c.over.held c.over.holds ∙ is) in
        absurd (is_hub (other_end w (Some c.over.held)) l.0 (sym (ap (other_end w) c.over.holds) ∙ end) l.1)
    known (Direct slot) is =
        let p = sender-was_peer n.made n.log event stays.knit.settled c.may slot o msg v (c.came ∙ ap (λ (link : LinkName). Came link o) is)
        (ap (λ (link : LinkName). verdict n.made (with_event n.log event) link o) (sym is) ∙ passed)
        (ap named_by body) (ap (λ (m : Message). m.origin) said) (ap (λ (link : LinkName). sender link msg (with_heard n.made n.log event link o)) (sym is) ∙ from) in
        let there = c.ends.peers k n slot p.0 c.here p.1 in
        let who : s.from.made.own ≡ p.0 =
        some_same s.from.made.own p.0
        (sym (node-identity cast w other s.from c.casts s.at_sender) ∙ sym (ap (who_is cast) (ap (λ (link : LinkName). other_end w (hold_of link n)) (sym is) ∙ end)) ∙ there) in
        let comes : e ≡ Came (Direct slot) o = c.came ∙ ap (λ (link : LinkName). Came link o) is in
        let up =
        passes-where_up c.law n.made n.log event stays.reached c.may slot o msg comes (ap (λ (link : LinkName). verdict n.made (with_event n.log event) link o) (sym is) ∙ passed) is_one in
        let met : peer n.log (Direct slot) ≡ Some s.from.made.own = p.1 ∙ ap Some (sym who) in (
          ap (λ (i : Identity). i.vmac) who ∙ sym p.2,
          record {
            slot = slot;
            held = subst (IsAmong n.holds) (held_is slot is) (newest-among (λ (g : Hold). same_link g.name name) n.holds c.over.held c.over.holds);
            before = n.log;
            now = w.now;
            later = lines.0;
            log = ap (λ (x : List Line). n.log ++ x) lines.1 ∙ ap (λ (x : NodeEvent). n.log ++ came (at_once w.now x) ∷ lines.0) comes;
            came_up = subst (CameUpWith n.log slot) (some_same up.0 s.from.made.own (sym up.1 ∙ met)) up.2;
            met = met;
          },
        )

-- ---- it stays so

pub traffic-grows : (way : Way) (x y : Link) → LinkGrows x y → Longer (messages (traffic way x)) (messages (traffic way y))
traffic-grows Up x y g = record { more = filter_map message_of g.up.more; is = ap (filter_map message_of) g.up.is ∙ filter_map-append message_of x.up.put g.up.more }
traffic-grows Down x y g = record { more = filter_map message_of g.down.more; is = ap (filter_map message_of) g.down.is ∙ filter_map-append message_of x.down.put g.down.more }

heard_over-grows : (n m : Node) (octets : List ℕ) (l : ℕ) (way : Way) (who : Identity) → NodeGrows n m → HeardOver n octets l way who → HeardOver m octets l way who
heard_over-grows n m octets l way who g h = record {
  slot = h.slot;
  held = among-longer n.holds m.holds (record { name = Direct h.slot; link = l; hears = way }) g.holds h.held;
  before = h.before;
  now = h.now;
  later = h.later ++ g.log.more;
  log = log-grows n m h.before (record { now = h.now; event = Came (Direct h.slot) octets }) h.later g h.log;
  came_up = h.came_up;
  met = h.met;
}

-- What came directly in one network did so in each that grows from it.
pub came_directly-lasts : (u v : World) (other : ℕ) (dest : Vmac) (d : WorldDelivery) → Lasts u v → CameDirectly u other dest d → CameDirectly v other dest d
came_directly-lasts u v other dest d g c =
    let y = g.links.at c.number c.link c.found in
    let m = g.nodes.at other c.from c.at_sender in
    let n = g.nodes.at d.node c.to c.at_receiver in
    record {
      number = c.number;
      link = y.0;
      found = y.1;
      way = c.way;
      put_by = putter-grows c.way c.link y.0 y.2 ∙ c.put_by;
      heard_by = receiver-grows c.way c.link y.0 y.2 ∙ c.heard_by;
      octets = c.octets;
      carried = among-longer (messages (traffic c.way c.link)) (messages (traffic c.way y.0)) (record { octets = c.octets; sent_at = d.sent_at }) (traffic-grows c.way c.link y.0 y.2) c.carried;
      from = m.0;
      to = n.0;
      at_sender = m.1;
      at_receiver = n.1;
      sent = subst (λ (a : Made). SentOver m.0 dest d.delivered.npdu c.number (other_way c.way) a.own) (sym n.2.made)
          (sent_over-grows c.from m.0 dest d.delivered.npdu c.number (other_way c.way) c.to.made.own m.2 c.sent);
      heard = subst (λ (a : Made). HeardOver n.0 c.octets c.number c.way a.own) (sym m.2.made) (heard_over-grows c.to n.0 c.octets c.number c.way c.from.made.own n.2 c.heard);
      address = ap (λ (a : Made). a.own.vmac) m.2.made ∙ c.address;
      unicast = c.unicast;
      destination = c.destination ∙ sym (ap (λ (a : Made). a.own.vmac) n.2.made);
    }
