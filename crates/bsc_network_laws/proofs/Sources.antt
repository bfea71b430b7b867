-- After each step, each delivery comes from the Send at its place, where each does of which a hub put the message.
-- It serves clauses of functions of `laws`.
use Rattle.std.proofs.Common.{◌≡◌, ◌<◌, ◌⊎◌, inl, inr, ℕ, true, false, List, ◌∷◌, ◌++◌, Option, Some, None, refl, ap, sym, subst, ◌∙◌, append_assoc}
use Rattle.std.specs.Prelude.{◌^◌, IsTrue, ⊤}
use Rattle.std.specs.List.{AllByRecursion}
use Rattle.bsc_octets.specs.declared.vmac.Vmac.{Vmac}
use Rattle.bsc_octets.specs.Forwarding.{out}
use Rattle.bsc_frame.specs.declared.message.Message.{Message}
use Rattle.bsc_frame.specs.declared.body.Body.TheVariants.{Npdu}
use Rattle.bsc_history.specs.declared.connection.Connection.{Connection}
use Rattle.bsc_checks.specs.declared.verdict.Verdict.TheVariants.{Pass}
use Rattle.bsc_node.specs.declared.delivered.Delivered.{Delivered}
use Rattle.bsc_node.specs.declared.link_name.LinkName.{LinkName}
use Rattle.bsc_node.specs.declared.node_event.NodeEvent.{NodeEvent}
use Rattle.bsc_node.specs.declared.node_event.NodeEvent.TheVariants.{Came, NoRandom}
use Rattle.bsc_node.specs.declared.action.Action.{Action}
use Rattle.bsc_node.specs.declared.action.Action.TheVariants.{Deliver}
use Rattle.bsc_node.specs.Conditions.{fits, may_come, brings_word}
use Rattle.bsc_node.specs.Laws.{with_event, with_heard, delivery, delivered_at, IsDeliveredOnce}
use Rattle.bsc_node.specs.Links.{verdict}
use Rattle.bsc_node.specs.Logs.{Log}
use Rattle.bsc_node.specs.Node.{actions_at}
use Rattle.bsc_node.specs.Receiving.{sender}
use Rattle.bsc_node_identity.proofs.Timely.{Timely}
use Rattle.bsc_network.specs.declared.world_step.WorldStep.{WorldStep}
use Rattle.bsc_network.specs.declared.world_delivery.WorldDelivery.{WorldDelivery}
use Rattle.bsc_network.specs.declared.way.Way.TheVariants.{Down}
use Rattle.bsc_network.specs.declared.target.Target.{Target}
use Rattle.bsc_network.specs.declared.target.Target.TheVariants.{Hub as ToHub, Node as ToNode}
use Rattle.bsc_network.specs.declared.arrival.Arrival.{Arrival}
use Rattle.bsc_network.specs.declared.hold.Hold.{Hold}
use Rattle.bsc_network.specs.declared.parcel.Content.{Content}
use Rattle.bsc_network.specs.declared.parcel.Content.TheVariants.{Message as Octets, Closed}
use Rattle.bsc_network.specs.Worlds.{World, Node, Posted, node_at}
use Rattle.bsc_network.specs.Changes.{with_found}
use Rattle.bsc_network.specs.NodeSides.{hold_of, puts_on, puts_by}
use Rattle.bsc_network.specs.NodeEvents.{hears}
use Rattle.bsc_network.proofs.Places.{all-mapped}
use Rattle.bsc_network_laws.specs.Ends.{messages, putter}
use Rattle.bsc_network_laws.specs.Carrying.{Sendings}
use Rattle.bsc_network_laws.specs.Deliveries.{ComesDownBy, IsDialledBy, CameByHub, CameDirectly}
use Rattle.bsc_network_laws.specs.Naming.{Cast}
use Rattle.bsc_network_laws.proofs.Moves.{Comes}
use Rattle.bsc_network_laws.proofs.Acting.{Among, goes_on_in, EachAct, LetsActs}
use Rattle.bsc_network_laws.proofs.Beside.{KeepsGiven}
use Rattle.bsc_network_laws.proofs.Timing.{no_word_comes}
use Rattle.bsc_network_laws.proofs.Casting.{AmidAll}
use Rattle.bsc_network_laws.proofs.Sent.{among-filter, delivery_is_of_came, only}
use Rattle.bsc_network_laws.proofs.Lasting.{Lasts, lasts-none, lasts-then, lasts-log}
use Rattle.bsc_network_laws.proofs.Lasting as Lasting
use Rattle.bsc_network_laws.proofs.Brought.{at_once, by-each}
use Rattle.bsc_network_laws.proofs.OtherEnds.{CameBy, came_by, acts-after, KnowsEnds}
use Rattle.bsc_network_laws.proofs.DirectLinks.{AllDirect, among-longer}
use Rattle.bsc_network_laws.proofs.CameDirectly.{came_directly, came_directly-lasts, traffic-grows}
use Rattle.bsc_network_laws.proofs.Reached.{UpLaw}
use Rattle.bsc_lemmas.proofs.Lists.{all-at, all-push as all-one_more}
use Rattle.std.proofs.lemmas.Option.{same_Some as some_same}

-- ---- where a delivery came from

-- The delivery comes from the Send at its place, over a hub or over a direct connection.
abbrev pub IsFrom : Sendings → World → WorldDelivery → Type 0
IsFrom S w d = (from : ℕ) × (dest : Vmac) × S d.sent_at from dest d.delivered.npdu × (CameByHub w from dest d ⊎ CameDirectly w from dest d)

dialled-lasts : (u v : World) (c : Connection) (k : ℕ) → Lasts u v → IsDialledBy u c k → IsDialledBy v c k
dialled-lasts u v c k g (link, at, from) = let y = g.links.at c.caller link at in (y.0, y.1, y.2.from ∙ from)

down-lasts : (u v : World) (number : ℕ) (c : Connection) (k : ℕ) (octets : List ℕ) (place : ℕ) → Lasts u v → ComesDownBy u number c k octets place → ComesDownBy v number c k octets place
down-lasts u v number c k octets place g x =
    let y = g.links.at c.caller x.link x.found in
    record {
      link = y.0;
      found = y.1;
      leads = y.2.to ∙ x.leads;
      dialled = y.2.from ∙ x.dialled;
      stands = among-longer (messages x.link.down) (messages y.0.down) (record { octets = octets; sent_at = place }) (traffic-grows Down x.link y.0 y.2) x.stands;
    }

came_by_hub-lasts : (u v : World) (from : ℕ) (dest : Vmac) (d : WorldDelivery) → Lasts u v → CameByHub u from dest d → CameByHub v from dest d
came_by_hub-lasts u v from dest d g c =
    let h = g.hubs.at c.number c.at_hub c.found in
    record {
      number = c.number;
      at_hub = h.0;
      found = h.1;
      before = c.before;
      forward = c.forward;
      later = c.later ++ h.2.posted.more;
      posted = h.2.posted.is ∙ ap (λ (ps : List Posted). ps ++ h.2.posted.more) c.posted ∙ append_assoc c.before (c.forward ∷ c.later) h.2.posted.more;
      from = c.from;
      to = c.to;
      frame = c.frame;
      id = c.id;
      small = c.small;
      carried = c.carried;
      call = c.call;
      place = c.place;
      sender_live = c.sender_live;
      receiver_live = c.receiver_live;
      sender_link = dialled-lasts u v c.from from g c.sender_link;
      receiver_link = down-lasts u v c.number c.to d.node (out c.frame c.from.who.vmac) d.sent_at g c.receiver_link;
      address = c.address;
      destination = c.destination;
    }

-- It stays so.
pub from-lasts : (S : Sendings) (u v : World) (d : WorldDelivery) → Lasts u v → IsFrom S u d → IsFrom S v d
from-lasts S u v d g (from, dest, sends, came) = (from, dest, sends, by came)
  where
    by : CameByHub u from dest d ⊎ CameDirectly u from dest d → CameByHub v from dest d ⊎ CameDirectly v from dest d
    by (inl c) = inl (came_by_hub-lasts u v from dest d g c)
    by (inr c) = inr (came_directly-lasts u v from dest d g c)

-- So it is with each delivery.
abbrev pub AllFrom : Sendings → World → Type 0
AllFrom S w = AllByRecursion (IsFrom S w) w.delivered

pub from-same : (S : Sendings) (u v : World) → Lasts u v → v.delivered ≡ u.delivered → AllFrom S u → AllFrom S v
from-same S u v g same all = subst (AllByRecursion (IsFrom S v)) (sym same) (all-mapped (IsFrom S u) (IsFrom S v) (λ d. from-lasts S u v d g) u.delivered all)

-- ---- a message that comes

-- What comes from a hub, and is delivered then, comes from the Send at its place.
abbrev pub HubsPart : Sendings → World → ℕ → Node → Option Arrival → NodeEvent → Type 0
HubsPart S w k n by e =
    (name : LinkName) (o : List ℕ) (c : CameBy w k n name o by) (j : ℕ) (msg : Message) (npdu : List ℕ) (v : Vmac) → e ≡ Came name o → putter c.arrival.way c.link ≡ ToHub j
    → verdict n.made (with_event n.log (at_once w.now e)) name o ≡ Pass msg → msg.body ≡ Npdu npdu → sender name msg (with_heard n.made n.log (at_once w.now e) name o) ≡ Some v
    → IsFrom S w (record { sent_at = c.arrival.sent_at; node = k; delivered = delivery msg npdu v })

same_delivered : (d b : Delivered) → Deliver d ≡ Deliver b → d ≡ b
same_delivered d b h = cc

-- of an action: what it delivers comes from the Send at its place
abbrev IsSourced : Sendings → World → ℕ → Option Arrival → Action → Type 0
IsSourced S w k by (Deliver d) = (a : Arrival) → by ≡ Some a → IsFrom S w (record { sent_at = a.sent_at; node = k; delivered = d })
IsSourced S w k by action = ⊤

-- What is delivered at the event is of what came then.
delivered-from : UpLaw → (S : Sendings) (cast : Cast) (T place : ℕ) (D : WorldStep) (w : World) (k : ℕ) (n : Node) (by : Option Arrival) (e : NodeEvent)
    → node_at w k ≡ Some n → Comes D w k n by e → KnowsEnds cast T place w → AllDirect S cast w
    → HubsPart S w k n by e → IsTrue (may_come n.log (at_once w.now e)) → (d : Delivered) → Among (Deliver d) (actions_at n.made n.log (at_once w.now e)) → (a : Arrival) → by ≡ Some a
    → IsFrom S (goes_on_in k (at_once w.now e) w) (record { sent_at = a.sent_at; node = k; delivered = d })
delivered-from law S cast T place D w k n by e here come m direct hubs may d among a is = of_once (delivery_is_of_came n.made n.log (at_once w.now e) d may among)
  where
    later : World
    later = goes_on_in k (at_once w.now e) w

    filtered : Among (Deliver d) (delivered_at n.made n.log (at_once w.now e))
    filtered = among-filter _ (Deliver d) (actions_at n.made n.log (at_once w.now e)) refl among

    by_end : (name : LinkName) (o : List ℕ) (msg : Message) (npdu : List ℕ) (v : Vmac) (c : CameBy w k n name o by) → e ≡ Came name o
        → verdict n.made (with_event n.log (at_once w.now e)) name o ≡ Pass msg → msg.body ≡ Npdu npdu
        → sender name msg (with_heard n.made n.log (at_once w.now e) name o) ≡ Some v → (t : Target) → putter c.arrival.way c.link ≡ t
        → IsFrom S later (record { sent_at = c.arrival.sent_at; node = k; delivered = delivery msg npdu v })
    by_end name o msg npdu v c comes passed body from (ToHub j) puts =
        from-lasts S w later (record { sent_at = c.arrival.sent_at; node = k; delivered = delivery msg npdu v }) (lasts-log w k (at_once w.now e))
        (hubs name o c j msg npdu v comes puts passed body from)
    by_end name o msg npdu v c comes passed body from (ToNode j) puts =
        let r = came_directly S cast w k n by e name o j (record {
          ends = m.1;
          direct = direct;
          casts = m.0.0.1;
          here = here;
          may = may;
          came = comes;
          over = c;
          puts = puts;
          law = law;
        }) msg npdu v passed body from in
        (j, r.0, r.1, inr r.2)

    of_once : IsDeliveredOnce n.made n.log (at_once w.now e) → IsFrom S later (record { sent_at = a.sent_at; node = k; delivered = d })
    of_once (name, o, msg, npdu, v, comes, passed, body, from, one) =
        let c = came_by D w k n by e name o come comes in
        let same : d ≡ delivery msg npdu v = same_delivered d (delivery msg npdu v) (only (Deliver d) (Deliver (delivery msg npdu v)) (subst (Among (Deliver d)) one filtered)) in
        subst (λ (x : Delivered). IsFrom S later (record { sent_at = a.sent_at; node = k; delivered = x })) (sym same)
        (subst (λ (b : Arrival). IsFrom S later (record { sent_at = b.sent_at; node = k; delivered = delivery msg npdu v })) (some_same c.arrival a (sym c.is ∙ is))
        (by_end name o msg npdu v c comes passed body from (putter c.arrival.way c.link) refl))

-- ---- the actions of an event

record Within (S : Sendings) (w u : World) : Type 0 where
  grown : Lasts w u
  from : AllFrom S u

within-same : (S : Sendings) (w u v : World) → Lasts u v → v.delivered ≡ u.delivered → Within S w u → Within S w v
within-same S w u v g same i = record { grown = lasts-then w u v i.grown g; from = from-same S u v g same i.from }

puts-delivered : (u : World) (k : ℕ) (name : LinkName) (content : Content) → (puts_by k name content u).delivered ≡ u.delivered
puts-delivered u k name content = at_node (node_at u k)
  where
    at_hold : (o : Option Hold) → (with_found o (puts_on content) u).delivered ≡ u.delivered
    at_hold None = refl
    at_hold (Some h) = refl

    at_node : (o : Option Node) → (with_found o (λ m. with_found (hold_of name m) (puts_on content)) u).delivered ≡ u.delivered
    at_node None = refl
    at_node (Some m) = at_hold (hold_of name m)

each_act : (S : Sendings) (cast : Cast) (T place k : ℕ) (before w : World) (by : Option Arrival) → EachAct k by (IsSourced S w k by) (KeepsGiven (AmidAll before cast T place) (Within S w))
each_act S cast T place k before w by = record {
  puts = λ u name o known m. within-same S w u _ (G.each.puts u name o tt) (puts-delivered u k name (Octets o));
  closes = λ u name m. within-same S w u _ (G.each.closes u name) (puts-delivered u k name Closed);
  takes = λ u name b is known m. within-same S w u _ (G.each.takes u name b is tt) refl;
  dials_as = λ u name uri t known leads m. within-same S w u _ (G.each.dials_as u name uri t tt leads) refl;
  fails_as = λ u name m. within-same S w u _ (G.each.fails_as u name) refl;
  refuses_it = λ u b is m. within-same S w u _ (G.each.refuses_it u b is) refl;
  delivers_one = λ u d b is known m i.
      let g = G.each.delivers_one u d b is tt in
      let one : WorldDelivery = record { sent_at = b.sent_at; node = k; delivered = d } in
      record {
        grown = lasts-then w u _ i.grown g;
        from = all-one_more (IsFrom S _) u.delivered one (all-mapped (IsFrom S u) (IsFrom S _) (λ x. from-lasts S u _ x g) u.delivered i.from)
            (from-lasts S w _ one (lasts-then w u _ i.grown g) (known b is));
      };
}
  where
    G : LetsActs k by (λ action. ⊤) Lasts
    G = Lasting.lets_acts k by

-- ---- the moves of a step

-- What is known where each delivery is so: all that is known of ends, the NPDUs of direct connections, and something else by which
-- what comes from hubs is so.
abbrev pub KnowsSources : Sendings → Cast → ℕ → ℕ → (World → Type 0) → World → Type 0
KnowsSources S cast T place More u = KnowsEnds cast T place u × AllDirect S cast u × More u

pub from-hears : UpLaw → (S : Sendings) (cast : Cast) (T place : ℕ) (D : WorldStep) (More : World → Type 0) (w : World) (k : ℕ) (n : Node) (by : Option Arrival) (e : NodeEvent)
    → HubsPart S w k n by e → node_at w k ≡ Some n → Comes D w k n by e
    → fits n.log e ≡ true → KeepsGiven (KnowsSources S cast T place More) (AllFrom S) w (hears k by (at_once w.now e) n w)
from-hears law S cast T place D More w k n by e hubs here come fit m i =
    (acts-after cast T place D k w n by e (IsSourced S later k by) (Within S later) here come fit (each_act S cast T place k w later by) m.0.0.0
    (by-each (IsSourced S later k by) w.now n.made n.log e below timely word fit sourced none)
    (record { grown = lasts-none later; from = from-same S w later (lasts-log w k (at_once w.now e)) refl i })).from
  where
    later : World
    later = goes_on_in k (at_once w.now e) w

    below : w.now < 2 ^ 62
    below = subst (λ t. t < 2 ^ 62) (sym m.0.0.0.0.at.now) m.0.0.0.0.at.below

    timely : Timely w.now n.log
    timely = subst (λ t. Timely t n.log) (sym m.0.0.0.0.at.now) (all-at (λ (x : Node). Timely T x.log) w.nodes k n m.0.0.0.0.at.timely here)

    word : brings_word e ≡ false
    word = no_word_comes D w k n by e come

    sourced : IsTrue (may_come n.log (at_once w.now e)) → (action : Action) → Among action (actions_at n.made n.log (at_once w.now e)) → IsSourced S later k by action
    sourced may (Deliver d) among = λ a is. delivered-from law S cast T place D w k n by e here come m.0 m.1 hubs may d among a is
    sourced may action among = tt

    none : (M : Log) → IsTrue (may_come M (at_once w.now NoRandom)) → (action : Action) → Among action (actions_at n.made M (at_once w.now NoRandom)) → IsSourced S later k by action
    none M may (Deliver d) among = λ a is. absurd (not_came (delivery_is_of_came n.made M (at_once w.now NoRandom) d may among))
      where
        not_came : IsDeliveredOnce n.made M (at_once w.now NoRandom) → ⊥
        not_came (name, o, msg, npdu, v, comes, passed, body, from, one) = cc
    none M may action among = tt
