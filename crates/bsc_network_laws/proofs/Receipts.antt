-- After each step, each delivery has a receipt of its own: where what it delivers has arrived.
-- It serves clauses of functions of `laws`.
use Rattle.std.proofs.Common.{◌≡◌, ◌≢◌, ◌<◌, ◌⊎◌, inl, inr, ℕ, suc, true, false, List, [], ◌∷◌, ◌++◌, Option, Some, None, refl, ap, sym, subst, ◌∙◌, arith}
use Rattle.std.specs.Prelude.{◌+◌, ◌^◌, IsTrue, slice_get, filter, filter_map, ⊤}
use Rattle.std.specs.Option.{option_map}
use Rattle.std.specs.List.{AllByRecursion}
use Rattle.bsc_octets.specs.declared.vmac.Vmac.{Vmac}
use Rattle.bsc_octets.specs.Functions.{is_npdu}
use Rattle.bsc_frame.specs.declared.message.Message.{Message as FrameMessage}
use Rattle.bsc_frame.specs.declared.body.Body.TheVariants.{Npdu}
use Rattle.bsc_checks.specs.declared.verdict.Verdict.TheVariants.{Pass}
use Rattle.bsc_node.specs.declared.delivered.Delivered.{Delivered}
use Rattle.bsc_node.specs.declared.link_name.LinkName.{LinkName}
use Rattle.bsc_node.specs.declared.node_event.NodeEvent.{NodeEvent}
use Rattle.bsc_node.specs.declared.node_event.NodeEvent.TheVariants.{Came, NoRandom}
use Rattle.bsc_node.specs.declared.timed_event.TimedEvent.{TimedEvent}
use Rattle.bsc_node.specs.declared.action.Action.{Action}
use Rattle.bsc_node.specs.declared.action.Action.TheVariants.{Deliver}
use Rattle.bsc_node.specs.Conditions.{fits, may_come}
use Rattle.bsc_node.specs.Laws.{with_event, with_heard, delivers_npdu, delivered_at, delivery, IsDeliveredOnce}
use Rattle.bsc_node.specs.Links.{verdict, place}
use Rattle.bsc_node.specs.Receiving.{sender}
use Rattle.bsc_node.specs.Logs.{Made, Log, action_of}
use Rattle.bsc_node.specs.Node.{actions_at}
use Rattle.bsc_node.proofs.Delivering.{delivers_what_came}
use Rattle.bsc_node_identity.proofs.Timely.{Timely}
use Rattle.bsc_network.specs.declared.world_step.WorldStep.{WorldStep}
use Rattle.bsc_network.specs.declared.world_delivery.WorldDelivery.{WorldDelivery}
use Rattle.bsc_network.specs.declared.way.Way.{Way}
use Rattle.bsc_network.specs.declared.way.Way.TheVariants.{Up, Down}
use Rattle.bsc_network.specs.declared.target.Target.TheVariants.{Node as ToNode}
use Rattle.bsc_network.specs.declared.hold.Hold.{Hold}
use Rattle.bsc_network.specs.declared.arrival.Arrival.{Arrival}
use Rattle.bsc_network.specs.declared.parcel.Parcel.{Parcel}
use Rattle.bsc_network.specs.declared.parcel.Content.{Content}
use Rattle.bsc_network.specs.declared.parcel.Content.TheVariants.{Opened, Arrived, Message, Closed}
use Rattle.bsc_network.specs.Traffic.{Traffic, without_front}
use Rattle.bsc_network.specs.Worlds.{World, Node, Link, traffic, node_at, link_at}
use Rattle.bsc_network.specs.Changes.{with_found, with_traffic}
use Rattle.bsc_network.specs.NodeSides.{name_of, hold_of, puts_on, puts_by}
use Rattle.bsc_network.specs.NodeEvents.{brings_about, carries_out, delivers, hears}
use Rattle.bsc_network.specs.Arriving.{event_of}
use Rattle.bsc_network.specs.Refusals.{is_own}
use Rattle.bsc_network.proofs.Places.{all-mapped, found-in, get-changed}
use Rattle.bsc_network_laws.specs.Ends.{receiver}
use Rattle.bsc_node_identity.proofs.Npdus.{passed-npdu}
use Rattle.bsc_network_laws.specs.Deliveries.{AreApart, Apart}
use Rattle.bsc_network_laws.proofs.Moves.{IsHeardBy, HasArrived, Comes, Lets}
use Rattle.bsc_network_laws.proofs.Acting.{goes_on_in, LetsActs}
use Rattle.bsc_network_laws.proofs.Beside.{Keeps, KeepsGiven}
use Rattle.bsc_network_laws.proofs.Beginning.{after_arrival, ComesFirst, EachFrom}
use Rattle.bsc_network_laws.proofs.Stepping.{traffic-with}
use Rattle.bsc_network_laws.proofs.Timing.{no_word_comes}
use Rattle.bsc_network_laws.proofs.Knowing.{Knows}
use Rattle.bsc_network_laws.proofs.Growing.{stays-at, LinkGrows, Grows, grows-none, grows-then, grows-same, grows-arrives, grows-acts, grows}
use Rattle.bsc_network_laws.proofs.AtMost.{Fails, AtMostOne, acts-none, acts-once, at_most-one}
use Rattle.bsc_network_laws.proofs.Placed.{StandsAt}
use Rattle.bsc_network_laws.proofs.PutOnce.{IsOne}
use Rattle.bsc_lemmas.proofs.Lists.{all-at, all-push as all-one_more}
use Rattle.std.proofs.lemmas.Option.{same_Some as some_same}

-- ---- receipts

-- An index of a way of a link.
pub record Receipt : Type 0 where
  pub link : ℕ
  pub way : Way
  pub index : ℕ

-- An NPDU stands there, by which way this node hears.
pub record HeardAt (w : World) (l : ℕ) (way : Way) (i : ℕ) (octets : List ℕ) (place k : ℕ) : Type 0 where
  pub at : Link
  pub here : link_at w l ≡ Some at
  pub stands : StandsAt at way i (record { octets = octets; sent_at = place })
  pub npdu : is_npdu octets ≡ true
  pub heard : receiver way at ≡ ToNode k

-- What was delivered has arrived there, with the delivery's place, and by a way by which its node hears.
pub record IsReceipt (w : World) (d : WorldDelivery) (r : Receipt) : Type 0 where
  pub octets : List ℕ
  pub is_heard : HeardAt w r.link r.way r.index octets d.sent_at d.node
  pub arrived : r.index < (traffic r.way is_heard.at).arrived

-- Each of the deliveries has its receipt, and no two are one.
abbrev pub AreReceipts : World → List WorldDelivery → List Receipt → Type 0
AreReceipts w [] [] = ⊤
AreReceipts w (d ∷ ds) (r ∷ rs) = IsReceipt w d r × AllByRecursion (λ x. r ≢ x) rs × AreReceipts w ds rs
AreReceipts w [] (r ∷ rs) = ⊥
AreReceipts w (d ∷ ds) [] = ⊥

abbrev pub HasReceipts : World → Type 0
HasReceipts w = (rs : List Receipt) × AreReceipts w w.delivered rs

-- ---- they stay

heard-on : (way : Way) (x y : Link) → LinkGrows x y → receiver way y ≡ receiver way x
heard-on Up x y g = g.to
heard-on Down x y g = ap ToNode g.from

receipt-on : (u v : World) → Grows u v → (d : WorldDelivery) (r : Receipt) → IsReceipt u d r → IsReceipt v d r
receipt-on u v g d r is =
    let h = is.is_heard in
    let there = g.grown r.link h.at h.here in
    let less = is.arrived in
    let more = (there.2.ways r.way).arrived in
    record {
      octets = is.octets;
      is_heard = record {
        at = there.0;
        here = there.1;
        stands = stays-at (traffic r.way h.at) (traffic r.way there.0) (there.2.ways r.way) r.index _ h.stands;
        npdu = h.npdu;
        heard = heard-on r.way h.at there.0 there.2 ∙ h.heard;
      };
      arrived = omega arith;
    }

receipts-on : (u v : World) → Grows u v → (ds : List WorldDelivery) (rs : List Receipt) → AreReceipts u ds rs → AreReceipts v ds rs
receipts-on u v g [] [] all = tt
receipts-on u v g (d ∷ ds) (r ∷ rs) all = (receipt-on u v g d r all.0, all.1, receipts-on u v g ds rs all.2)
receipts-on u v g [] (r ∷ rs) all = absurd all
receipts-on u v g (d ∷ ds) [] all = absurd all

-- nothing is delivered
abbrev DeliversNone : World → World → Type 0
DeliversNone u v = Grows u v × (v.delivered ≡ u.delivered)

these-kept : (u v : World) → DeliversNone u v → (rs : List Receipt) → AreReceipts u u.delivered rs → AreReceipts v v.delivered rs
these-kept u v f rs all = subst (λ ds. AreReceipts v ds rs) (sym f.1) (receipts-on u v f.0 u.delivered rs all)

receipts-kept : (u v : World) → DeliversNone u v → HasReceipts u → HasReceipts v
receipts-kept u v f has = (has.0, these-kept u v f has.0 has.1)

pub receipts-same : (u v : World) → v.links ≡ u.links → v.delivered ≡ u.delivered → HasReceipts u → HasReceipts v
receipts-same u v links delivered = receipts-kept u v (grows-same u v links, delivered)

-- ---- one more

receipts-more : (w : World) (ds : List WorldDelivery) (rs : List Receipt) (d : WorldDelivery) (r : Receipt) → AreReceipts w ds rs → AllByRecursion (λ x. x ≢ r) rs → IsReceipt w d r
    → AreReceipts w (ds ++ d ∷ []) (rs ++ r ∷ [])
receipts-more w [] [] d r all new is = (is, tt, tt)
receipts-more w (e ∷ ds) (x ∷ rs) d r all new is = (all.0, all-one_more (λ y. x ≢ y) rs r all.1 new.0, receipts-more w ds rs d r all.2 new.1 is)
receipts-more w [] (x ∷ rs) d r all new is = absurd all
receipts-more w (e ∷ ds) [] d r all new is = absurd all

-- what had arrived in this network
abbrev OldIn : World → Receipt → Type 0
OldIn B r = (x : Link) × (link_at B r.link ≡ Some x) × (r.index < (traffic r.way x).arrived)

receipts-old : (B : World) (ds : List WorldDelivery) (rs : List Receipt) → AreReceipts B ds rs → AllByRecursion (OldIn B) rs
receipts-old B [] [] all = tt
receipts-old B (d ∷ ds) (r ∷ rs) all = ((all.0.is_heard.at, all.0.is_heard.here, all.0.arrived), receipts-old B ds rs all.2)
receipts-old B [] (r ∷ rs) all = absurd all
receipts-old B (d ∷ ds) [] all = absurd all

-- What has just arrived is the next of what had arrived before.
pub arrived_next : (B w : World) (l : ℕ) (way : Way) (p : Parcel) (come : HasArrived w l way p) → w ≡ after_arrival l way B → (x : Link) → link_at B l ≡ Some x → (traffic way x).arrived ≡ come.place
arrived_next B w l way p come begins x here =
    let f = with_traffic way without_front in
    let there : link_at w l ≡ Some (f x) = ap (λ (v : World). link_at v l) begins ∙ get-changed l f B.links ∙ ap (option_map f) here in
    let on : without_front (traffic way x) ≡ come.on = sym (traffic-with way without_front x) ∙ some_same (traffic way (f x)) come.on (sym (ap (option_map (traffic way)) there) ∙ come.found) in
    let last : (traffic way x).arrived + 1 ≡ suc come.place = ap (λ (t : Traffic). t.arrived) on ∙ come.last in
    omega arith

-- ---- an event comes to a node

-- It is of a message that came and passed, with an NPDU.
pub record IsOfCame (a : Made) (L : Log) (e : TimedEvent) (x : Action) : Type 0 where
  pub name : LinkName
  pub octets : List ℕ
  pub message : FrameMessage
  pub content : List ℕ
  pub from : Vmac
  pub event : e.event ≡ Came name octets
  pub passed : verdict a (with_event L e) name octets ≡ Pass message
  pub body : message.body ≡ Npdu content
  pub from_is : sender name message (with_heard a L e name octets) ≡ Some from
  pub npdu : is_npdu octets ≡ true
  pub is : x ≡ Deliver (delivery message content from)

deliver-law : (a : Made) (L : Log) (e : TimedEvent) → IsTrue (may_come L e) → AtMostOne delivers_npdu (IsOfCame a L e) (actions_at a L e)
deliver-law a L e may = by (delivers_what_came a L e may)
  where
    by : (delivered_at a L e ≡ []) ⊎ IsDeliveredOnce a L e → AtMostOne delivers_npdu (IsOfCame a L e) (actions_at a L e)
    by (inl none) = inl none
    by (inr (name, o, msg, npdu, from, event, passed, body, from_is, is)) =
        inr (
          _,
          is,
          record {
            name = name;
            octets = o;
            message = msg;
            content = npdu;
            from = from;
            event = event;
            passed = passed;
            body = body;
            from_is = from_is;
            npdu = passed-npdu o (place a (with_event L e) name) a.own.max_bvlc msg npdu passed body;
            is = refl;
          },
        )

deliver-never : (a : Made) (M : Log) (x : TimedEvent) (action : Action) → x.event ≡ NoRandom → IsOfCame a M x action → ⊥
deliver-never a M x action is of = no of.name of.octets (sym is ∙ of.event)
  where
    no : (name : LinkName) (o : List ℕ) → NoRandom ≡ Came name o → ⊥
    no name o h = cc

pub delivers-at_most : (T place : ℕ) (D : WorldStep) (w : World) (k : ℕ) (n : Node) (by : Option Arrival) (e : NodeEvent) → node_at w k ≡ Some n → Comes D w k n by e → fits n.log e ≡ true
    → Knows T place w
    → AtMostOne delivers_npdu (IsOfCame n.made n.log (record { now = w.now; event = e })) (filter_map action_of (brings_about n.made (record { now = w.now; event = e }) n.log))
delivers-at_most T place D w k n by e here come fit known =
    at_most-one delivers_npdu IsOfCame w.now n.made n.log e (subst (λ t. t < 2 ^ 62) (sym known.at.now) known.at.below)
    (subst (λ t. Timely t n.log) (sym known.at.now) (all-at (λ (x : Node). Timely T x.log) w.nodes k n known.at.timely here)) (no_word_comes D w k n by e come) fit
    (deliver-law n.made) (deliver-never n.made)

-- what came over a link is the message that arrived
pub came_is : (content : Content) (held : Option LinkName) (name : LinkName) (o : List ℕ) → event_of content held ≡ Some (Came name o) → content ≡ Message o
came_is Arrived held name o h = cc
came_is Opened (Some n) name o h = cc
came_is (Message m) (Some n) name o h = cc
came_is Closed (Some n) name o h = cc
came_is Opened None name o h = cc
came_is (Message m) None name o h = cc
came_is Closed None name o h = cc

pub not_came : (D : WorldStep) (w : World) (k : ℕ) (n : Node) (e : NodeEvent) (name : LinkName) (o : List ℕ) → Comes D w k n None e → e ≡ Came name o → ⊥
not_came D w k n e name o (inl own) is = no (sym (ap is_own is) ∙ own.1)
  where
    no : false ≡ true → ⊥
    no h = cc
not_came D w k n e name o (inr (inl (l, way, other, lost, held))) is = cc
not_came D w k n e name o (inr (inr (other, failed))) is = cc

-- The receipt of what has just arrived.
just_arrived : (w : World) (k : ℕ) (a : Arrival) (content : Content) (o : List ℕ) (d : Delivered) (came : HasArrived w a.link a.way (record { content = content; sent_at = a.sent_at }))
    → content ≡ Message o → is_npdu o ≡ true → IsHeardBy w a.link a.way k
    → IsReceipt w (record { sent_at = a.sent_at; node = k; delivered = d }) (record { link = a.link; way = a.way; index = came.place })
just_arrived w k a content o d came is npdu heard =
    let there = found-in (traffic a.way) (link_at w a.link) came.on came.found in
    let x = there.0 in
    let last : (traffic a.way x).arrived ≡ suc came.place = ap (λ (t : Traffic). t.arrived) there.2 ∙ came.last in
    record {
      octets = o;
      is_heard = record {
        at = x;
        here = there.1;
        stands = ap (λ (t : Traffic). slice_get t.put came.place) there.2 ∙ came.here ∙ ap (λ (c : Content). Some (record { content = c; sent_at = a.sent_at })) is;
        npdu = npdu;
        heard = some_same (receiver a.way x) (ToNode k) (sym (ap (option_map (receiver a.way)) there.1) ∙ heard);
      };
      arrived = omega arith;
    }

none-acts : (k : ℕ) (by : Option Arrival) → LetsActs k by (Fails delivers_npdu) DeliversNone
none-acts k by = record {
  none = λ w. (grows-none w, refl);
  then = λ u v w f g. (grows-then u v w f.0 g.0, g.1 ∙ f.1);
  each = record {
    puts = λ w name o known. (G.each.puts w name o tt, puts-delivered w name (Message o));
    closes = λ w name. (G.each.closes w name, puts-delivered w name Closed);
    takes = λ w name a is known. (G.each.takes w name a is tt, refl);
    dials_as = λ w name uri t known leads. (G.each.dials_as w name uri t tt leads, refl);
    fails_as = λ w name. (G.each.fails_as w name, refl);
    refuses_it = λ w a is. (G.each.refuses_it w a is, refl);
    delivers_one = λ w d a is known. absurd (no known);
  };
}
  where
    G : LetsActs k by (λ action. ⊤) Grows
    G = grows-acts k by

    no : true ≡ false → ⊥
    no h = cc

    puts-delivered : (u : World) (name : LinkName) (content : Content) → (puts_by k name content u).delivered ≡ u.delivered
    puts-delivered u name content = at_node (node_at u k)
      where
        at_hold : (o : Option Hold) → (with_found o (puts_on content) u).delivered ≡ u.delivered
        at_hold None = refl
        at_hold (Some h) = refl

        at_node : (o : Option Node) → (with_found o (λ m. with_found (hold_of name m) (puts_on content)) u).delivered ≡ u.delivered
        at_node None = refl
        at_node (Some m) = at_hold (hold_of name m)

-- Of an event that comes.
receipts-hears : (T place : ℕ) (B : World) (D : WorldStep) → HasReceipts B → (w : World) (k : ℕ) (n : Node) (by : Option Arrival) (e : NodeEvent) → node_at w k ≡ Some n → Comes D w k n by e
    → fits n.log e ≡ true → ComesFirst B w by e
    → KeepsGiven (Knows T place) HasReceipts w (hears k by (record { now = w.now; event = e }) n w)
receipts-hears T place B D at_first w k n by e here come fit first known has = at (delivers-at_most T place D w k n by e here come fit known)
  where
    event : TimedEvent
    event = record { now = w.now; event = e }

    actions : List Action
    actions = filter_map action_of (brings_about n.made event n.log)

    logged : World
    logged = goes_on_in k event w

    -- before it is delivered, and from then on
    Up_to : World → Type 0
    Up_to u = (rs : List Receipt) × AreReceipts u u.delivered rs × AllByRecursion (OldIn B) rs × Grows w u

    up_to-kept : (u v : World) → DeliversNone u v → Up_to u → Up_to v
    up_to-kept u v f p = (p.0, these-kept u v f p.0 p.1, p.2, grows-then w u v p.3 f.0)

    keeps : (by : Option Arrival) (P : World → Type 0) → ((u v : World) → DeliversNone u v → P u → P v) → LetsActs k by (Fails delivers_npdu) (Keeps P)
    keeps by P kept = record {
      none = λ u p. p;
      then = λ u v x f g p. g (f p);
      each = record {
        puts = λ u name o known. kept u _ ((none-acts k by).each.puts u name o known);
        closes = λ u name. kept u _ ((none-acts k by).each.closes u name);
        takes = λ u name a is known. kept u _ ((none-acts k by).each.takes u name a is known);
        dials_as = λ u name uri t known leads. kept u _ ((none-acts k by).each.dials_as u name uri t known leads);
        fails_as = λ u name. kept u _ ((none-acts k by).each.fails_as u name);
        refuses_it = λ u a is. kept u _ ((none-acts k by).each.refuses_it u a is);
        delivers_one = λ u d a is known. kept u _ ((none-acts k by).each.delivers_one u d a is known);
      };
    }

    begins : (a : Arrival) → w ≡ after_arrival a.link a.way B → Up_to w
    begins a is =
        let v = after_arrival a.link a.way B in (
          at_first.0,
          subst (λ (u : World). AreReceipts u u.delivered at_first.0) (sym is) (these-kept B v (grows-arrives B a.link a.way, refl) at_first.0 at_first.1),
          receipts-old B B.delivered at_first.0 at_first.1,
          grows-none w,
        )

    new : (a : Arrival) (content : Content) (came : HasArrived w a.link a.way (record { content = content; sent_at = a.sent_at })) → w ≡ after_arrival a.link a.way B → (r : Receipt)
        → OldIn B r → r ≢ record { link = a.link; way = a.way; index = came.place }
    new a content came is r old same =
        let moved : OldIn B (record { link = a.link; way = a.way; index = came.place }) = subst (OldIn B) same old in
        let next = arrived_next B w a.link a.way (record { content = content; sent_at = a.sent_at }) came is moved.0 moved.1 in
        let less = moved.2 in
        absurd (omega arith)

    delivered_one : (a : Arrival) (content : Content) (came : HasArrived w a.link a.way (record { content = content; sent_at = a.sent_at })) (o : List ℕ) (d : Delivered)
        → content ≡ Message o → is_npdu o ≡ true → IsHeardBy w a.link a.way k
        → w ≡ after_arrival a.link a.way B → (u : World) → Up_to u → HasReceipts (delivers k d a u)
    delivered_one a content came o d is npdu heard start u p =
        let one : WorldDelivery = record { sent_at = a.sent_at; node = k; delivered = d } in
        let r : Receipt = record { link = a.link; way = a.way; index = came.place } in
        let here_now = receipt-on w u p.3 one r (just_arrived w k a content o d came is npdu heard) in (
          p.0 ++ r ∷ [],
          receipts-on u (delivers k d a u) (grows-same u (delivers k d a u) refl) (u.delivered ++ one ∷ []) (p.0 ++ r ∷ [])
              (receipts-more u u.delivered p.0 one r p.1 (all-mapped (OldIn B) (λ x. x ≢ r) (new a content came start) p.0 p.2) here_now),
        )

    one : (x : Action) → IsOfCame n.made n.log event x → (by : Option Arrival) → Comes D w k n by e → ComesFirst B w by e → filter delivers_npdu actions ≡ x ∷ [] → HasReceipts (hears k by event n w)
    one x of None come first is = absurd (not_came D w k n e of.name of.octets come of.event)
    one x of (Some a) (content, heard, came, brought) first is =
        acts-once k (Some a) delivers_npdu Up_to HasReceipts (keeps (Some a) Up_to up_to-kept) (keeps (Some a) HasReceipts receipts-kept) x
        (λ u p. subst (λ (y : Action). HasReceipts (carries_out k (Some a) y u)) (sym of.is)
        (delivered_one a content came of.octets (delivery of.message of.content of.from)
        (came_is content (name_of a.link a.way n) of.name of.octets (brought ∙ ap Some of.event)) of.npdu heard first u p))
        actions logged is (up_to-kept w logged (grows-same w logged refl, refl) (begins a first))

    at : AtMostOne delivers_npdu (IsOfCame n.made n.log event) actions → HasReceipts (hears k by event n w)
    at (inl none) = receipts-kept logged (hears k by event n w) (acts-none k by delivers_npdu DeliversNone (none-acts k by) actions logged none)
        (receipts-kept w logged (grows-same w logged refl, refl) has)
    at (inr (x, is, of)) = one x of by come first is

-- Each delivery has its receipt, after each move of a step that began so.
pub receipts_stay : (T place : ℕ) (B : World) (D : WorldStep) → HasReceipts B → EachFrom B D (KeepsGiven (Knows T place) HasReceipts)
receipts_stay T place B D at_first = record {
  over = λ w l m. receipts-kept w _ (G.each.over w l, refl);
  tells = λ w l j h k e other side m. receipts-kept w _ (G.each.tells w l j h k e other side, refl);
  empty = λ w l m. receipts-kept w _ (G.each.empty w l, refl);
  closes_down = λ w l m. receipts-kept w _ (G.each.closes_down w l, refl);
  hub_puts = λ w l j h k st o side wanted is m. receipts-kept w _ (G.each.hub_puts w l j h k st o side wanted is, refl);
  leaves = λ w l j h k c side conn m. receipts-kept w _ (G.each.leaves w l j h k c side conn, refl);
  stops = λ w j h here is m. receipts-kept w _ (G.each.stops w j h here is, refl);
  asks = λ w l j p h k o who side came said is m. receipts-kept w _ (G.each.asks w l j p h k o who side came said is, refl);
  joins = λ w l j p h k o who c replaced side came said is m. receipts-kept w _ (G.each.joins w l j p h k o who c replaced side came said is, refl);
  forwards = λ w l j p h k o c side conn came said now m. receipts-kept w _ (G.each.forwards w l j p h k o c side conn came said, refl);
  takes = λ w l j h k c f side conn is m. receipts-kept w _ (G.each.takes w l j h k c f side conn is, refl);
  hears = λ w k n by e here come fit first. receipts-hears T place B D at_first w k n by e here come fit first;
  forgets = λ w later m. receipts-kept w _ (G.each.forgets w later, refl);
  arrives = λ w l way k x here is m. receipts-kept w _ (G.each.arrives w l way k x here is, refl);
  loses = λ w l m. receipts-kept w _ (G.each.loses w l, refl);
}
  where
    G : Lets D Grows
    G = grows D

-- ---- no two deliveries are of one Send and to one node

-- To each node an NPDU of one place comes once.
abbrev pub ComeOnce : World → Type 0
ComeOnce w = (l : ℕ) (way : Way) (i : ℕ) (o : List ℕ) (m : ℕ) (on : Way) (j : ℕ) (p : List ℕ) (place k : ℕ) → HeardAt w l way i o place k → HeardAt w m on j p place k → IsOne l way i m on j

same-receipt : (r x : Receipt) → IsOne r.link r.way r.index x.link x.way x.index → r ≡ x
same-receipt r x one = ap (λ (l : ℕ). record { link = l; way = r.way; index = r.index }) one.link ∙ ap (λ (way : Way). record { link = x.link; way = way; index = r.index }) one.way_is
    ∙ ap (λ (i : ℕ). record { link = x.link; way = x.way; index = i }) one.index

apart-one : (w : World) → ComeOnce w → (d : WorldDelivery) (r : Receipt) → IsReceipt w d r → (ds : List WorldDelivery) (rs : List Receipt) → AllByRecursion (λ x. r ≢ x) rs
    → AreReceipts w ds rs → AllByRecursion (AreApart d) ds
apart-one w once d r is [] [] apart all = tt
apart-one w once d r is (e ∷ ds) (x ∷ rs) apart all = (
  (λ place node. apart.0 (same-receipt r x (once r.link r.way r.index is.octets x.link x.way x.index all.0.octets d.sent_at d.node is.is_heard
      (subst (λ (p : ℕ). HeardAt w x.link x.way x.index all.0.octets p d.node) (sym place) (subst (λ (k : ℕ). HeardAt w x.link x.way x.index all.0.octets e.sent_at k) (sym node) all.0.is_heard))))),
  apart-one w once d r is ds rs apart.1 all.2,
)
apart-one w once d r is [] (x ∷ rs) apart all = absurd all
apart-one w once d r is (e ∷ ds) [] apart all = absurd all

pub apart-all : (w : World) → ComeOnce w → (ds : List WorldDelivery) (rs : List Receipt) → AreReceipts w ds rs → Apart ds
apart-all w once [] [] all = tt
apart-all w once (d ∷ ds) (r ∷ rs) all = (apart-one w once d r all.0 ds rs all.1 all.2, apart-all w once ds rs all.2)
apart-all w once [] (r ∷ rs) all = absurd all
apart-all w once (d ∷ ds) [] all = absurd all

-- Where to each node each comes once, no two deliveries are of one Send and to one node.
pub deliveries-apart : (w : World) → ComeOnce w → HasReceipts w → Apart w.delivered
deliveries-apart w once has = apart-all w once w.delivered has.0 has.1
