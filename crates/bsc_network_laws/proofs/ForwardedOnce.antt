-- After each step, each NPDU that a hub was handed in had arrived on the way up of a link to it, and no two that hubs were handed
-- in have one place.
-- It serves clauses of functions of `laws`.
use Rattle.std.proofs.Common.{◌≡◌, ◌<◌, ◌⊎◌, inl, inr, ℕ, suc, Bool, true, false, List, [], ◌∷◌, ◌++◌, Option, Some, None, refl, ap, sym, subst, ◌∙◌, arith}
use Rattle.std.specs.Prelude.{◌+◌, length, slice_get, ⊤}
use Rattle.std.specs.Option.{option_map}
use Rattle.bsc_octets.specs.Functions.{is_npdu}
use Rattle.bsc_history.specs.declared.call.Call.{Call}
use Rattle.bsc_history.specs.declared.call.Call.TheVariants.{Connect, Forward, Stop as StopCall}
use Rattle.bsc_accept.specs.declared.event.Event.{Event}
use Rattle.bsc_node.specs.declared.link_name.LinkName.{LinkName}
use Rattle.bsc_network.specs.declared.world_step.WorldStep.{WorldStep}
use Rattle.bsc_network.specs.declared.way.Way.TheVariants.{Up}
use Rattle.bsc_network.specs.declared.target.Target.TheVariants.{Hub as ToHub}
use Rattle.bsc_network.specs.declared.hold.Hold.{Hold}
use Rattle.bsc_network.specs.declared.arrival.Arrival.{Arrival}
use Rattle.bsc_network.specs.declared.parcel.Content.{Content}
use Rattle.bsc_network.specs.declared.parcel.Content.TheVariants.{Message, Closed}
use Rattle.bsc_network.specs.Traffic.{Traffic, without_front}
use Rattle.bsc_network.specs.Worlds.{World, Hub, Node, Link, Posted, traffic, hub_at, node_at, link_at}
use Rattle.bsc_network.specs.Changes.{with_found, with_side, with_traffic}
use Rattle.bsc_network.specs.Outboxes.{Frame}
use Rattle.bsc_network.specs.HubCalls.{called, entry_in}
use Rattle.bsc_network.specs.HubSides.{told}
use Rattle.bsc_network.specs.NodeSides.{hold_of, puts_on, puts_by}
use Rattle.bsc_network.proofs.Places.{got-changed, got-last_of, get-changed}
use Rattle.bsc_network_laws.proofs.Moves.{IsSide, HasArrived, Lets}
use Rattle.bsc_network_laws.proofs.Acting.{goes_on_in, LetsActs, lets-hears}
use Rattle.bsc_network_laws.proofs.Beside.{Keeps}
use Rattle.bsc_network_laws.proofs.Beginning.{after_arrival, HasJustCome, LetsFrom}
use Rattle.bsc_network_laws.proofs.Sides.{with_call}
use Rattle.bsc_network_laws.proofs.Growing.{stays-at, Grows, grows-then, grows-same, grows-side, grows-arrives, grows-acts, grows}
use Rattle.bsc_network_laws.proofs.Placed.{StandsAt, none-then, none-side, none-arrives}
use Rattle.bsc_network_laws.proofs.PutOnce.{ArePutOnce, once-kept}
use Rattle.std.proofs.lemmas.Option.{same_Some as some_same}

-- ---- what hubs were handed in

-- This entry of a hub is a forward of an NPDU, with a place.
pub record IsForward (q : Posted) (f : Frame) : Type 0 where
  pub conn : ℕ
  pub call : q.entry.call ≡ Forward conn f.octets
  pub place : q.sent_at ≡ f.sent_at
  pub npdu : is_npdu f.octets ≡ true

-- The entry of hub j at this index is.
pub record ForwardAt (w : World) (j p : ℕ) (f : Frame) : Type 0 where
  pub hub : Hub
  pub here : hub_at w j ≡ Some hub
  pub posted : Posted
  pub at : slice_get hub.posted p ≡ Some posted
  pub is_forward : IsForward posted f

-- It had arrived on the way up of this link, which leads to hub j.
pub record HasSource (w : World) (j : ℕ) (f : Frame) : Type 0 where
  pub number : ℕ
  pub index : ℕ
  pub link : Link
  pub here : link_at w number ≡ Some link
  pub leads : link.to ≡ ToHub j
  pub stands : StandsAt link Up index f
  pub arrived : index < link.up.arrived

abbrev pub HaveSources : World → Type 0
HaveSources w = (j p : ℕ) (f : Frame) → ForwardAt w j p f → HasSource w j f

-- Two of them with one place are one entry of one hub.
abbrev pub ForwardedOnce : World → Type 0
ForwardedOnce w = (i p : ℕ) (f : Frame) (j q : ℕ) (g : Frame) → ForwardAt w i p f → ForwardAt w j q g → f.sent_at ≡ g.sent_at → (i ≡ j) × (p ≡ q)

pub record ForwardsFit (w : World) : Type 0 where
  pub sources : HaveSources w
  pub once : ForwardedOnce w

-- ---- moves that hand in none

source-on : (u v : World) → Grows u v → (j : ℕ) (f : Frame) → HasSource u j f → HasSource v j f
source-on u v g j f s =
    let there = g.grown s.number s.link s.here in
    let less = s.arrived in
    let more = (there.2.ways Up).arrived in
    record {
      number = s.number;
      index = s.index;
      link = there.0;
      here = there.1;
      leads = there.2.to ∙ s.leads;
      stands = stays-at s.link.up there.0.up (there.2.ways Up) s.index _ s.stands;
      arrived = omega arith;
    }

-- no forward is added
abbrev HandsNone : World → World → Type 0
HandsNone u v = Grows u v × ((j p : ℕ) (f : Frame) → ForwardAt v j p f → ForwardAt u j p f)

fit-kept : (u v : World) → HandsNone u v → ForwardsFit u → ForwardsFit v
fit-kept u v n fits = record {
  sources = λ j p f at. source-on u v n.0 j f (fits.sources j p f (n.1 j p f at));
  once = λ i p f j q g a b same. fits.once i p f j q g (n.1 i p f a) (n.1 j q g b) same;
}

hands-same : (u v : World) → Grows u v → v.hubs ≡ u.hubs → HandsNone u v
hands-same u v grown hubs = (grown, λ j p f at. record { hub = at.hub; here = ap (λ (hs : List Hub). slice_get hs j) (sym hubs) ∙ at.here; posted = at.posted; at = at.at; is_forward = at.is_forward })

abbrev is_forward : Call → Bool
is_forward (Forward c m) = true
is_forward call = false

-- ---- a call

-- what this call is, where it is the newest of a hub
pub record IsNewest (w : World) (j caller place : ℕ) (call : Call) (i p : ℕ) (f : Frame) : Type 0 where
  pub hub : Hub
  pub here : hub_at w j ≡ Some hub
  pub number : i ≡ j
  pub last : p ≡ length hub.posted
  pub is : IsForward (record { entry = entry_in w hub caller call; sent_at = place }) f

-- A forward once a call was made was there before, or is that call.
called-split : (w : World) (j caller place : ℕ) (call : Call) (i p : ℕ) (f : Frame) → ForwardAt (called j caller place call w) i p f → ForwardAt w i p f ⊎ IsNewest w j caller place call i p f
called-split w j caller place call i p f at = by (got-changed j (with_call w caller place call) w.hubs i at.hub at.here)
  where
    in_hub : (h : Hub) → j ≡ i → slice_get w.hubs i ≡ Some h → (slice_get h.posted p ≡ Some at.posted)
        ⊎ ((p ≡ length h.posted) × (at.posted ≡ record { entry = entry_in w h caller call; sent_at = place }))
        → ForwardAt w i p f ⊎ IsNewest w j caller place call i p f
    in_hub h same here (inl old) = inl (record { hub = h; here = here; posted = at.posted; at = old; is_forward = at.is_forward })
    in_hub h same here (inr (last, is)) = inr (record {
      hub = h;
      here = ap (slice_get w.hubs) same ∙ here;
      number = sym same;
      last = last;
      is = subst (λ (q : Posted). IsForward q f) is at.is_forward;
    })

    by : (slice_get w.hubs i ≡ Some at.hub) ⊎ ((h : Hub) × (j ≡ i) × (slice_get w.hubs i ≡ Some h) × (at.hub ≡ with_call w caller place call h)) → ForwardAt w i p f
        ⊎ IsNewest w j caller place call i p f
    by (inl here) = inl (record { hub = at.hub; here = here; posted = at.posted; at = at.at; is_forward = at.is_forward })
    by (inr (h, same, here, is)) =
        in_hub h same here (got-last_of h.posted (record { entry = entry_in w h caller call; sent_at = place }) p at.posted (ap (λ (g : Hub). slice_get g.posted p) (sym is) ∙ at.at))

none_new : (call : Call) (c : ℕ) (m : List ℕ) → is_forward call ≡ false → call ≡ Forward c m → ⊥
none_new call c m other is = no (sym other ∙ ap is_forward is)
  where
    no : false ≡ true → ⊥
    no h = cc

hands-called : (w : World) (j caller place : ℕ) (call : Call) → Grows w (called j caller place call w) → is_forward call ≡ false → HandsNone w (called j caller place call w)
hands-called w j caller place call grown other = (grown, λ i p f at. old i p f (called-split w j caller place call i p f at))
  where
    old : (i p : ℕ) (f : Frame) → ForwardAt w i p f ⊎ IsNewest w j caller place call i p f → ForwardAt w i p f
    old i p f (inl at) = at
    old i p f (inr new) = absurd (none_new call new.is.conn f.octets other new.is.call)

hands-then : (u v w : World) → HandsNone u v → HandsNone v w → HandsNone u w
hands-then u v w f g = (grows-then u v w f.0 g.0, λ j p x at. f.1 j p x (g.1 j p x at))

-- ---- a forward

-- how a link stands once its front has arrived and its side was told so
abbrev told_of : Event → Link → Link
told_of e x = record (record x { up = without_front x.up }) { side = record x.side { events = x.side.events ++ e ∷ [] } }

told-link : (B w : World) (l : ℕ) (e : Event) → w ≡ told l e (after_arrival l Up B) → (x : Link) → link_at B l ≡ Some x → link_at w l ≡ Some (told_of e x)
told-link B w l e is x here =
    ap (λ (v : World). link_at v l) is
    ∙ get-changed l (λ (y : Link). record y { side = record y.side { events = y.side.events ++ e ∷ [] } }) (after_arrival l Up B).links
    ∙ ap (option_map (λ (y : Link). record y { side = record y.side { events = y.side.events ++ e ∷ [] } }))
    (get-changed l (with_traffic Up without_front) B.links ∙ ap (option_map (with_traffic Up without_front)) here)

told-grows : (B w : World) (l : ℕ) (e : Event) → w ≡ told l e (after_arrival l Up B) → Grows B w
told-grows B w l e is = let v = after_arrival l Up B in subst (Grows B) (sym is) (grows-then B v (told l e v) (grows-arrives B l Up) (grows-side v l (λ s. record s { events = s.events ++ e ∷ [] })))

told-once : (B w : World) (l : ℕ) (e : Event) → w ≡ told l e (after_arrival l Up B) → ArePutOnce B → ArePutOnce w
told-once B w l e is once =
    let v = after_arrival l Up B in
    subst ArePutOnce (sym is) (once-kept B (told l e v) (none-then B v (told l e v) (none-arrives B l Up) (none-side v l (λ s. record s { events = s.events ++ e ∷ [] }))) once)

told-hubs : (B w : World) (l : ℕ) (e : Event) → w ≡ told l e (after_arrival l Up B) → w.hubs ≡ B.hubs
told-hubs B w l e is = ap (λ (v : World). v.hubs) is

same_message : (o p : List ℕ) (c d : ℕ) → Forward c o ≡ Forward d p → o ≡ p
same_message o p c d h = cc

fit-forwards : (B : World) → ArePutOnce B → ForwardsFit B → (w : World) (l j place : ℕ) (h : Hub) (k : Link) (m : List ℕ) (c : ℕ) → IsSide w l j h k
    → HasArrived w l Up (record { content = Message m; sent_at = place }) → HasJustCome B w l
    → ForwardsFit (called j l place (Forward c m) w)
fit-forwards B put_once at_first w l j place h k m c side came (e, start) = record {
  sources = λ i p f at. source_of i p f (called-split w j l place (Forward c m) i p f at);
  once = λ i p f o q g a b same. apart i p f o q g (called-split w j l place (Forward c m) i p f a) (called-split w j l place (Forward c m) o q g b) same;
}
  where
    then_w : World
    then_w = called j l place (Forward c m) w

    up_is : k.up ≡ came.on
    up_is = some_same k.up came.on (sym (ap (option_map (traffic Up)) side.link) ∙ came.found)

    -- what arrived
    stands_at : (f : Frame) → f.octets ≡ m → f.sent_at ≡ place → StandsAt k Up came.place f
    stands_at f octets sent =
        ap (λ (t : Traffic). slice_get t.put came.place) up_is ∙ came.here
        ∙ ap (λ (o : List ℕ). Some (record { content = Message o; sent_at = place })) (sym octets) ∙ ap (λ (p : ℕ). Some (record { content = Message f.octets; sent_at = p })) (sym sent)

    octets_of : (i p : ℕ) (f : Frame) → IsNewest w j l place (Forward c m) i p f → f.octets ≡ m
    octets_of i p f new = same_message f.octets m new.is.conn c (sym new.is.call)

    -- what was there before was so in B
    old_in : (i p : ℕ) (f : Frame) → ForwardAt w i p f → ForwardAt B i p f
    old_in i p f at = record { hub = at.hub; here = ap (λ (hs : List Hub). slice_get hs i) (sym (told-hubs B w l e start)) ∙ at.here; posted = at.posted; at = at.at; is_forward = at.is_forward }

    source_of : (i p : ℕ) (f : Frame) → ForwardAt w i p f ⊎ IsNewest w j l place (Forward c m) i p f → HasSource then_w i f
    source_of i p f (inl at) =
        let s = source-on B w (told-grows B w l e start) i f (at_first.sources i p f (old_in i p f at)) in
        record { number = s.number; index = s.index; link = s.link; here = s.here; leads = s.leads; stands = s.stands; arrived = s.arrived }
    source_of i p f (inr new) = record {
      number = l;
      index = came.place;
      link = k;
      here = side.link;
      leads = side.leads ∙ ap ToHub (sym new.number);
      stands = stands_at f (octets_of i p f new) (sym new.is.place);
      arrived = (let last : k.up.arrived ≡ suc came.place = ap (λ (t : Traffic). t.arrived) up_is ∙ came.last in omega arith);
    }

    -- no forward from before has the place of this one
    not_again : (i p : ℕ) (f : Frame) → ForwardAt w i p f → (g : Frame) → g.octets ≡ m → g.sent_at ≡ place → is_npdu g.octets ≡ true → f.sent_at ≡ g.sent_at → ⊥
    not_again i p f at g octets sent npdu same =
        let s = at_first.sources i p f (old_in i p f at) in
        let t = (told-grows B w l e start).grown s.number s.link s.here in
        let one = told-once B w l e start put_once s.number Up s.index f l Up came.place g
        (t.0, t.1, record { stands = stays-at s.link.up t.0.up (t.2.ways Up) s.index _ s.stands; npdu = at.is_forward.npdu; node = t.0.from; putter_is = refl })
        (k, side.link, record { stands = stands_at g octets sent; npdu = npdu; node = k.from; putter_is = refl }) same in
        let there : link_at B l ≡ Some s.link = ap (λ (n : ℕ). link_at B n) (sym one.link) ∙ s.here in
        let now : k ≡ told_of e s.link = some_same k (told_of e s.link) (sym side.link ∙ told-link B w l e start s.link there) in
        let next : k.up.arrived ≡ s.link.up.arrived + 1 = ap (λ (x : Link). x.up.arrived) now in
        let last : k.up.arrived ≡ suc came.place = ap (λ (t : Traffic). t.arrived) up_is ∙ came.last in
        let index : s.index ≡ came.place = one.index in
        let less = s.arrived in
        omega arith

    apart : (i p : ℕ) (f : Frame) (o q : ℕ) (g : Frame) → ForwardAt w i p f ⊎ IsNewest w j l place (Forward c m) i p f → ForwardAt w o q g ⊎ IsNewest w j l place (Forward c m) o q g
        → f.sent_at ≡ g.sent_at → (i ≡ o) × (p ≡ q)
    apart i p f o q g (inl a) (inl b) same = at_first.once i p f o q g (old_in i p f a) (old_in o q g b) same
    apart i p f o q g (inl a) (inr b) same = absurd (not_again i p f a g (octets_of o q g b) (sym b.is.place) b.is.npdu same)
    apart i p f o q g (inr a) (inl b) same = absurd (not_again o q g b f (octets_of i p f a) (sym a.is.place) a.is.npdu (sym same))
    apart i p f o q g (inr a) (inr b) same =
        let hub : a.hub ≡ b.hub = some_same a.hub b.hub (sym a.here ∙ b.here) in
        (a.number ∙ sym b.number, a.last ∙ ap (λ (x : Hub). length x.posted) hub ∙ sym b.last)

-- ---- the moves

hands-acts : (k : ℕ) (by : Option Arrival) → LetsActs k by (λ action. ⊤) HandsNone
hands-acts k by = record {
  none = λ w. hands-same w w (G.none w) refl;
  then = hands-then;
  each = record {
    puts = λ w name o known. hands-same w _ (G.each.puts w name o tt) (puts-hubs w name (Message o));
    closes = λ w name. hands-same w _ (G.each.closes w name) (puts-hubs w name Closed);
    takes = λ w name a is known. hands-same w _ (G.each.takes w name a is tt) refl;
    dials_as = λ w name uri t known leads. hands-same w _ (G.each.dials_as w name uri t tt leads) refl;
    fails_as = λ w name. hands-same w _ (G.each.fails_as w name) refl;
    refuses_it = λ w a is. hands-same w _ (G.each.refuses_it w a is) refl;
    delivers_one = λ w d a is known. hands-same w _ (G.each.delivers_one w d a is tt) refl;
  };
}
  where
    G : LetsActs k by (λ action. ⊤) Grows
    G = grows-acts k by

    puts-hubs : (u : World) (name : LinkName) (content : Content) → (puts_by k name content u).hubs ≡ u.hubs
    puts-hubs u name content = at_node (node_at u k)
      where
        at_hold : (o : Option Hold) → (with_found o (puts_on content) u).hubs ≡ u.hubs
        at_hold None = refl
        at_hold (Some h) = refl

        at_node : (o : Option Node) → (with_found o (λ m. with_found (hold_of name m) (puts_on content)) u).hubs ≡ u.hubs
        at_node None = refl
        at_node (Some m) = at_hold (hold_of name m)

-- Forwards stay so, in a step that began so.
pub forwards_fit : (B : World) (D : WorldStep) → ArePutOnce B → ForwardsFit B → LetsFrom B D (Keeps ForwardsFit)
forwards_fit B D put_once at_first = record {
  none = λ w fits. fits;
  then = λ u v w f g fits. g (f fits);
  each = record {
    over = λ w l. same w _ (G.each.over w l) refl;
    tells = λ w l j h k e other side. same w _ (G.each.tells w l j h k e other side) refl;
    empty = λ w l. same w _ (G.each.empty w l) refl;
    closes_down = λ w l. same w _ (G.each.closes_down w l) refl;
    hub_puts = λ w l j h k st o side wanted is. same w _ (G.each.hub_puts w l j h k st o side wanted is) refl;
    leaves = λ w l j h k c side conn. fit-kept w _ (hands-called w j l w.steps _ (G.each.leaves w l j h k c side conn) refl);
    stops = λ w j h here is. fit-kept w _ (hands-called w j _ w.steps StopCall (G.each.stops w j h here is) refl);
    asks = λ w l j p h k o who side came said is. fit-kept w _ (hands-called w j l p (Connect who) (G.each.asks w l j p h k o who side came said is) refl);
    joins = λ w l j p h k o who c replaced side came said is.
        let v = called j l p (Connect who) w in
        let u = with_side l (λ x. record x { conn = Some c }) v in
        fit-kept w _ (hands-then w v _ (hands-called w j l p (Connect who) (grows-same w v refl) refl) (hands-same v _ (grows-then v u _ (grows-side v l _) (grows-side u l _)) refl));
    forwards = λ w l j place h k m c side conn came said now fits. fit-forwards B put_once at_first w l j place h k m c side came now;
    takes = λ w l j h k c f side conn is. same w _ (G.each.takes w l j h k c f side conn is) refl;
    hears = λ w k n by e here come fit first fits. fit-kept w _ (lets-hears k by (λ action. ⊤) HandsNone (hands-acts k by) (record { now = w.now; event = e }) n w
        (hands-same w (goes_on_in k (record { now = w.now; event = e }) w) (grows-same w _ refl) refl) (λ action among. tt)) fits;
    forgets = λ w later. same w _ (G.each.forgets w later) refl;
    arrives = λ w l way k x here is. same w _ (G.each.arrives w l way k x here is) refl;
    loses = λ w l. same w _ (G.each.loses w l) refl;
  };
}
  where
    G : Lets D Grows
    G = grows D

    same : (u v : World) → Grows u v → v.hubs ≡ u.hubs → ForwardsFit u → ForwardsFit v
    same u v grown hubs = fit-kept u v (hands-same u v grown hubs)

-- What changes neither links nor hubs keeps that they fit.
pub forwards-same : (u v : World) → v.links ≡ u.links → v.hubs ≡ u.hubs → ForwardsFit u → ForwardsFit v
forwards-same u v links hubs = fit-kept u v (hands-same u v (grows-same u v links) hubs)
