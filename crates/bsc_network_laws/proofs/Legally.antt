-- After each step, the history of each hub is legal; and the connection of a side whose session isn't over hasn't left.
-- It serves clauses of functions of `laws`.
use Rattle.std.proofs.Common.{◌≡◌, ◌≢◌, ◌⊎◌, inl, inr, ℕ, ◌==◌, nat_lt, true, false, not, ◌&&◌, List, [], ◌∷◌, ◌++◌, length, Option, Some, None, refl, ap, sym, subst, ◌∙◌}
use Rattle.std.specs.Prelude.{◌+◌, slice_get, ⊤}
use Rattle.std.specs.Option.{option_map}
use Rattle.std.specs.List.{AllByRecursion}
use Rattle.std.proofs.lemmas.Bool.{and_from, ne_eqb}
use Rattle.bsc_octets.specs.declared.identity.Identity.{Identity}
use Rattle.bsc_octets.specs.Addresses.{same_vmac, zero_vmac, broadcast}
use Rattle.bsc_octets.specs.Forwarding.{has_route}
use Rattle.bsc_history.specs.declared.call.Call.{Call}
use Rattle.bsc_history.specs.declared.call.Call.TheVariants.{Connect, Forward, Leave, Stop as StopCall}
use Rattle.bsc_history.specs.declared.reply.Reply.TheVariants.{Joined}
use Rattle.bsc_history.specs.Entries.{made_by, moment}
use Rattle.bsc_history.specs.Ends.{is_leave}
use Rattle.bsc_history.specs.Legality.{Lawful, Legal, can_find, is_of, may_call}
use Rattle.bsc_history.specs.Replies.{is_stopped}
use Rattle.bsc_history.proofs.Lifting.{join_owned}
use Rattle.bsc_history.proofs.More.{Legal-more}
use Rattle.bsc_checks.specs.declared.place.Place.TheVariants.{HubPort}
use Rattle.bsc_checks.specs.Outcomes.{outcome_of}
use Rattle.bsc_accept.specs.declared.event.Event.TheVariants.{Joined as HasJoined}
use Rattle.bsc_accept.specs.declared.step.Step.TheVariants.{Ask, Up as GoesUp}
use Rattle.bsc_accept.specs.Past.{phase, standing}
use Rattle.bsc_script_laws.proofs.Judged.{routes}
use Rattle.bsc_node.specs.declared.link_name.LinkName.{LinkName}
use Rattle.bsc_network.specs.declared.world_step.WorldStep.{WorldStep}
use Rattle.bsc_network.specs.declared.way.Way.{Way}
use Rattle.bsc_network.specs.declared.way.Way.TheVariants.{Up, Down}
use Rattle.bsc_network.specs.declared.target.Target.TheVariants.{Hub as ToHub, Node as ToNode}
use Rattle.bsc_network.specs.declared.hold.Hold.{Hold}
use Rattle.bsc_network.specs.declared.arrival.Arrival.{Arrival}
use Rattle.bsc_network.specs.declared.parcel.Content.{Content}
use Rattle.bsc_network.specs.declared.parcel.Content.TheVariants.{Message, Closed}
use Rattle.bsc_network.specs.Traffic.{Traffic}
use Rattle.bsc_network.specs.Worlds.{World, Hub, HubSide, Node, Link, history, hub_at, node_at, link_at}
use Rattle.bsc_network.specs.Changes.{with_found, with_link, with_side, with_traffic}
use Rattle.bsc_network.specs.HubCalls.{called, entry_in, no_link, reply_in}
use Rattle.bsc_network.specs.NodeSides.{other_way, hold_of, puts_on, puts_by}
use Rattle.bsc_network.specs.Dialling.{dials, new_link}
use Rattle.bsc_network.proofs.Places.{all-changed_here, got-changed, got-last_of, get-changed, get-other, one_or_two}
use Rattle.bsc_network_laws.specs.Naming.{Cast, identity_in}
use Rattle.bsc_network_laws.specs.Connecting.{JoinByLinks, HubsAreLegal}
use Rattle.bsc_network_laws.proofs.Moves.{IsSide, HasArrived, IsSaid, EachWhole}
use Rattle.bsc_network_laws.proofs.Acting.{LetsActs, lets-hears}
use Rattle.bsc_network_laws.proofs.Sides.{side_of, with_call}
use Rattle.bsc_network_laws.proofs.Beside.{Keeps, KeepsGiven}
use Rattle.bsc_network_laws.proofs.Diallers.{IsFit, KnowsNames, asks_right}
use Rattle.bsc_network_laws.proofs.Named.{arrived-up}
use Rattle.bsc_network_laws.proofs.Joins.{SidesJoined}
use Rattle.bsc_network_laws.proofs.Callers.{history-called}
use Rattle.bsc_network_laws.proofs.Looks.{LooksFit}
use Rattle.bsc_network_laws.proofs.Numbering.{stays_own}
use Rattle.bsc_network_laws.proofs.Lawfully.{lawful_of, side_finds, not_worn, node_address}
use Rattle.bsc_accept.proofs.Common.{carries_by}
use Rattle.bsc_lemmas.proofs.Lists.{all-at}
use Rattle.std.proofs.lemmas.Option.{same_Some as some_same}

-- where the session of a side isn't over, its connection is its own, and hasn't left
abbrev pub SidesStay : World → Type 0
SidesStay w = (l j : ℕ) (h : Hub) (k : Link) (c : ℕ) → IsSide w l j h k → k.side.conn ≡ Some c → is_of (history h) l c ≡ true

pub record Legally (w : World) : Type 0 where
  pub legal : HubsAreLegal w
  pub stay : SidesStay w

-- what is known of connections beside
pub record KnowsSides (cast : Cast) (T place : ℕ) (w : World) : Type 0 where
  pub names : KnowsNames cast T place w
  pub by_links : JoinByLinks w
  pub looks : LooksFit w
  pub joined : SidesJoined w

-- ---- sides that stay

-- a side that has a connection, and whose session isn't over, was so before
abbrev Same : Link → Link → Type 0
Same x k = (x.to ≡ k.to) × ((c : ℕ) → k.side.conn ≡ Some c → x.side.conn ≡ Some c) × (k.side.is_over ≡ false → x.side.is_over ≡ false)

legal-same : (u v : World) → v.hubs ≡ u.hubs → ((l : ℕ) (k : Link) (c : ℕ) → link_at v l ≡ Some k → k.side.conn ≡ Some c → (x : Link) × (link_at u l ≡ Some x) × Same x k) → Keeps Legally u v
legal-same u v hubs before s = record {
  legal = subst (AllByRecursion (λ (h : Hub). Legal h.about (history h))) (sym hubs) s.legal;
  stay = λ l j h k c side conn.
      let x = before l k c side.link conn in
      s.stay l j h x.0 c (record { hub = ap (λ (hs : List Hub). slice_get hs j) (sym hubs) ∙ side.hub; link = x.1; leads = x.2.0 ∙ side.leads; going = x.2.2 side.going }) (x.2.1 c conn);
}

-- a change of neither hubs nor links
pub legally-same : (u v : World) → v.hubs ≡ u.hubs → v.links ≡ u.links → Keeps Legally u v
legally-same u v hubs links = legal-same u v hubs (λ l k c at conn. (k, ap (λ (ls : List Link). slice_get ls l) (sym links) ∙ at, (refl, λ c is. is, λ going. going)))

legal-link : (w : World) (i : ℕ) (f : Link → Link) → ((x : Link) → Same x (f x)) → Keeps Legally w (with_link i f w)
legal-link w i f same = legal-same w (with_link i f w) refl (λ l k c at conn. by l k (got-changed i f w.links l k at))
  where
    by : (l : ℕ) (k : Link) → (link_at w l ≡ Some k) ⊎ ((x : Link) × (i ≡ l) × (link_at w l ≡ Some x) × (k ≡ f x)) → (x : Link) × (link_at w l ≡ Some x) × Same x k
    by l k (inl here) = (k, here, (refl, λ c is. is, λ going. going))
    by l k (inr (x, is, here, changed)) = (x, here, subst (Same x) (sym changed) (same x))

legal-way : (w : World) (l : ℕ) (way : Way) (f : Traffic → Traffic) → Keeps Legally w (with_link l (with_traffic way f) w)
legal-way w l Up f = legal-link w l (with_traffic Up f) (λ x. (refl, λ c is. is, λ going. going))
legal-way w l Down f = legal-link w l (with_traffic Down f) (λ x. (refl, λ c is. is, λ going. going))

legal-side : (w : World) (l : ℕ) (f : HubSide → HubSide) → ((s : HubSide) → ((f s).conn ≡ s.conn) × (s.is_over ≡ (f s).is_over)) → Keeps Legally w (with_side l f w)
legal-side w l f same = legal-link w l (λ link. record link { side = f link.side }) (λ x. (refl, λ c is. sym (same x.side).0 ∙ is, λ going. (same x.side).1 ∙ going))

legal-over : (w : World) (l : ℕ) → Keeps Legally w (with_side l (λ s. record s { is_over = true }) w)
legal-over w l = legal-link w l (λ link. record link { side = record link.side { is_over = true } }) (λ x. (refl, λ c is. is, λ going. absurd (not_so going)))
  where
    not_so : true ≡ false → ⊥
    not_so e = cc

legal-puts_by : (w : World) (k : ℕ) (name : LinkName) (content : Content) → Keeps Legally w (puts_by k name content w)
legal-puts_by w k name content = at_node (node_at w k)
  where
    at_hold : (o : Option Hold) → Keeps Legally w (with_found o (puts_on content) w)
    at_hold None s = s
    at_hold (Some h) s = legal-way w h.link (other_way h.hears) _ s

    at_node : (o : Option Node) → Keeps Legally w (with_found o (λ n. with_found (hold_of name n) (puts_on content)) w)
    at_node None s = s
    at_node (Some n) s = at_hold (hold_of name n) s

legal-dials : (w : World) (x : Link) → x.side.conn ≡ None → (v : World) → v.hubs ≡ w.hubs → v.links ≡ w.links ++ x ∷ [] → Keeps Legally w v
legal-dials w x none v hubs links = legal-same w v hubs (λ l y c at conn. by l y c conn (got-last_of w.links x l y (ap (λ (ls : List Link). slice_get ls l) (sym links) ∙ at)))
  where
    not_both : (c : ℕ) → None ≡ Some c → ⊥
    not_both c e = cc

    by : (l : ℕ) (y : Link) (c : ℕ) → y.side.conn ≡ Some c → (slice_get w.links l ≡ Some y) ⊎ ((l ≡ length w.links) × (y ≡ x)) → (z : Link) × (link_at w l ≡ Some z) × Same z y
    by l y c conn (inl here) = (y, here, (refl, λ c is. is, λ going. going))
    by l y c conn (inr (last, is)) = absurd (not_both c (sym none ∙ ap (λ (z : Link). z.side.conn) (sym is) ∙ conn))

lets_acts : (k : ℕ) (by : Option Arrival) → LetsActs k by (λ action. ⊤) (Keeps Legally)
lets_acts k by = record {
  none = λ w s. s;
  then = λ u v w f g s. g (f s);
  each = record {
    puts = λ w name o known. legal-puts_by w k name (Message o);
    closes = λ w name. legal-puts_by w k name Closed;
    takes = λ w name a is known. legally-same w _ refl refl;
    dials_as = λ w name uri t known leads. legal-dials w (new_link w k t) refl (dials k name t w) refl refl;
    fails_as = λ w name. legally-same w _ refl refl;
    refuses_it = λ w a is. legal-way w a.link (other_way a.way) _;
    delivers_one = λ w d a is known. legally-same w _ refl refl;
  };
}

-- ---- a call

-- the histories stay legal by a lawful entry
legal-called : (w : World) (j caller place : ℕ) (call : Call) → ((h : Hub) → hub_at w j ≡ Some h → Lawful h.about (moment (history h) (entry_in w h caller call))) → HubsAreLegal w
    → HubsAreLegal (called j caller place call w)
legal-called w j caller place call lawful =
    all-changed_here (λ (h : Hub). Legal h.about (history h)) j (with_call w caller place call) w.hubs (λ h here legal.
    subst (Legal h.about) (sym (history-called w caller place call h)) (Legal-more h.about (history h) (entry_in w h caller call) legal (lawful h here)))

-- A lawful call is made. Of a side that isn't over then, the connection was its own before, and the call isn't the side's Leave;
-- or it is its own by this call.
legal-calls : (w v : World) (j caller place : ℕ) (call : Call) → v.hubs ≡ (called j caller place call w).hubs
    → ((h : Hub) → hub_at w j ≡ Some h → Lawful h.about (moment (history h) (entry_in w h caller call)))
    → ((l i : ℕ) (g : Hub) (k : Link) (c : ℕ) → IsSide v l i g k → k.side.conn ≡ Some c → ((x : Link) × (link_at w l ≡ Some x) × Same x k × ((caller == l) ≡ true → is_leave c call ≡ false))
    ⊎ (is_of (history g) l c ≡ true))
    → Keeps Legally w v
legal-calls w v j caller place call hubs lawful before s = record {
  legal = subst (AllByRecursion (λ (h : Hub). Legal h.about (history h))) (sym hubs) (legal-called w j caller place call lawful s.legal);
  stay = λ l i g k c side conn. by l i g k c side conn (before l i g k c side conn);
}
  where
    at_hub : (l i : ℕ) (g : Hub) (k x : Link) (c : ℕ) → IsSide v l i g k → k.side.conn ≡ Some c → link_at w l ≡ Some x → Same x k → ((caller == l) ≡ true → is_leave c call ≡ false)
        → (hub_at w i ≡ Some g) ⊎ ((y : Hub) × (j ≡ i) × (hub_at w i ≡ Some y) × (g ≡ with_call w caller place call y)) → is_of (history g) l c ≡ true
    at_hub l i g k x c side conn here same stays (inl at) =
        s.stay l i g x c (record { hub = at; link = here; leads = same.0 ∙ side.leads; going = same.2 side.going }) (same.1 c conn)
    at_hub l i g k x c side conn here same stays (inr (y, is, at, changed)) =
        let of : is_of (history y) l c ≡ true = s.stay l i y x c (record { hub = at; link = here; leads = same.0 ∙ side.leads; going = same.2 side.going }) (same.1 c conn) in
        let legal : Legal y.about (history y) = all-at (λ (h : Hub). Legal h.about (history h)) w.hubs i y s.legal at in
        let now = stays_own y.about (history y) (entry_in w y caller call) l c legal (lawful y (ap (slice_get w.hubs) is ∙ at)) stays of in
        ap (λ (z : Hub). is_of (history z) l c) changed ∙ ap (λ H. is_of H l c) (history-called w caller place call y) ∙ now

    by : (l i : ℕ) (g : Hub) (k : Link) (c : ℕ) → IsSide v l i g k → k.side.conn ≡ Some c
        → ((x : Link) × (link_at w l ≡ Some x) × Same x k × ((caller == l) ≡ true → is_leave c call ≡ false)) ⊎ (is_of (history g) l c ≡ true) → is_of (history g) l c ≡ true
    by l i g k c side conn (inl (x, here, same, stays)) = at_hub l i g k x c side conn here same stays
        (got-changed j (with_call w caller place call) w.hubs i g (ap (λ (hs : List Hub). slice_get hs i) (sym hubs) ∙ side.hub))
    by l i g k c side conn (inr of) = of

-- a call by which no side leaves or joins
legal-quiet : (w : World) (j caller place : ℕ) (call : Call) → ((h : Hub) → hub_at w j ≡ Some h → Lawful h.about (moment (history h) (entry_in w h caller call)))
    → ((c : ℕ) → is_leave c call ≡ false) → Keeps Legally w (called j caller place call w)
legal-quiet w j caller place call lawful stays =
    legal-calls w (called j caller place call w) j caller place call refl lawful (λ l i g k c side conn. inl (k, side.link, (refl, λ d is. is, λ going. going), λ mine. stays c))

-- ---- who may call

module _ (cast : Cast) (fit : IsFit cast) (T place : ℕ) where
  -- the entry of a call that may be made at the hub of a side is lawful
  lawful_at : (w : World) (l j : ℕ) (h : Hub) (k : Link) (caller : ℕ) (call : Call) → KnowsSides cast T place w → IsSide w l j h k → may_call h.about (history h) caller call ≡ true
      → (g : Hub) → hub_at w j ≡ Some g → Lawful g.about (moment (history g) (entry_in w g caller call))
  lawful_at w l j h k caller call m side may g here =
      lawful_of w j g caller call here m.by_links m.names.0.0.sides m.looks (subst (λ (x : Hub). may_call x.about (history x) caller call ≡ true) (some_same h g (sym side.hub ∙ here)) may)

  may_connect : (w : World) (l j p : ℕ) (h : Hub) (k : Link) (m : List ℕ) (who : Identity) → KnowsSides cast T place w → IsSide w l j h k
      → HasArrived w l Up (record { content = Message m; sent_at = p }) → IsSaid h k m (Ask who)
      → may_call h.about (history h) l (Connect who) ≡ true
  may_connect w l j p h k m who known side arrival said =
      let own = asks_right (identity_in cast (ToNode k.from)) m p (HubPort (phase said.events)) h.about.hub.max_bvlc (standing said.events) who (fit k.from) said.is
      (arrived-up cast w l p k m side.link arrival known.names.1) in
      let address = node_address who (fit k.from who own) in
      and_from (not (same_vmac who.vmac zero_vmac) && not (same_vmac who.vmac broadcast)) (nat_lt (length (history h)) h.about.limits.calls)
      (and_from (not (same_vmac who.vmac zero_vmac)) (not (same_vmac who.vmac broadcast)) address.0 address.1) (not_worn h said.fresh)

  may_forward : (w : World) (l j : ℕ) (h : Hub) (k : Link) (m : List ℕ) (c : ℕ) → Legally w → IsSide w l j h k → k.side.conn ≡ Some c → IsSaid h k m GoesUp
      → may_call h.about (history h) l (Forward c m) ≡ true
  may_forward w l j h k m c s side conn said =
      let carried = carries_by (standing said.events) (outcome_of m (HubPort (phase said.events)) h.about.hub.max_bvlc) said.is in
      let route : has_route m ≡ true = routes m (phase said.events) h.about.hub.max_bvlc carried.0 carried.1 in
      and_from (is_of (history h) l c && has_route m) (nat_lt (length (history h)) h.about.limits.calls)
      (and_from (is_of (history h) l c) (has_route m) (s.stay l j h k c side conn) route) (not_worn h said.fresh)

  may_leave : (w : World) (l j : ℕ) (h : Hub) (k : Link) (c : ℕ) → KnowsSides cast T place w → Legally w → IsSide w l j h k → k.side.conn ≡ Some c
      → may_call h.about (history h) l (Leave c k.side.taken k.side.empties) ≡ true
  may_leave w l j h k c known s side conn =
      let legal : Legal h.about (history h) = all-at (λ (x : Hub). Legal x.about (history x)) w.hubs j h s.legal side.hub in
      and_from (is_of (history h) l c) (can_find h.about (history h) c k.side.taken) (s.stay l j h k c side conn)
      (side_finds w l j h k c side legal (known.joined l j h k c (side_of w l j h k side) conn) known.by_links known.names.0.0.sides known.looks)

  -- ---- the moves

  legal-leaves : (w : World) (l j : ℕ) (h : Hub) (k : Link) (c : ℕ) → IsSide w l j h k → k.side.conn ≡ Some c → KnowsSides cast T place w
      → Keeps Legally w (with_side l (λ s. record s { is_over = true }) (called j l w.steps (Leave c k.side.taken k.side.empties) w))
  legal-leaves w l j h k c side conn known s =
      legal-calls w v j l w.steps call refl (lawful_at w l j h k l call known side (may_leave w l j h k c known s side conn)) (λ i n g x d at has. inl (by i n g x d (one_or_two l i) at)) s
    where
      call : Call
      call = Leave c k.side.taken k.side.empties

      over : Link → Link
      over link = record link { side = record link.side { is_over = true } }

      v : World
      v = with_side l (λ s. record s { is_over = true }) (called j l w.steps call w)

      was_over : (o : Option Link) (x : Link) → option_map over o ≡ Some x → x.side.is_over ≡ false → ⊥
      was_over None x h going = cc
      was_over (Some y) x h going = no (ap (λ (z : Link). z.side.is_over) (some_same (over y) x h) ∙ going)
        where
          no : true ≡ false → ⊥
          no e = cc

      by : (i n : ℕ) (g : Hub) (x : Link) (d : ℕ) → (l ≡ i) ⊎ (l ≢ i) → IsSide v i n g x → (y : Link) × (link_at w i ≡ Some y) × Same y x × ((l == i) ≡ true → is_leave d call ≡ false)
      by i n g x d (inl same) at = absurd (was_over (link_at w l) x (sym (get-changed l over w.links) ∙ ap (slice_get v.links) same ∙ at.link) at.going)
      by i n g x d (inr apart) at = (x, sym (get-other l over w.links i apart) ∙ at.link, (refl, λ e is. is, λ going. going), λ mine. absurd (no (sym (ne_eqb l i apart) ∙ mine)))
        where
          no : false ≡ true → ⊥
          no e = cc

  legal-joins : (w : World) (l j p : ℕ) (h : Hub) (k : Link) (m : List ℕ) (who : Identity) (c : ℕ) (replaced : Option ℕ) → IsSide w l j h k
      → HasArrived w l Up (record { content = Message m; sent_at = p }) → IsSaid h k m (Ask who)
      → reply_in w h (Connect who) ≡ Joined c replaced → KnowsSides cast T place w → Keeps Legally w (with_side l (λ s. record s { conn = Some c }) (called j l p (Connect who) w))
  legal-joins w l j p h k m who c replaced side arrival said is known s =
      legal-calls w v j l p (Connect who) refl (lawful_at w l j h k l (Connect who) known side (may_connect w l j p h k m who known side arrival said))
      (λ i n g x d at has. by i n g x d (one_or_two l i) at has) s
    where
      joined : Link → Link
      joined link = record link { side = record link.side { conn = Some c } }

      v : World
      v = with_side l (λ s. record s { conn = Some c }) (called j l p (Connect who) w)

      new : is_of (history (with_call w l p (Connect who) h)) l c ≡ true
      new =
          ap (λ H. is_of H l c) (history-called w l p (Connect who) h)
          ∙ join_owned (history h) (entry_in w h l (Connect who)) (record { number = c; caller = l; who = who }) (ap (made_by l (Connect who)) is)

      of_new : (i n : ℕ) (g : Hub) (x : Link) (d : ℕ) → l ≡ i → IsSide v i n g x → x.side.conn ≡ Some d → is_of (history g) i d ≡ true
      of_new i n g x d same at has =
          let link : joined k ≡ x = some_same (joined k) x (sym (get-changed l joined w.links ∙ ap (option_map joined) side.link) ∙ ap (slice_get v.links) same ∙ at.link) in
          let number : j ≡ n = same_hub j n (sym side.leads ∙ ap (λ (y : Link). y.to) link ∙ at.leads) in
          let hub : with_call w l p (Connect who) h ≡ g =
          some_same (with_call w l p (Connect who) h) g
          (sym (get-changed j (with_call w l p (Connect who)) w.hubs ∙ ap (option_map (with_call w l p (Connect who))) side.hub) ∙ ap (slice_get v.hubs) number ∙ at.hub) in
          let conn : c ≡ d = some_same c d (ap (λ (y : Link). y.side.conn) link ∙ has) in
          subst (λ e. is_of (history g) i e ≡ true) conn (subst (λ e. is_of (history g) e c ≡ true) same (subst (λ (y : Hub). is_of (history y) l c ≡ true) hub new))
        where
          same_hub : (a b : ℕ) → ToHub a ≡ ToHub b → a ≡ b
          same_hub a b e = cc

      by : (i n : ℕ) (g : Hub) (x : Link) (d : ℕ) → (l ≡ i) ⊎ (l ≢ i) → IsSide v i n g x → x.side.conn ≡ Some d
          → ((y : Link) × (link_at w i ≡ Some y) × Same y x × ((l == i) ≡ true → is_leave d (Connect who) ≡ false)) ⊎ (is_of (history g) i d ≡ true)
      by i n g x d (inl same) at has = inr (of_new i n g x d same at has)
      by i n g x d (inr apart) at has = inl (x, sym (get-other l joined w.links i apart) ∙ at.link, (refl, λ e is. is, λ going. going), λ mine. refl)

  -- Each history stays legal.
  pub legally : (D : WorldStep) → EachWhole D (KeepsGiven (KnowsSides cast T place) Legally)
  legally D = record {
    over = λ w l j h k side none m. legal-over w l;
    tells = λ w l j h k e other side m. legal-side w l _ (λ s. (refl, refl));
    empty = λ w l m. legal-side w l _ (λ s. (refl, refl));
    closes_down = λ w l m. legal-way w l Down _;
    hub_puts = λ w l j h k st o side wanted is m. legal-way w l Down _;
    leaves = λ w l j h k c side conn m. legal-leaves w l j h k c side conn m;
    stops = λ w j h here is m.
        legal-quiet w j no_link w.steps StopCall
        (λ g at. lawful_of w j g no_link StopCall at m.by_links m.names.0.0.sides m.looks (ap (λ (x : Hub). not (is_stopped (history x))) (some_same g h (sym at ∙ here)) ∙ ap not is)) (λ c. refl);
    asks = λ w l j p h k o who side arrival said is m.
        legal-quiet w j l p (Connect who) (lawful_at w l j h k l (Connect who) m side (may_connect w l j p h k o who m side arrival said)) (λ c. refl);
    joins = λ w l j p h k o who c replaced side arrival said is m s.
        legal-side (with_side l (λ x. record x { conn = Some c }) (called j l p (Connect who) w)) l (λ x. record x { events = x.events ++ HasJoined ∷ [] }) (λ x. (refl, refl))
        (legal-joins w l j p h k o who c replaced side arrival said is m s);
    forwards = λ w l j p h k o c side conn arrival said m s.
        legal-quiet w j l p (Forward c o) (lawful_at w l j h k l (Forward c o) m side (may_forward w l j h k o c s side conn said)) (λ d. refl) s;
    takes = λ w l j h k c f side conn is m s. legal-way (with_side l (λ x. record x { taken = x.taken + 1 }) w) l Down _ (legal-side w l (λ x. record x { taken = x.taken + 1 }) (λ x. (refl, refl)) s);
    hears = λ w k n by e here come fits m. lets-hears k by (λ action. ⊤) (Keeps Legally) (lets_acts k by) _ n w (legally-same w _ refl refl) (λ action among. tt);
    forgets = λ w later m. legally-same w _ refl refl;
    arrives = λ w l way k x here is m. legal-way w l way _;
    loses = λ w l m. legal-link w l (λ link. record link { is_lost = true }) (λ x. (refl, λ c is. is, λ going. going));
  }
