-- After each step, where a hub's side has a connection, that connection joined the hub by the number of the side's link.
-- It serves clauses of functions of `laws`.
use Rattle.std.proofs.Common.{◌≡◌, ◌⊎◌, inl, inr, ℕ, ◌==◌, Bool, true, false, ◌||◌, ◌&&◌, List, [], ◌∷◌, ◌++◌, Option, Some, None, option_to_list, refl, ap, sym, subst, ◌∙◌}
use Rattle.std.specs.Prelude.{◌+◌, length, slice_get, ⊤}
use Rattle.std.specs.List.{list_any}
use Rattle.std.specs.Option.{option_map}
use Rattle.bsc_octets.specs.declared.identity.Identity.{Identity}
use Rattle.bsc_history.specs.declared.call.Call.{Call}
use Rattle.bsc_history.specs.declared.call.Call.TheVariants.{Connect}
use Rattle.bsc_history.specs.declared.reply.Reply.{Reply}
use Rattle.bsc_history.specs.declared.reply.Reply.TheVariants.{Joined}
use Rattle.bsc_history.specs.Entries.{made_by}
use Rattle.bsc_history.specs.Ends.{joined}
use Rattle.bsc_accept.specs.declared.event.Event.TheVariants.{Joined as HasJoined}
use Rattle.bsc_node.specs.declared.link_name.LinkName.{LinkName}
use Rattle.bsc_network.specs.declared.world_step.WorldStep.{WorldStep}
use Rattle.bsc_network.specs.declared.timed_step.TimedStep.{TimedStep}
use Rattle.bsc_network.specs.Networks.{makes}
use Rattle.bsc_network.specs.declared.way.Way.{Way}
use Rattle.bsc_network.specs.declared.way.Way.TheVariants.{Up, Down}
use Rattle.bsc_network.specs.declared.target.Target.TheVariants.{Hub as ToHub}
use Rattle.bsc_network.specs.declared.hold.Hold.{Hold}
use Rattle.bsc_network.specs.declared.arrival.Arrival.{Arrival}
use Rattle.bsc_network.specs.declared.parcel.Content.{Content}
use Rattle.bsc_network.specs.declared.parcel.Content.TheVariants.{Message, Closed}
use Rattle.bsc_network.specs.Traffic.{Traffic}
use Rattle.bsc_network.specs.Worlds.{World, Hub, HubSide, Node, Link, history, hub_at, node_at, link_at}
use Rattle.bsc_network.specs.Changes.{with_found, with_link, with_side, with_traffic}
use Rattle.bsc_network.specs.HubCalls.{called, reply_in}
use Rattle.bsc_network.specs.NodeSides.{other_way, hold_of, puts_on, puts_by}
use Rattle.bsc_network.specs.Dialling.{dials, new_link}
use Rattle.bsc_network.proofs.Places.{got-changed, got-last_of, get-changed}
use Rattle.bsc_network_laws.specs.Connecting.{is_conn, HasJoinedBy}
use Rattle.bsc_network_laws.proofs.Moves.{HasSide, IsSide, Lets}
use Rattle.bsc_network_laws.proofs.Acting.{LetsActs, lets-hears}
use Rattle.bsc_network_laws.proofs.Sides.{with_call}
use Rattle.bsc_network_laws.proofs.Stepping.{begun, lets-makes}
use Rattle.bsc_network_laws.proofs.Callers.{joined-called as history-more}
use Rattle.bsc_lemmas.proofs.Booleans.{eq_self as same_number}
use Rattle.bsc_network.proofs.Common.{same_hub}
use Rattle.std.proofs.lemmas.Bool.{or_right as or-right}
use Rattle.std.proofs.lemmas.Option.{same_Some as some_same}

-- Where a side has a connection, it joined by its link.
abbrev pub SidesJoined : World → Type 0
SidesJoined w = (l j : ℕ) (h : Hub) (k : Link) (c : ℕ) → HasSide w l j h k → k.side.conn ≡ Some c → HasJoinedBy h l c

abbrev Keep : World → World → Type 0
Keep u v = SidesJoined u → SidesJoined v

-- ---- a link is changed

joined-link : (w : World) (i : ℕ) (f : Link → Link) → ((x : Link) → (f x).to ≡ x.to) → ((x : Link) → (f x).side.conn ≡ x.side.conn) → Keep w (with_link i f w)
joined-link w i f to same s l j h k c side conn = by (got-changed i f w.links l k side.link)
  where
    by : (link_at w l ≡ Some k) ⊎ ((x : Link) × (i ≡ l) × (link_at w l ≡ Some x) × (k ≡ f x)) → HasJoinedBy h l c
    by (inl at) = s l j h k c (record { hub = side.hub; link = at; leads = side.leads }) conn
    by (inr (x, is, at, changed)) =
        s l j h x c (record { hub = side.hub; link = at; leads = sym (to x) ∙ ap (λ (y : Link). y.to) (sym changed) ∙ side.leads })
        (sym (same x) ∙ ap (λ (y : Link). y.side.conn) (sym changed) ∙ conn)

joined-way : (w : World) (l : ℕ) (way : Way) (f : Traffic → Traffic) → Keep w (with_link l (with_traffic way f) w)
joined-way w l Up f = joined-link w l (with_traffic Up f) (λ x. refl) (λ x. refl)
joined-way w l Down f = joined-link w l (with_traffic Down f) (λ x. refl) (λ x. refl)

joined-side : (w : World) (l : ℕ) (f : HubSide → HubSide) → ((s : HubSide) → (f s).conn ≡ s.conn) → Keep w (with_side l f w)
joined-side w l f same = joined-link w l (λ link. record link { side = f link.side }) (λ x. refl) (λ x. same x.side)

pub joined-same : (u v : World) → v.links ≡ u.links → v.hubs ≡ u.hubs → Keep u v
joined-same u v links hubs s l j h k c side conn =
    s l j h k c (record { hub = ap (λ (hs : List Hub). slice_get hs j) (sym hubs) ∙ side.hub; link = ap (λ (ls : List Link). slice_get ls l) (sym links) ∙ side.link; leads = side.leads }) conn

-- ---- a hub has one entry more

or-more : (b x y : Bool) → (x ≡ true → y ≡ true) → (b || x) ≡ true → (b || y) ≡ true
or-more true x y f h = refl
or-more false x y f h = f h

any-more : {A : Type 0} (f : A → Bool) (xs ys : List A) → list_any f xs ≡ true → list_any f (xs ++ ys) ≡ true
any-more f [] ys h = cc
any-more f (x ∷ xs) ys h = or-more (f x) (list_any f xs) (list_any f (xs ++ ys)) (any-more f xs ys) h

any-last : {A : Type 0} (f : A → Bool) (xs : List A) (y : A) → f y ≡ true → list_any f (xs ++ y ∷ []) ≡ true
any-last f [] y h = ap (λ b. b || false) h
any-last f (x ∷ xs) y h = or-right (f x) (list_any f (xs ++ y ∷ [])) (any-last f xs y h)

-- what joined before has joined still
joined-before : (w : World) (caller place : ℕ) (call : Call) (h : Hub) (l c : ℕ) → HasJoinedBy h l c → HasJoinedBy (with_call w caller place call h) l c
joined-before w caller place call h l c before = ap (list_any (is_conn l c)) (history-more w caller place call h) ∙ any-more (is_conn l c) (joined (history h)) _ before

joined-called : (w : World) (i caller place : ℕ) (call : Call) → Keep w (called i caller place call w)
joined-called w i caller place call s l j h k c side conn = by (got-changed i (with_call w caller place call) w.hubs j h side.hub)
  where
    by : (hub_at w j ≡ Some h) ⊎ ((x : Hub) × (i ≡ j) × (hub_at w j ≡ Some x) × (h ≡ with_call w caller place call x)) → HasJoinedBy h l c
    by (inl at) = s l j h k c (record { hub = at; link = side.link; leads = side.leads }) conn
    by (inr (x, is, at, changed)) =
        subst (λ (y : Hub). HasJoinedBy y l c) (sym changed) (joined-before w caller place call x l c (s l j x k c (record { hub = at; link = side.link; leads = side.leads }) conn))

-- ---- a peer joins

is_itself : (l c : ℕ) (who : Identity) → is_conn l c (record { number = c; caller = l; who = who }) ≡ true
is_itself l c who = ap (λ b. b && (l == l)) (same_number c) ∙ same_number l

joined-now : (w : World) (l place c : ℕ) (replaced : Option ℕ) (who : Identity) (h : Hub) → reply_in w h (Connect who) ≡ Joined c replaced → HasJoinedBy (with_call w l place (Connect who) h) l c
joined-now w l place c replaced who h is =
    ap (list_any (is_conn l c)) (history-more w l place (Connect who) h ∙ ap (λ (r : Reply). joined (history h) ++ option_to_list (made_by l (Connect who) r)) is)
    ∙ any-last (is_conn l c) (joined (history h)) (record { number = c; caller = l; who = who }) (is_itself l c who)

joined-joins : (w : World) (l j place : ℕ) (h : Hub) (k : Link) (who : Identity) (c : ℕ) (replaced : Option ℕ) → IsSide w l j h k → reply_in w h (Connect who) ≡ Joined c replaced
    → Keep w (with_side l (λ s. record s { conn = Some c }) (called j l place (Connect who) w))
joined-joins w l j place h k who c replaced side is s m i g x d at conn = by (got-changed l (λ (y : Link). record y { side = record y.side { conn = Some c } }) w.links m x at.link)
  where
    v : World
    v = called j l place (Connect who) w

    by : (link_at w m ≡ Some x) ⊎ ((y : Link) × (l ≡ m) × (link_at w m ≡ Some y) × (x ≡ record y { side = record y.side { conn = Some c } })) → HasJoinedBy g m d
    by (inl here) = joined-called w j l place (Connect who) s m i g x d (record { hub = at.hub; link = here; leads = at.leads }) conn
    by (inr (y, same, here, changed)) =
        let link : k ≡ y = some_same k y (sym side.link ∙ ap (slice_get w.links) same ∙ here) in
        let leads : ToHub j ≡ ToHub i = sym side.leads ∙ ap (λ (z : Link). z.to) link ∙ ap (λ (z : Link). z.to) (sym changed) ∙ at.leads in
        let number : j ≡ i = same_hub j i leads in
        let hub : with_call w l place (Connect who) h ≡ g =
        some_same (with_call w l place (Connect who) h) g
        (sym (get-changed j (with_call w l place (Connect who)) w.hubs ∙ ap (option_map (with_call w l place (Connect who))) side.hub) ∙ ap (slice_get v.hubs) number ∙ at.hub) in
        let conn_is : c ≡ d = some_same c d (ap (λ (z : Link). z.side.conn) (sym changed) ∙ conn) in
        subst (λ (n : ℕ). HasJoinedBy g n d) same (subst (λ (n : ℕ). HasJoinedBy g l n) conn_is (subst (λ (z : Hub). HasJoinedBy z l c) hub (joined-now w l place c replaced who h is)))

-- ---- a node's actions

joined-puts_by : (w : World) (k : ℕ) (name : LinkName) (content : Content) → Keep w (puts_by k name content w)
joined-puts_by w k name content = at_node (node_at w k)
  where
    at_hold : (o : Option Hold) → Keep w (with_found o (puts_on content) w)
    at_hold None s = s
    at_hold (Some h) s = joined-way w h.link (other_way h.hears) _ s

    at_node : (o : Option Node) → Keep w (with_found o (λ n. with_found (hold_of name n) (puts_on content)) w)
    at_node None s = s
    at_node (Some n) s = at_hold (hold_of name n) s

joined-longer : (w : World) (x : Link) → x.side.conn ≡ None → Keep w (record w { links = w.links ++ x ∷ [] })
joined-longer w x none s l j h k c side conn = by (got-last_of w.links x l k side.link)
  where
    not_both : None ≡ Some c → ⊥
    not_both e = cc

    by : (slice_get w.links l ≡ Some k) ⊎ ((l ≡ length w.links) × (k ≡ x)) → HasJoinedBy h l c
    by (inl at) = s l j h k c (record { hub = side.hub; link = at; leads = side.leads }) conn
    by (inr (last, is)) = absurd (not_both (sym none ∙ ap (λ (y : Link). y.side.conn) (sym is) ∙ conn))

lets_acts : (k : ℕ) (by : Option Arrival) → LetsActs k by (λ action. ⊤) Keep
lets_acts k by = record {
  none = λ w s. s;
  then = λ u v w f g s. g (f s);
  each = record {
    puts = λ w name o known. joined-puts_by w k name (Message o);
    closes = λ w name. joined-puts_by w k name Closed;
    takes = λ w name a is known. joined-same w _ refl refl;
    dials_as = λ w name uri t known leads s. joined-same (record w { links = w.links ++ new_link w k t ∷ [] }) (dials k name t w) refl refl (joined-longer w (new_link w k t) refl s);
    fails_as = λ w name. joined-same w _ refl refl;
    refuses_it = λ w a is. joined-way w a.link (other_way a.way) _;
    delivers_one = λ w d a is known. joined-same w _ refl refl;
  };
}

-- Where a side has a connection, it stays one that joined by its link.
pub lets : (D : WorldStep) → Lets D Keep
lets D = record {
  none = λ w s. s;
  then = λ u v w f g s. g (f s);
  each = record {
    over = λ w l. joined-side w l _ (λ s. refl);
    tells = λ w l j h k e other side. joined-side w l _ (λ s. refl);
    empty = λ w l. joined-side w l _ (λ s. refl);
    closes_down = λ w l. joined-way w l Down _;
    hub_puts = λ w l j h k st o side wanted is. joined-way w l Down _;
    leaves = λ w l j h k c side conn. joined-called w j l w.steps _;
    stops = λ w j h here is. joined-called w j _ w.steps _;
    asks = λ w l j p h k o who side arrival said is. joined-called w j l p (Connect who);
    joins = λ w l j p h k o who c replaced side arrival said is s.
        joined-side (with_side l (λ x. record x { conn = Some c }) (called j l p (Connect who) w)) l (λ x. record x { events = x.events ++ HasJoined ∷ [] }) (λ x. refl)
        (joined-joins w l j p h k who c replaced side is s);
    forwards = λ w l j p h k o c side conn arrival said. joined-called w j l p _;
    takes = λ w l j h k c f side conn is s. joined-way (with_side l (λ x. record x { taken = x.taken + 1 }) w) l Down _ (joined-side w l (λ x. record x { taken = x.taken + 1 }) (λ x. refl) s);
    hears = λ w k n by e here come fit. lets-hears k by (λ action. ⊤) Keep (lets_acts k by) _ n w (joined-same w _ refl refl) (λ action among. tt);
    forgets = λ w later. joined-same w _ refl refl;
    arrives = λ w l way k x here is. joined-way w l way _;
    loses = λ w l. joined-link w l (λ link. record link { is_lost = true }) (λ x. refl) (λ x. refl);
  };
}

pub sides_joined : (w : World) (t : TimedStep) → SidesJoined w → SidesJoined (makes w t)
sides_joined w t s = lets-makes Keep t (lets t.step) (λ u. joined-same u _ refl refl) w (joined-same w (begun w t) refl refl s)
