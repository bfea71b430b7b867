-- After each step, a connection of a hub joined by a link that leads to this hub, whose side has that connection.
-- It serves clauses of functions of `laws`.
use Rattle.std.proofs.Common.{◌≡◌, ◌⊎◌, inl, inr, ℕ, zero, suc, true, false, List, [], ◌∷◌, ◌++◌, Option, Some, None, option_to_list, refl, ap, sym, subst, ◌∙◌}
use Rattle.std.specs.Prelude.{◌+◌, slice_get, ⊤}
use Rattle.std.specs.List.{AllByRecursion}
use Rattle.std.proofs.lemmas.List.{map-append}
use Rattle.bsc_octets.specs.declared.identity.Identity.{Identity}
use Rattle.bsc_history.specs.declared.call.Call.{Call}
use Rattle.bsc_history.specs.declared.call.Call.TheVariants.{Connect, Forward, Leave, Stop as StopCall}
use Rattle.bsc_history.specs.declared.connection.Connection.{Connection}
use Rattle.bsc_history.specs.declared.reply.Reply.{Reply}
use Rattle.bsc_history.specs.declared.reply.Reply.TheVariants.{Joined}
use Rattle.bsc_history.specs.Entries.{connection_of, made_by}
use Rattle.bsc_history.specs.Ends.{joined}
use Rattle.bsc_history.proofs.More as More
use Rattle.bsc_accept.specs.declared.event.Event.TheVariants.{Joined as HasJoined}
use Rattle.bsc_accept.specs.declared.step.Step.TheVariants.{Ask}
use Rattle.bsc_node.specs.declared.link_name.LinkName.{LinkName}
use Rattle.bsc_network.specs.declared.world_step.WorldStep.{WorldStep}
use Rattle.bsc_network.specs.declared.way.Way.{Way}
use Rattle.bsc_network.specs.declared.way.Way.TheVariants.{Up, Down}
use Rattle.bsc_network.specs.declared.hold.Hold.{Hold}
use Rattle.bsc_network.specs.declared.arrival.Arrival.{Arrival}
use Rattle.bsc_network.specs.declared.parcel.Content.{Content}
use Rattle.bsc_network.specs.declared.parcel.Content.TheVariants.{Message, Closed}
use Rattle.bsc_network.specs.Traffic.{Traffic}
use Rattle.bsc_network.specs.Worlds.{World, Hub, HubSide, Node, Link, Posted, history, hub_at, node_at, link_at}
use Rattle.bsc_network.specs.Changes.{changed_at, with_found, with_link, with_side, with_traffic}
use Rattle.bsc_network.specs.HubCalls.{called, entry_in, no_link, reply_in}
use Rattle.bsc_network.specs.HubSides.{told}
use Rattle.bsc_network.specs.NodeSides.{other_way, hold_of, puts_on, puts_by}
use Rattle.bsc_network.specs.Dialling.{dials, fails, new_link}
use Rattle.bsc_network.specs.NodeEvents.{takes_as, delivers, forgets_failure}
use Rattle.bsc_network.proofs.Places.{all-mapped, got-changed}
use Rattle.bsc_network_laws.specs.Connecting.{IsOfLink, JoinByLinks}
use Rattle.bsc_network_laws.proofs.Moves.{IsSide, IsSaid, says_joined, Each}
use Rattle.bsc_network_laws.proofs.Acting.{goes_on_in, LetsActs, lets-hears}
use Rattle.bsc_network_laws.proofs.Sides.{with_call}
use Rattle.bsc_network_laws.proofs.Beside.{Keeps, KeepsGiven}
use Rattle.bsc_network_laws.proofs.SideFits.{no_conn}
use Rattle.bsc_network_laws.proofs.Taken.{SidesFit, LinkFits, not_joined}
use Rattle.bsc_network_laws.proofs.Knowing.{Knows}
use Rattle.bsc_history.proofs.Common.{one_made}
use Rattle.bsc_lemmas.proofs.Lists.{all-at, all_append as all-joined, got-left}
use Rattle.std.proofs.lemmas.Option.{same_Some as some_same}

-- ---- links that last

-- a link leads where it led, and its side has the connection that it had
abbrev Lasting : Link → Link → Type 0
Lasting k x = (x.to ≡ k.to) × ((c : ℕ) → k.side.conn ≡ Some c → x.side.conn ≡ Some c)

lasting-same : (k : Link) → Lasting k k
lasting-same k = (refl, λ c is. is)

abbrev Lasts : List Link → List Link → Type 0
Lasts xs ys = (l : ℕ) (k : Link) → slice_get xs l ≡ Some k → (x : Link) × (slice_get ys l ≡ Some x) × Lasting k x

lasts-none : (xs : List Link) → Lasts xs xs
lasts-none xs l k h = (k, h, lasting-same k)

lasts-then : (xs ys zs : List Link) → Lasts xs ys → Lasts ys zs → Lasts xs zs
lasts-then xs ys zs f g l k h =
    let a = f l k h in
    let b = g l a.0 a.1 in
    (b.0, b.1, (b.2.0 ∙ a.2.0, λ c is. b.2.1 c (a.2.1 c is)))

lasts-changed : (i : ℕ) (f : Link → Link) (xs : List Link) → ((x : Link) → slice_get xs i ≡ Some x → Lasting x (f x)) → Lasts xs (changed_at i f xs)
lasts-changed i f [] keeps l k h = cc
lasts-changed zero f (y ∷ xs) keeps zero k h = (f y, refl, subst (λ (z : Link). Lasting z (f y)) (some_same y k h) (keeps y refl))
lasts-changed zero f (y ∷ xs) keeps (suc l) k h = (k, h, lasting-same k)
lasts-changed (suc i) f (y ∷ xs) keeps zero k h = (k, h, lasting-same k)
lasts-changed (suc i) f (y ∷ xs) keeps (suc l) k h = lasts-changed i f xs keeps l k h

-- ---- moves that change no hub

by-same : (u v : World) → v.hubs ≡ u.hubs → Lasts u.links v.links → Keeps JoinByLinks u v
by-same u v hubs lasts all j h at =
    all-mapped (IsOfLink u j) (IsOfLink v j)
    (λ c of. let there = lasts c.caller of.0 of.1 in (there.0, there.1, there.2.0 ∙ of.2, there.2.1 c.number of.3)) (joined (history h))
    (all j h (ap (λ (hs : List Hub). slice_get hs j) (sym hubs) ∙ at))

-- a change of neither hubs nor links
pub by-still : (u v : World) → v.hubs ≡ u.hubs → v.links ≡ u.links → Keeps JoinByLinks u v
by-still u v hubs links = by-same u v hubs (subst (Lasts u.links) (sym links) (lasts-none u.links))

by-link : (w : World) (l : ℕ) (f : Link → Link) → ((x : Link) → Lasting x (f x)) → Keeps JoinByLinks w (with_link l f w)
by-link w l f keeps = by-same w (with_link l f w) refl (lasts-changed l f w.links (λ x here. keeps x))

by-way : (w : World) (l : ℕ) (way : Way) (f : Traffic → Traffic) → Keeps JoinByLinks w (with_link l (with_traffic way f) w)
by-way w l Up f = by-link w l (with_traffic Up f) (λ x. (refl, λ c is. is))
by-way w l Down f = by-link w l (with_traffic Down f) (λ x. (refl, λ c is. is))

by-side : (w : World) (l : ℕ) (f : HubSide → HubSide) → ((s : HubSide) → (f s).conn ≡ s.conn) → Keeps JoinByLinks w (with_side l f w)
by-side w l f same = by-link w l (λ link. record link { side = f link.side }) (λ x. (refl, λ c is. same x.side ∙ is))

by-puts_by : (w : World) (k : ℕ) (name : LinkName) (content : Content) → Keeps JoinByLinks w (puts_by k name content w)
by-puts_by w k name content = at_node (node_at w k)
  where
    at_hold : (o : Option Hold) → Keeps JoinByLinks w (with_found o (puts_on content) w)
    at_hold None all = all
    at_hold (Some h) all = by-way w h.link (other_way h.hears) _ all

    at_node : (o : Option Node) → Keeps JoinByLinks w (with_found o (λ n. with_found (hold_of name n) (puts_on content)) w)
    at_node None all = all
    at_node (Some n) all = at_hold (hold_of name n) all

-- ---- calls

-- the history of a hub on which a call was made, and who joined by then
pub history-called : (w : World) (caller place : ℕ) (call : Call) (h : Hub) → history (with_call w caller place call h) ≡ history h ++ entry_in w h caller call ∷ []
history-called w caller place call h = map-append (λ (p : Posted). p.entry) h.posted (record { entry = entry_in w h caller call; sent_at = place } ∷ [])

pub joined-called : (w : World) (caller place : ℕ) (call : Call) (h : Hub)
    → joined (history (with_call w caller place call h)) ≡ joined (history h) ++ option_to_list (connection_of (entry_in w h caller call))
joined-called w caller place call h = ap joined (history-called w caller place call h) ∙ More.joined-more (history h) (entry_in w h caller call)

-- a call is made, by which nobody joins but with a link in the network that is there then
by-called : (w v : World) (j caller place : ℕ) (call : Call) → v.hubs ≡ (called j caller place call w).hubs → Lasts w.links v.links
    → ((h : Hub) → hub_at w j ≡ Some h → AllByRecursion (IsOfLink v j) (option_to_list (connection_of (entry_in w h caller call)))) → Keeps JoinByLinks w v
by-called w v j caller place call hubs lasts one all i g at = by (got-changed j (with_call w caller place call) w.hubs i g (ap (λ (hs : List Hub). slice_get hs i) (sym hubs) ∙ at))
  where
    stays : (h : Hub) → hub_at w i ≡ Some h → AllByRecursion (IsOfLink v i) (joined (history h))
    stays h here =
        all-mapped (IsOfLink w i) (IsOfLink v i)
        (λ c of. let there = lasts c.caller of.0 of.1 in (there.0, there.1, there.2.0 ∙ of.2, there.2.1 c.number of.3)) (joined (history h)) (all i h here)

    by : (hub_at w i ≡ Some g) ⊎ ((x : Hub) × (j ≡ i) × (hub_at w i ≡ Some x) × (g ≡ with_call w caller place call x)) → AllByRecursion (IsOfLink v i) (joined (history g))
    by (inl here) = stays g here
    by (inr (x, same, here, changed)) =
        subst (λ (y : Hub). AllByRecursion (IsOfLink v i) (joined (history y))) (sym changed)
        (subst (AllByRecursion (IsOfLink v i)) (sym (joined-called w caller place call x))
        (all-joined (IsOfLink v i) (joined (history x)) (option_to_list (connection_of (entry_in w x caller call))) (stays x here)
        (subst (λ n. AllByRecursion (IsOfLink v n) (option_to_list (connection_of (entry_in w x caller call)))) same (one x (ap (slice_get w.hubs) same ∙ here)))))

by-call : (w : World) (j caller place : ℕ) (call : Call) → ((h : Hub) → hub_at w j ≡ Some h
    → AllByRecursion (IsOfLink (called j caller place call w) j) (option_to_list (connection_of (entry_in w h caller call))))
    → Keeps JoinByLinks w (called j caller place call w)
by-call w j caller place call = by-called w (called j caller place call w) j caller place call refl (lasts-none w.links)

-- a connect that isn't answered with a connection
pub none_made : (P : Connection → Type 0) (caller : ℕ) (who : Identity) (r : Reply) → says_joined r ≡ false → AllByRecursion P (option_to_list (made_by caller (Connect who) r))
none_made P caller who (Joined c replaced) h = cc
none_made P caller who r h = tt

-- a side whose machine asks has no connection yet
pub asks_without : (w : World) (l j : ℕ) (h : Hub) (k : Link) (m : List ℕ) (who : Identity) → IsSide w l j h k → IsSaid h k m (Ask who) → SidesFit w → k.side.conn ≡ None
asks_without w l j h k m who side said fit =
    no_conn k.side.conn ((all-at (LinkFits w.hubs) w.links l k fit side.link j h side.leads side.hub).joined ∙ not_joined h k m who said)

at_twice : (i : ℕ) (f g : Link → Link) (xs : List Link) (x : Link) → slice_get xs i ≡ Some x → slice_get (changed_at i g (changed_at i f xs)) i ≡ Some (g (f x))
at_twice i f g [] x h = cc
at_twice zero f g (y ∷ xs) x h = ap (λ z. Some (g (f z))) (some_same y x h)
at_twice (suc i) f g (y ∷ xs) x h = at_twice i f g xs x h

by-joins : (w : World) (l j place : ℕ) (h : Hub) (k : Link) (m : List ℕ) (who : Identity) (c : ℕ) (replaced : Option ℕ) → IsSide w l j h k → IsSaid h k m (Ask who)
    → reply_in w h (Connect who) ≡ Joined c replaced
    → SidesFit w → Keeps JoinByLinks w (told l HasJoined (with_side l (λ s. record s { conn = Some c }) (called j l place (Connect who) w)))
by-joins w l j place h k m who c replaced side said is fit =
    by-called w v j l place (Connect who) refl lasts (λ g here.
    one_made (IsOfLink v j) l who (reply_in w g (Connect who)) c replaced (ap (λ (x : Hub). reply_in w x (Connect who)) (some_same g h (sym here ∙ side.hub)) ∙ is) of_link)
  where
    first : List Link
    first = changed_at l (λ link. record link { side = record link.side { conn = Some c } }) w.links

    v : World
    v = told l HasJoined (with_side l (λ s. record s { conn = Some c }) (called j l place (Connect who) w))

    without : k.side.conn ≡ None
    without = asks_without w l j h k m who side said fit

    new : (x : Link) → link_at w l ≡ Some x → (d : ℕ) → x.side.conn ≡ Some d → Some c ≡ Some d
    new x here d has = absurd (none (sym without ∙ ap (λ (y : Link). y.side.conn) (some_same k x (sym side.link ∙ here)) ∙ has))
      where
        none : None ≡ Some d → ⊥
        none e = cc

    then_lasts : Lasts w.links first
    then_lasts = lasts-changed l (λ link. record link { side = record link.side { conn = Some c } }) w.links (λ x here. (refl, new x here))

    lasts : Lasts w.links v.links
    lasts = lasts-then w.links first v.links then_lasts (lasts-changed l (λ link. record link { side = record link.side { events = link.side.events ++ HasJoined ∷ [] } }) first
        (λ x here. (refl, λ d has. has)))

    of_link : IsOfLink v j (record { number = c; caller = l; who = who })
    of_link =
        let changed : Link = record k { side = record k.side { conn = Some c; events = k.side.events ++ HasJoined ∷ [] } } in (
          changed,
          at_twice l (λ link. record link { side = record link.side { conn = Some c } })
              (λ link. record link { side = record link.side { events = link.side.events ++ HasJoined ∷ [] } }) w.links k side.link,
          side.leads,
          refl,
        )

-- ---- the moves

lets_acts : (k : ℕ) (by : Option Arrival) → LetsActs k by (λ action. ⊤) (Keeps JoinByLinks)
lets_acts k by = record {
  none = λ w all. all;
  then = λ u v w f g all. g (f all);
  each = record {
    puts = λ w name o known. by-puts_by w k name (Message o);
    closes = λ w name. by-puts_by w k name Closed;
    takes = λ w name a is known. by-still w (takes_as k name a w) refl refl;
    dials_as = λ w name uri t known leads. by-same w (dials k name t w) refl (λ l x h. (x, got-left w.links (new_link w k t ∷ []) l x h, lasting-same x));
    fails_as = λ w name. by-still w (fails name w) refl refl;
    refuses_it = λ w a is. by-way w a.link (other_way a.way) _;
    delivers_one = λ w d a is known. by-still w (delivers k d a w) refl refl;
  };
}

-- Each connection stays one that joined by a link that leads to its hub.
pub join_by_links : (T place : ℕ) (D : WorldStep) → Each D (KeepsGiven (Knows T place) JoinByLinks)
join_by_links T place D = record {
  over = λ w l m. by-side w l _ (λ s. refl);
  tells = λ w l j h k e other side m. by-side w l _ (λ s. refl);
  empty = λ w l m. by-side w l _ (λ s. refl);
  closes_down = λ w l m. by-way w l Down _;
  hub_puts = λ w l j h k st o side wanted is m. by-way w l Down _;
  leaves = λ w l j h k c side conn m. by-call w j l w.steps (Leave c k.side.taken k.side.empties) (λ g here. tt);
  stops = λ w j h here is m. by-call w j no_link w.steps StopCall (λ g at. tt);
  asks = λ w l j p h k o who side arrival said is m.
      by-call w j l p (Connect who)
      (λ g here. none_made (IsOfLink (called j l p (Connect who) w) j) l who (reply_in w g (Connect who))
      (ap (λ (x : Hub). says_joined (reply_in w x (Connect who))) (some_same g h (sym here ∙ side.hub)) ∙ is));
  joins = λ w l j p h k o who c replaced side arrival said is m. by-joins w l j p h k o who c replaced side said is m.sides;
  forwards = λ w l j p h k o c side conn arrival said m. by-call w j l p (Forward c o) (λ g here. tt);
  takes = λ w l j h k c f side conn is m all. by-way (with_side l (λ x. record x { taken = x.taken + 1 }) w) l Down _ (by-side w l (λ x. record x { taken = x.taken + 1 }) (λ s. refl) all);
  hears = λ w k n by e here come fit m. lets-hears k by (λ action. ⊤) (Keeps JoinByLinks) (lets_acts k by) (record { now = w.now; event = e }) n w
      (by-still w (goes_on_in k (record { now = w.now; event = e }) w) refl refl) (λ action among. tt);
  forgets = λ w later m. by-still w (forgets_failure later w) refl refl;
  arrives = λ w l way k x here is m. by-way w l way _;
  loses = λ w l m. by-link w l (λ link. record link { is_lost = true }) (λ x. (refl, λ c is. is));
}
