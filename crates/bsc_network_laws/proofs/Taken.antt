-- After each step, what stands on the way down from a hub is what was taken from the outbox.
-- It serves clauses of functions of `laws`.
use Rattle.std.proofs.Common.{◌≡◌, ◌⊎◌, inl, inr, ℕ, Bool, false, List, [], ◌∷◌, ◌++◌, Option, Some, None, refl, ap, sym, subst, ◌∙◌}
use Rattle.std.specs.Prelude.{◌+◌, ◌||◌, slice_get, is_some, ⊤}
use Rattle.std.specs.List.{AllByRecursion}
use Rattle.bsc_history.specs.declared.call.Call.{Call}
use Rattle.bsc_history.specs.declared.call.Call.TheVariants.{Connect, Forward, Stop as StopCall}
use Rattle.bsc_octets.specs.declared.identity.Identity.{Identity}
use Rattle.bsc_checks.specs.declared.place.Place.TheVariants.{HubPort}
use Rattle.bsc_checks.specs.Outcomes.{outcome_of}
use Rattle.bsc_accept.specs.declared.event.Event.{Event}
use Rattle.bsc_accept.specs.declared.event.Event.TheVariants.{Message as Came, Joined as HasJoined}
use Rattle.bsc_accept.specs.declared.step.Step.TheVariants.{Ask}
use Rattle.bsc_accept.specs.Past.{since_joined, phase}
use Rattle.bsc_node.specs.declared.link_name.LinkName.{LinkName}
use Rattle.bsc_node.specs.declared.node_event.NodeEvent.{NodeEvent}
use Rattle.bsc_node.specs.Links.{same_link}
use Rattle.bsc_network.specs.declared.world_step.WorldStep.{WorldStep}
use Rattle.bsc_network.specs.declared.way.Way.{Way}
use Rattle.bsc_network.specs.declared.way.Way.TheVariants.{Up, Down}
use Rattle.bsc_network.specs.declared.target.Target.TheVariants.{Hub as ToHub, Node as ToNode}
use Rattle.bsc_network.specs.declared.timed_step.TimedStep.{TimedStep}
use Rattle.bsc_network.specs.declared.hold.Hold.{Hold}
use Rattle.bsc_network.specs.declared.arrival.Arrival.{Arrival}
use Rattle.bsc_network.specs.declared.parcel.Content.{Content}
use Rattle.bsc_network.specs.declared.parcel.Content.TheVariants.{Message, Closed}
use Rattle.bsc_network.specs.Traffic.{Traffic, without_front, and_then}
use Rattle.bsc_network.specs.Worlds.{World, Hub, Node, Link, hub_at, node_at, link_at}
use Rattle.bsc_network.specs.Changes.{with_found, with_link, with_side, with_traffic, puts_at}
use Rattle.bsc_network.specs.Outboxes.{Frame, frames}
use Rattle.bsc_network.specs.HubCalls.{called}
use Rattle.bsc_network.specs.HubSides.{told}
use Rattle.bsc_network.specs.NodeSides.{other_way, hold_of, puts_on, puts_by}
use Rattle.bsc_network.specs.Dialling.{new_link}
use Rattle.bsc_network.specs.Networks.{makes}
use Rattle.bsc_network.proofs.Places.{all-changed, all-changed_here, all-mapped, got-changed, all-found, all-reversed, found-in, changed-twice}
use Rattle.bsc_network_laws.specs.Ends.{receiver}
use Rattle.bsc_network_laws.proofs.Moves.{IsHeardBy, IsSide, IsSaid, Comes, Lets}
use Rattle.bsc_network_laws.proofs.Acting.{LetsActs, lets-hears}
use Rattle.bsc_network_laws.proofs.Sides.{with_call}
use Rattle.bsc_network_laws.proofs.Stepping.{begun, lets-makes}
use Rattle.bsc_network_laws.proofs.Holding.{EndOf, HoldsFit, Keep, keep-none, keep-then, keep-others, keep-log, heard_of}
use Rattle.bsc_network_laws.proofs.Holding as Holding
use Rattle.bsc_network_laws.proofs.OwnOctets.{own_is_none}
use Rattle.bsc_network_laws.proofs.SideFits.{SideFits, CarriesNone, npdus-kept, side-posted, joined-more, side-told, side-takes, side-joins, asks-before}
use Rattle.bsc_lemmas.proofs.Lists.{all-push as all-one_more}
use Rattle.bsc_network.proofs.Common.{not_both, same_hub}
use Rattle.std.proofs.lemmas.Option.{same_Some as some_same}

-- ---- all links

-- Where the link leads to a hub, its side fits.
abbrev pub LinkFits : List Hub → Link → Type 0
LinkFits hubs k = (j : ℕ) (h : Hub) → k.to ≡ ToHub j → slice_get hubs j ≡ Some h → SideFits h k

abbrev pub SidesFit : World → Type 0
SidesFit w = AllByRecursion (LinkFits w.hubs) w.links

pub record Keeps (u v : World) : Type 0 where
  pub base : Keep u v
  pub sides : HoldsFit u → SidesFit u → SidesFit v

keeps-none : (w : World) → Keeps w w
keeps-none w = record { base = keep-none w; sides = λ fit s. s }

keeps-then : (u v w : World) → Keeps u v → Keeps v w → Keeps u w
keeps-then u v w f g = record { base = keep-then u v w f.base g.base; sides = λ fit s. g.sides (f.base.holds fit) (f.sides fit s) }

-- ---- a link is changed

-- by a change that keeps where it leads, and its side
sides-link : (w : World) (l : ℕ) (f : Link → Link) → ((k : Link) → (f k).to ≡ k.to) → ((h : Hub) (k : Link) → SideFits h k → SideFits h (f k)) → SidesFit w → SidesFit (with_link l f w)
sides-link w l f to keeps = all-changed (LinkFits w.hubs) l f (λ k fits j h is at. keeps h k (fits j h (sym (to k) ∙ is) at)) w.links

-- by a change of what is known to be there
sides-here : (w : World) (l : ℕ) (f : Link → Link) → ((k : Link) → (f k).to ≡ k.to)
    → ((j : ℕ) (h : Hub) (k : Link) → link_at w l ≡ Some k → k.to ≡ ToHub j → hub_at w j ≡ Some h → SideFits h k → SideFits h (f k)) → SidesFit w → SidesFit (with_link l f w)
sides-here w l f to keeps = all-changed_here (LinkFits w.hubs) l f w.links (λ k here fits j h is at. keeps j h k here (sym (to k) ∙ is) at (fits j h (sym (to k) ∙ is) at))

-- ---- a hub has one entry more

sides-called : (w : World) (j caller place : ℕ) (call : Call) → SidesFit w → SidesFit (called j caller place call w)
sides-called w j caller place call =
    all-mapped (LinkFits w.hubs) (LinkFits (called j caller place call w).hubs) (λ k fits i g is at. by k fits i g is (got-changed j add w.hubs i g at)) w.links
  where
    add : Hub → Hub
    add h = with_call w caller place call h

    by : (k : Link) → LinkFits w.hubs k → (i : ℕ) (g : Hub) → k.to ≡ ToHub i → (slice_get w.hubs i ≡ Some g) ⊎ ((x : Hub) × (j ≡ i) × (slice_get w.hubs i ≡ Some x) × (g ≡ add x)) → SideFits g k
    by k fits i g is (inl at) = fits i g is at
    by k fits i g is (inr (x, same, at, added)) = subst (λ (y : Hub). SideFits y k) (sym added) (side-posted x _ k (fits i x is at))

-- ---- something is put

side-down : (h : Hub) (k : Link) (content : Content) (place : ℕ) → CarriesNone content → SideFits h k → SideFits h (with_traffic Down (and_then (record { content = content; sent_at = place })) k)
side-down h k content place none fits = record { down = npdus-kept content place k.down none ∙ fits.down; within = fits.within; none = fits.none; joined = fits.joined }

sides-down : (w : World) (l : ℕ) (content : Content) (place : ℕ) → CarriesNone content → SidesFit w → SidesFit (puts_at l Down place content w)
sides-down w l content place none = sides-link w l (with_traffic Down (and_then (record { content = content; sent_at = place }))) (λ k. refl) (λ h k. side-down h k content place none)

sides-node : (w : World) (l k : ℕ) (way : Way) (f : Traffic → Traffic) → IsHeardBy w l way k → SidesFit w → SidesFit (with_link l (with_traffic (other_way way) f) w)
sides-node w l k Down f heard = sides-link w l (with_traffic Up f) (λ x. refl) (λ h x fits. record { down = fits.down; within = fits.within; none = fits.none; joined = fits.joined })
sides-node w l k Up f heard = sides-here w l (with_traffic Down f) (λ x. refl) (λ j h x here is at fits. absurd (leads x here j is))
  where
    leads : (x : Link) → link_at w l ≡ Some x → (j : ℕ) → x.to ≡ ToHub j → ⊥
    leads x here j is =
        let there = found-in (receiver Up) (link_at w l) (ToNode k) heard in
        not_both k j x.to (ap (λ (y : Link). y.to) (some_same x there.0 (sym here ∙ there.1)) ∙ there.2) is

sides-puts_by : (w : World) (k : ℕ) (name : LinkName) (content : Content) → HoldsFit w → SidesFit w → SidesFit (puts_by k name content w)
sides-puts_by w k name content fit s = at_node (node_at w k) refl
  where
    at_hold : (n : Node) → node_at w k ≡ Some n → (o : Option Hold) → hold_of name n ≡ o → SidesFit (with_found o (puts_on content) w)
    at_hold n here None is = s
    at_hold n here (Some h) is = sides-node w h.link k h.hears _ (all-found (EndOf w k) (λ h. same_link h.name name) _ h (all-reversed (EndOf w k) n.holds (fit k n here)) is) s

    at_node : (o : Option Node) → node_at w k ≡ o → SidesFit (with_found o (λ n. with_found (hold_of name n) (puts_on content)) w)
    at_node None is = s
    at_node (Some n) is = at_hold n is (hold_of name n) refl

-- ---- the moves

abbrev KeepsFrom : World → World → World → Type 0
KeepsFrom before u v = Keep before u → Keeps u v

pub lets_acts : (D : WorldStep) (k : ℕ) (w : World) (n : Node) (by : Option Arrival) (e : NodeEvent) → Comes D w k n by e → LetsActs k by (λ action. ⊤) (KeepsFrom w)
lets_acts D k w n by e come = record {
  none = λ u from. keeps-none u;
  then = λ u v x f g from. keeps-then u v x (f from) (g (keep-then w u v from (f from).base));
  each = record {
    puts = λ u name o known from. record { base = M.each.puts u name o known from; sides = sides-puts_by u k name (Message o) };
    closes = λ u name from. record { base = M.each.closes u name from; sides = sides-puts_by u k name Closed };
    takes = λ u name a is known from. record { base = M.each.takes u name a is known from; sides = λ fit s. s };
    dials_as = λ u name uri t known leads from. record {
      base = M.each.dials_as u name uri t known leads from;
      sides = λ fit s. all-one_more (LinkFits u.hubs) u.links (new_link u k t) s (λ j h is at. record { down = refl; within = λ c none. cc; none = λ none. refl; joined = refl });
    };
    fails_as = λ u name from. record { base = M.each.fails_as u name from; sides = λ fit s. s };
    refuses_it = λ u a is from. record { base = M.each.refuses_it u a is from; sides = λ fit s. sides-node u a.link k a.way _ (from.ends a.link a.way k (heard_of D w k n by a e come is)) s };
    delivers_one = λ u d a is known from. record { base = M.each.delivers_one u d a is known from; sides = λ fit s. s };
  };
}
  where
    M : LetsActs k by (λ action. ⊤) (Holding.KeepFrom w)
    M = Holding.lets_acts D k w n by e come

-- a peer joins
sides-joins : (w : World) (l c : ℕ) → ((k : Link) → link_at w l ≡ Some k → is_some (since_joined k.side.events) ≡ false) → SidesFit w
    → SidesFit (told l HasJoined (with_side l (λ s. record s { conn = Some c }) w))
sides-joins w l c before s =
    subst (AllByRecursion (LinkFits w.hubs))
    (sym (changed-twice l (λ (k : Link). record k { side = record k.side { conn = Some c } }) (λ (k : Link). record k { side = record k.side { events = k.side.events ++ HasJoined ∷ [] } }) w.links))
    (all-changed_here (LinkFits w.hubs) l _ w.links (λ k here fits j h is at. side-joins h k c (before k here) (fits j h is at)) s)

-- the machine that asks wasn't told before that its peer joined
pub not_joined : (h : Hub) (k : Link) (m : List ℕ) (who : Identity) → IsSaid h k m (Ask who) → is_some (since_joined k.side.events) ≡ false
not_joined h k m who said =
    ap (λ (E : List Event). is_some (since_joined E)) said.told
    ∙ joined-more said.events (Came said.time (outcome_of m (HubPort (phase said.events)) h.about.hub.max_bvlc))
    ∙ ap (λ (b : Bool). b || false) (asks-before (since_joined said.events) (outcome_of m (HubPort (phase said.events)) h.about.hub.max_bvlc) who said.is)

-- a frame is taken
sides-takes : (w : World) (l j : ℕ) (h : Hub) (k : Link) (c : ℕ) (f : Frame) → IsSide w l j h k → k.side.conn ≡ Some c → slice_get (frames h c) k.side.taken ≡ Some f
    → SidesFit w → SidesFit (puts_at l Down f.sent_at (Message f.octets) (with_side l (λ s. record s { taken = s.taken + 1 }) w))
sides-takes w l j h k c f side conn is s =
    subst (AllByRecursion (LinkFits w.hubs))
    (sym (changed-twice l (λ (x : Link). record x { side = record x.side { taken = x.side.taken + 1 } })
    (with_traffic Down (and_then (record { content = Message f.octets; sent_at = f.sent_at }))) w.links))
    (all-changed_here (LinkFits w.hubs) l _ w.links one s)
  where
    one : (x : Link) → link_at w l ≡ Some x → LinkFits w.hubs x
        → LinkFits w.hubs (record x { down = and_then (record { content = Message f.octets; sent_at = f.sent_at }) x.down; side = record x.side { taken = x.side.taken + 1 } })
    one x at_link fits i g to at =
        let same_link : k ≡ x = some_same k x (sym side.link ∙ at_link) in
        let leads : x.to ≡ ToHub j = ap (λ (y : Link). y.to) (sym same_link) ∙ side.leads in
        let number : i ≡ j = same_hub i j (sym to ∙ leads) in
        let hub : h ≡ g = some_same h g (sym side.hub ∙ ap (λ n. slice_get w.hubs n) (sym number) ∙ at) in
        side-takes g x c f (ap (λ (y : Link). y.side.conn) (sym same_link) ∙ conn)
        (ap (λ n. slice_get (frames g c) n) (ap (λ (y : Link). y.side.taken) (sym same_link)) ∙ ap (λ (y : Hub). slice_get (frames y c) k.side.taken) (sym hub) ∙ is) (fits i g to at)

sides-arrives : (w : World) (l : ℕ) (way : Way) → SidesFit w → SidesFit (with_link l (with_traffic way without_front) w)
sides-arrives w l Up = sides-link w l (with_traffic Up without_front) (λ k. refl) (λ h k fits. record { down = fits.down; within = fits.within; none = fits.none; joined = fits.joined })
sides-arrives w l Down = sides-link w l (with_traffic Down without_front) (λ k. refl) (λ h k fits. record { down = fits.down; within = fits.within; none = fits.none; joined = fits.joined })

pub lets : (D : WorldStep) → Lets D Keeps
lets D = record {
  none = keeps-none;
  then = keeps-then;
  each = record {
    over = λ w l. record {
      base = M.each.over w l;
      sides = λ fit. sides-link w l _ (λ k. refl)
          (λ h k fits. record { down = fits.down; within = fits.within; none = fits.none; joined = fits.joined });
    };
    tells = λ w l j h k e other side. record { base = M.each.tells w l j h k e other side; sides = λ fit. sides-link w l _ (λ x. refl) (λ g x. side-told g x e other) };
    empty = λ w l. record {
      base = M.each.empty w l;
      sides = λ fit. sides-link w l _ (λ k. refl)
          (λ h k fits. record { down = fits.down; within = fits.within; none = fits.none; joined = fits.joined });
    };
    closes_down = λ w l. record { base = M.each.closes_down w l; sides = λ fit. sides-down w l Closed w.steps tt };
    hub_puts = λ w l j h k st o side wanted is. record { base = M.each.hub_puts w l j h k st o side wanted is; sides = λ fit. sides-down w l (Message o) w.steps (own_is_none h.about st wanted o is) };
    leaves = λ w l j h k c side conn. record { base = M.each.leaves w l j h k c side conn; sides = λ fit. sides-called w j l w.steps _ };
    stops = λ w j h here is. record { base = M.each.stops w j h here is; sides = λ fit. sides-called w j _ w.steps StopCall };
    asks = λ w l j place h k m who side came said is. record { base = M.each.asks w l j place h k m who side came said is; sides = λ fit. sides-called w j l place (Connect who) };
    joins = λ w l j place h k m who c replaced side came said is. record {
      base = M.each.joins w l j place h k m who c replaced side came said is;
      sides = λ fit s. sides-joins (called j l place (Connect who) w) l c (λ x here. ap (λ (y : Link). is_some (since_joined y.side.events)) (some_same x k (sym here ∙ side.link))
          ∙ not_joined h k m who said) (sides-called w j l place (Connect who) s);
    };
    forwards = λ w l j place h k m c side conn came said. record { base = M.each.forwards w l j place h k m c side conn came said; sides = λ fit. sides-called w j l place (Forward c m) };
    takes = λ w l j h k c f side conn is. record { base = M.each.takes w l j h k c f side conn is; sides = λ fit s. sides-takes w l j h k c f side conn is s };
    hears = λ w k n by e here come fit. lets-hears k by (λ action. ⊤) (KeepsFrom w) (lets_acts D k w n by e come) _ n w (λ from. record { base = keep-log w k _; sides = λ fit s. s })
        (λ action among. tt) (keep-none w);
    forgets = λ w later. record { base = M.each.forgets w later; sides = λ fit s. s };
    arrives = λ w l way k x here is. record { base = M.each.arrives w l way k x here is; sides = λ fit. sides-arrives w l way };
    loses = λ w l. record {
      base = M.each.loses w l;
      sides = λ fit. sides-link w l _ (λ k. refl)
          (λ h k fits. record { down = fits.down; within = fits.within; none = fits.none; joined = fits.joined });
    };
  };
}
  where
    M : Lets D Keep
    M = Holding.lets D

-- The NPDUs on the way down from a hub stay those that were taken from the outbox of its connection.
pub down_is_taken : (w : World) (t : TimedStep) → HoldsFit w → SidesFit w → SidesFit (makes w t)
down_is_taken w t fit s =
    let begin : HoldsFit (begun w t) = (keep-others w (begun w t) refl refl).holds fit in
    (lets-makes Keeps t (lets t.step) (λ u. record { base = keep-others u _ refl refl; sides = λ fit s. s }) w).sides begin s
