-- Each end that a node has is one at which it hears, after each step; and no link changes its ends.
-- It serves clauses of functions of `laws`.
use Rattle.std.proofs.Common.{◌≡◌, ◌⊎◌, inl, inr, ℕ, true, List, [], ◌∷◌, ◌++◌, Option, Some, None, refl, ap, sym, subst, ◌∙◌}
use Rattle.std.specs.Prelude.{◌+◌, length, slice_get, ⊤}
use Rattle.std.specs.Option.{option_map}
use Rattle.std.specs.List.{AllByRecursion}
use Rattle.bsc_history.specs.declared.call.Call.TheVariants.{Connect}
use Rattle.bsc_node.specs.declared.link_name.LinkName.{LinkName}
use Rattle.bsc_node.specs.declared.node_event.NodeEvent.{NodeEvent}
use Rattle.bsc_node.specs.declared.timed_event.TimedEvent.{TimedEvent}
use Rattle.bsc_network.specs.declared.world_step.WorldStep.{WorldStep}
use Rattle.bsc_network.specs.declared.way.Way.{Way}
use Rattle.bsc_network.specs.declared.way.Way.TheVariants.{Up, Down}
use Rattle.bsc_network.specs.declared.target.Target.{Target}
use Rattle.bsc_network.specs.declared.target.Target.TheVariants.{Node as ToNode}
use Rattle.bsc_network.specs.declared.timed_step.TimedStep.{TimedStep}
use Rattle.bsc_network.specs.declared.hold.Hold.{Hold}
use Rattle.bsc_network.specs.declared.arrival.Arrival.{Arrival}
use Rattle.bsc_network.specs.declared.parcel.Content.{Content}
use Rattle.bsc_network.specs.declared.parcel.Content.TheVariants.{Message}
use Rattle.bsc_network.specs.Traffic.{Traffic}
use Rattle.bsc_network.specs.Worlds.{World, Node, Link, HubSide, node_at, link_at}
use Rattle.bsc_network.specs.Changes.{with_found, with_link, with_side, with_traffic}
use Rattle.bsc_network.specs.HubCalls.{called}
use Rattle.bsc_network.specs.NodeSides.{hold_of, puts_on, puts_by, holds}
use Rattle.bsc_network.specs.Dialling.{dials, new_link}
use Rattle.bsc_network.specs.NodeEvents.{brings_about}
use Rattle.bsc_network.specs.Networks.{makes}
use Rattle.bsc_network.proofs.Places.{kept-at, got-changed, got-last, all-mapped, found-in}
use Rattle.bsc_network_laws.specs.Ends.{receiver}
use Rattle.bsc_network_laws.proofs.Moves.{IsHeardBy, Comes, Lets}
use Rattle.bsc_network_laws.proofs.Acting.{goes_on_in, LetsActs, lets-hears}
use Rattle.bsc_network_laws.proofs.Stepping.{begun, lets-makes}
use Rattle.bsc_lemmas.proofs.Lists.{all-push as all-one_more, got-left}
use Rattle.std.proofs.lemmas.Option.{same_Some as some_same}

-- ---- what is kept

-- the end is one at which node k hears
abbrev pub EndOf : World → ℕ → Hold → Type 0
EndOf w k h = IsHeardBy w h.link h.hears k

-- Each end that a node has is one at which it hears.
abbrev pub HoldsFit : World → Type 0
HoldsFit w = (k : ℕ) (n : Node) → node_at w k ≡ Some n → AllByRecursion (EndOf w k) n.holds

-- What hears at an end does so from then on, and ends that fit stay so.
pub record Keep (u v : World) : Type 0 where
  pub ends : (l : ℕ) (way : Way) (k : ℕ) → IsHeardBy u l way k → IsHeardBy v l way k
  pub holds : HoldsFit u → HoldsFit v

pub keep-none : (w : World) → Keep w w
keep-none w = record { ends = λ l way k h. h; holds = λ h. h }

pub keep-then : (u v w : World) → Keep u v → Keep v w → Keep u w
keep-then u v w f g = record { ends = λ l way k h. g.ends l way k (f.ends l way k h); holds = λ h. g.holds (f.holds h) }

-- a change of links alone that keeps their ends
keep-links : (u v : World) → u.nodes ≡ v.nodes → ((l : ℕ) (way : Way) (k : ℕ) → IsHeardBy u l way k → IsHeardBy v l way k) → Keep u v
keep-links u v same ends = record {
  ends = ends;
  holds = λ fit k n here. all-mapped (EndOf u k) (EndOf v k) (λ h end. ends h.link h.hears k end) n.holds (fit k n (ap (λ (ns : List Node). slice_get ns k) same ∙ here));
}

keep-with_link : (w : World) (i : ℕ) (f : Link → Link) → ((way : Way) (x : Link) → receiver way (f x) ≡ receiver way x) → Keep w (with_link i f w)
keep-with_link w i f keeps = keep-links w (with_link i f w) refl (λ l way k heard. kept-at (receiver way) i f (keeps way) w.links l ∙ heard)

receiver-traffic : (on : Way) (f : Traffic → Traffic) (way : Way) (x : Link) → receiver way (with_traffic on f x) ≡ receiver way x
receiver-traffic Up f Up x = refl
receiver-traffic Up f Down x = refl
receiver-traffic Down f Up x = refl
receiver-traffic Down f Down x = refl

receiver-side : (f : HubSide → HubSide) (way : Way) (x : Link) → receiver way (record x { side = f x.side }) ≡ receiver way x
receiver-side f Up x = refl
receiver-side f Down x = refl

receiver-lost : (way : Way) (x : Link) → receiver way (record x { is_lost = true }) ≡ receiver way x
receiver-lost Up x = refl
receiver-lost Down x = refl

pub keep-traffic : (w : World) (l : ℕ) (on : Way) (f : Traffic → Traffic) → Keep w (with_link l (with_traffic on f) w)
keep-traffic w l on f = keep-with_link w l (with_traffic on f) (receiver-traffic on f)

pub keep-side : (w : World) (l : ℕ) (f : HubSide → HubSide) → Keep w (with_side l f w)
keep-side w l f = keep-with_link w l (λ link. record link { side = f link.side }) (receiver-side f)

-- other changes leave nodes and links as they are
pub keep-others : (u v : World) → u.nodes ≡ v.nodes → u.links ≡ v.links → Keep u v
keep-others u v nodes links = keep-links u v nodes (λ l way k heard. ap (λ (ls : List Link). option_map (receiver way) (slice_get ls l)) (sym links) ∙ heard)

-- ---- nodes

-- the node's log goes on
pub keep-log : (w : World) (k : ℕ) (event : TimedEvent) → Keep w (goes_on_in k event w)
keep-log w k event = record { ends = λ l way j h. h; holds = λ fit j n here. by fit j n (got-changed k (λ (m : Node). record m { log = m.log ++ brings_about m.made event m.log }) w.nodes j n here) }
  where
    by : HoldsFit w → (j : ℕ) (n : Node) → (slice_get w.nodes j ≡ Some n) ⊎ ((x : Node) × (k ≡ j) × (slice_get w.nodes j ≡ Some x)
        × (n ≡ record x { log = x.log ++ brings_about x.made event x.log })) → AllByRecursion (EndOf w j) n.holds
    by fit j n (inl at) = fit j n at
    by fit j n (inr (x, same, at, is)) = subst (λ (m : Node). AllByRecursion (EndOf w j) m.holds) (sym is) (fit j x at)

-- the node has one end more, at which it hears
keep-hold : (w : World) (k : ℕ) (h : Hold) → EndOf w k h → Keep w (holds k h w)
keep-hold w k h end = record { ends = λ l way j g. g; holds = λ fit j n here. by fit j n (got-changed k (λ (m : Node). record m { holds = m.holds ++ h ∷ [] }) w.nodes j n here) }
  where
    by : HoldsFit w → (j : ℕ) (n : Node) → (slice_get w.nodes j ≡ Some n) ⊎ ((x : Node) × (k ≡ j) × (slice_get w.nodes j ≡ Some x) × (n ≡ record x { holds = x.holds ++ h ∷ [] }))
        → AllByRecursion (EndOf w j) n.holds
    by fit j n (inl at) = fit j n at
    by fit j n (inr (x, same, at, is)) =
        subst (λ (m : Node). AllByRecursion (EndOf w j) m.holds) (sym is) (all-one_more (EndOf w j) x.holds h (fit j x at) (subst (λ (i : ℕ). EndOf w i h) same end))

-- one link more
keep-longer : (w : World) (x : Link) → Keep w (record w { links = w.links ++ x ∷ [] })
keep-longer w x = keep-links w (record w { links = w.links ++ x ∷ [] }) refl (λ l way k heard.
    let there = found-in (receiver way) (link_at w l) (ToNode k) heard in
    ap (option_map (receiver way)) (got-left w.links (x ∷ []) l there.0 there.1) ∙ ap Some there.2)

keep-dials : (w : World) (k : ℕ) (name : LinkName) (t : Target) → Keep w (dials k name t w)
keep-dials w k name t =
    let x = new_link w k t in
    let v : World = record w { links = w.links ++ x ∷ [] } in
    let h : Hold = record { name = name; link = length w.links; hears = Down } in
    keep-then w v (holds k h v) (keep-longer w x) (keep-hold v k h (ap (option_map (receiver Down)) (got-last w.links x)))

keep-found : (w : World) (content : Content) (h : Option Hold) → Keep w (with_found h (puts_on content) w)
keep-found w content None = keep-none w
keep-found w content (Some h) = keep-traffic w h.link _ _

pub keep-puts_by : (w : World) (k : ℕ) (name : LinkName) (content : Content) → Keep w (puts_by k name content w)
keep-puts_by w k name content = by (node_at w k)
  where
    by : (n : Option Node) → Keep w (with_found n (λ m. with_found (hold_of name m) (puts_on content)) w)
    by None = keep-none w
    by (Some n) = keep-found w content (hold_of name n)

-- ---- the actions of an event

-- What is kept, where what arrived was heard by the node in some network before.
abbrev pub KeepFrom : World → World → World → Type 0
KeepFrom before u v = Keep before u → Keep u v

pub heard_of : (D : WorldStep) (w : World) (k : ℕ) (n : Node) (by : Option Arrival) (a : Arrival) (e : NodeEvent) → Comes D w k n by e → by ≡ Some a → IsHeardBy w a.link a.way k
heard_of D w k n None a e come is = cc
heard_of D w k n (Some b) a e come is = subst (λ (c : Arrival). IsHeardBy w c.link c.way k) (some_same b a is) come.1

pub lets_acts : (D : WorldStep) (k : ℕ) (w : World) (n : Node) (by : Option Arrival) (e : NodeEvent) → Comes D w k n by e → LetsActs k by (λ action. ⊤) (KeepFrom w)
lets_acts D k w n by e come = record {
  none = λ u from. keep-none u;
  then = λ u v x f g from. keep-then u v x (f from) (g (keep-then w u v from (f from)));
  each = record {
    puts = λ u name o known from. keep-puts_by u k name (Message o);
    closes = λ u name from. keep-puts_by u k name _;
    takes = λ u name a is known from. keep-hold u k (record { name = name; link = a.link; hears = a.way }) (from.ends a.link a.way k (heard_of D w k n by a e come is));
    dials_as = λ u name uri t known leads from. keep-dials u k name t;
    fails_as = λ u name from. keep-others u _ refl refl;
    refuses_it = λ u a is from. keep-traffic u a.link _ _;
    delivers_one = λ u d a is known from. keep-others u _ refl refl;
  };
}

pub lets : (D : WorldStep) → Lets D Keep
lets D = record {
  none = keep-none;
  then = keep-then;
  each = record {
    over = λ w l. keep-side w l _;
    tells = λ w l j h k e other side. keep-side w l _;
    empty = λ w l. keep-side w l _;
    closes_down = λ w l. keep-traffic w l Down _;
    hub_puts = λ w l j h k st o side wanted is. keep-traffic w l Down _;
    leaves = λ w l j h k c side conn. keep-others w _ refl refl;
    stops = λ w j h here is. keep-others w _ refl refl;
    asks = λ w l j place h k m who side came said is. keep-others w _ refl refl;
    joins = λ w l j place h k m who c replaced side came said is.
        let v = called j l place (Connect who) w in
        let u = with_side l (λ s. record s { conn = Some c }) v in
        keep-then w v _ (keep-others w v refl refl) (keep-then v u _ (keep-side v l _) (keep-side u l _));
    forwards = λ w l j place h k m c side conn came said. keep-others w _ refl refl;
    takes = λ w l j h k c f side conn is.
        let v = with_side l (λ s. record s { taken = s.taken + 1 }) w in
        keep-then w v _ (keep-side w l _) (keep-traffic v l Down _);
    hears = λ w k n by e here come fit. lets-hears k by (λ action. ⊤) (KeepFrom w) (lets_acts D k w n by e come) _ n w (λ from. keep-log w k _) (λ action among. tt) (keep-none w);
    forgets = λ w later. keep-others w _ refl refl;
    arrives = λ w l way k x here is. keep-traffic w l way _;
    loses = λ w l. keep-with_link w l _ receiver-lost;
  };
}

-- Each end that a node has stays one at which it hears, and no link changes its ends.
pub holds_fit : (w : World) (t : TimedStep) → Keep w (makes w t)
holds_fit w t = keep-then w (begun w t) (makes w t) (keep-others w _ refl refl) (lets-makes Keep t (lets t.step) (λ u. keep-others u _ refl refl) w)
