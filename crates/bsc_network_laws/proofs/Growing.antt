-- Ways only grow: what stands on one stays at its index, no less has arrived, and no link changes its ends.
-- It serves clauses of functions of `laws`.
use Rattle.std.proofs.Common.{◌≡◌, ◌≢◌, ◌≤◌, ◌⊎◌, inl, inr, ℕ, true, List, [], ◌∷◌, ◌++◌, Option, Some, None, refl, ap, sym, subst, ◌∙◌, arith, append_assoc, append-nil}
use Rattle.std.specs.Prelude.{◌+◌, slice_get, ⊤}
use Rattle.std.specs.Option.{option_map}
use Rattle.bsc_history.specs.declared.call.Call.TheVariants.{Connect}
use Rattle.bsc_node.specs.declared.link_name.LinkName.{LinkName}
use Rattle.bsc_network.specs.declared.world_step.WorldStep.{WorldStep}
use Rattle.bsc_network.specs.declared.way.Way.{Way}
use Rattle.bsc_network.specs.declared.way.Way.TheVariants.{Up, Down}
use Rattle.bsc_network.specs.declared.hold.Hold.{Hold}
use Rattle.bsc_network.specs.declared.arrival.Arrival.{Arrival}
use Rattle.bsc_network.specs.declared.parcel.Parcel.{Parcel}
use Rattle.bsc_network.specs.declared.parcel.Content.{Content}
use Rattle.bsc_network.specs.declared.parcel.Content.TheVariants.{Message, Closed}
use Rattle.bsc_network.specs.Traffic.{Traffic, without_front, and_then}
use Rattle.bsc_network.specs.Worlds.{World, HubSide, Node, Link, traffic, node_at, link_at}
use Rattle.bsc_network.specs.Changes.{with_found, with_link, with_side, with_traffic}
use Rattle.bsc_network.specs.HubCalls.{called}
use Rattle.bsc_network.specs.NodeSides.{other_way, hold_of, puts_on, puts_by}
use Rattle.bsc_network.specs.Dialling.{new_link}
use Rattle.bsc_network.proofs.Places.{get-changed, get-other, one_or_two}
use Rattle.bsc_network_laws.proofs.Moves.{Lets}
use Rattle.bsc_network_laws.proofs.Acting.{LetsActs, lets-hears}
use Rattle.bsc_lemmas.proofs.Lists.{got-left}

-- ---- one way, and one link

pub record Longer (s t : Traffic) : Type 0 where
  pub more : List Parcel
  pub put : t.put ≡ s.put ++ more
  pub arrived : s.arrived ≤ t.arrived

-- what stands there does so still
pub stays-at : (s t : Traffic) → Longer s t → (i : ℕ) (x : Parcel) → slice_get s.put i ≡ Some x → slice_get t.put i ≡ Some x
stays-at s t g i x h = ap (λ (xs : List Parcel). slice_get xs i) g.put ∙ got-left s.put g.more i x h

pub longer-none : (t : Traffic) → Longer t t
longer-none t = record { more = []; put = sym (append-nil t.put); arrived = omega arith }

pub longer-then : (r s t : Traffic) → Longer r s → Longer s t → Longer r t
longer-then r s t f g = record {
  more = f.more ++ g.more;
  put = g.put ∙ ap (λ (xs : List Parcel). xs ++ g.more) f.put ∙ append_assoc r.put f.more g.more;
  arrived = (let a = f.arrived in let b = g.arrived in omega arith);
}

longer-put : (x : Parcel) (t : Traffic) → Longer t (and_then x t)
longer-put x t = record { more = x ∷ []; put = refl; arrived = omega arith }

longer-arrived : (t : Traffic) → Longer t (without_front t)
longer-arrived t = record { more = []; put = sym (append-nil t.put); arrived = omega arith }

pub record LinkGrows (x y : Link) : Type 0 where
  pub from : y.from ≡ x.from
  pub to : y.to ≡ x.to
  pub ways : (way : Way) → Longer (traffic way x) (traffic way y)

pub link-none : (x : Link) → LinkGrows x x
link-none x = record { from = refl; to = refl; ways = λ way. longer-none (traffic way x) }

pub link-then : (x y z : Link) → LinkGrows x y → LinkGrows y z → LinkGrows x z
link-then x y z f g = record { from = g.from ∙ f.from; to = g.to ∙ f.to; ways = λ way. longer-then (traffic way x) (traffic way y) (traffic way z) (f.ways way) (g.ways way) }

pub link-traffic : (way : Way) (f : Traffic → Traffic) → ((t : Traffic) → Longer t (f t)) → (x : Link) → LinkGrows x (with_traffic way f x)
link-traffic Up f longer x = record { from = refl; to = refl; ways = by }
  where
    by : (way : Way) → Longer (traffic way x) (traffic way (with_traffic Up f x))
    by Up = longer x.up
    by Down = longer-none x.down
link-traffic Down f longer x = record { from = refl; to = refl; ways = by }
  where
    by : (way : Way) → Longer (traffic way x) (traffic way (with_traffic Down f x))
    by Up = longer-none x.up
    by Down = longer x.down

link-side : (f : HubSide → HubSide) (x : Link) → LinkGrows x (record x { side = f x.side })
link-side f x = record { from = refl; to = refl; ways = by }
  where
    by : (way : Way) → Longer (traffic way x) (traffic way (record x { side = f x.side }))
    by Up = longer-none x.up
    by Down = longer-none x.down

link-lost : (x : Link) → LinkGrows x (record x { is_lost = true })
link-lost x = record { from = refl; to = refl; ways = by }
  where
    by : (way : Way) → Longer (traffic way x) (traffic way (record x { is_lost = true }))
    by Up = longer-none x.up
    by Down = longer-none x.down

-- ---- all links

abbrev pub GrownAt : World → ℕ → Link → Type 0
GrownAt v l x = (y : Link) × (link_at v l ≡ Some y) × LinkGrows x y

pub record Grows (u v : World) : Type 0 where
  pub grown : (l : ℕ) (x : Link) → link_at u l ≡ Some x → GrownAt v l x

pub grows-none : (w : World) → Grows w w
grows-none w = record { grown = λ l x here. (x, here, link-none x) }

pub grows-then : (u v w : World) → Grows u v → Grows v w → Grows u w
grows-then u v w f g = record { grown = λ l x here. let a = f.grown l x here in let b = g.grown l a.0 a.1 in (b.0, b.1, link-then x a.0 b.0 a.2 b.2) }

pub grows-same : (u v : World) → v.links ≡ u.links → Grows u v
grows-same u v links = record { grown = λ l x here. (x, ap (λ (ls : List Link). slice_get ls l) links ∙ here, link-none x) }

grows-link : (w : World) (i : ℕ) (f : Link → Link) → ((x : Link) → LinkGrows x (f x)) → Grows w (with_link i f w)
grows-link w i f grows = record { grown = λ l x here. by l x here (one_or_two i l) }
  where
    by : (l : ℕ) (x : Link) → link_at w l ≡ Some x → (i ≡ l) ⊎ (i ≢ l) → GrownAt (with_link i f w) l x
    by l x here (inl same) = subst (λ (m : ℕ). GrownAt (with_link i f w) m x) same (f x, get-changed i f w.links ∙ ap (option_map f) (ap (slice_get w.links) same ∙ here), grows x)
    by l x here (inr apart) = (x, get-other i f w.links l apart ∙ here, link-none x)

pub grows-puts : (w : World) (l : ℕ) (way : Way) (p : Parcel) → Grows w (with_link l (with_traffic way (and_then p)) w)
grows-puts w l way p = grows-link w l (with_traffic way (and_then p)) (link-traffic way (and_then p) (longer-put p))

pub grows-arrives : (w : World) (l : ℕ) (way : Way) → Grows w (with_link l (with_traffic way without_front) w)
grows-arrives w l way = grows-link w l (with_traffic way without_front) (link-traffic way without_front longer-arrived)

pub grows-side : (w : World) (l : ℕ) (f : HubSide → HubSide) → Grows w (with_side l f w)
grows-side w l f = grows-link w l (λ link. record link { side = f link.side }) (link-side f)

grows-longer : (w : World) (y : Link) → Grows w (record w { links = w.links ++ y ∷ [] })
grows-longer w y = record { grown = λ l x here. (x, got-left w.links (y ∷ []) l x here, link-none x) }

pub grows-puts_by : (w : World) (k : ℕ) (name : LinkName) (content : Content) → Grows w (puts_by k name content w)
grows-puts_by w k name content = at_node (node_at w k)
  where
    at_hold : (o : Option Hold) → Grows w (with_found o (puts_on content) w)
    at_hold None = grows-none w
    at_hold (Some h) = grows-puts w h.link (other_way h.hears) (record { content = content; sent_at = w.steps })

    at_node : (o : Option Node) → Grows w (with_found o (λ n. with_found (hold_of name n) (puts_on content)) w)
    at_node None = grows-none w
    at_node (Some n) = at_hold (hold_of name n)

-- ---- the moves

pub grows-acts : (k : ℕ) (by : Option Arrival) → LetsActs k by (λ action. ⊤) Grows
grows-acts k by = record {
  none = grows-none;
  then = grows-then;
  each = record {
    puts = λ w name o known. grows-puts_by w k name (Message o);
    closes = λ w name. grows-puts_by w k name Closed;
    takes = λ w name a is known. grows-same w _ refl;
    dials_as = λ w name uri t known leads. grows-then w (record w { links = w.links ++ new_link w k t ∷ [] }) _ (grows-longer w (new_link w k t))
        (grows-same (record w { links = w.links ++ new_link w k t ∷ [] }) _ refl);
    fails_as = λ w name. grows-same w _ refl;
    refuses_it = λ w a is. grows-puts w a.link (other_way a.way) _;
    delivers_one = λ w d a is known. grows-same w _ refl;
  };
}

pub grows : (D : WorldStep) → Lets D Grows
grows D = record {
  none = grows-none;
  then = grows-then;
  each = record {
    over = λ w l. grows-side w l _;
    tells = λ w l j h k e other side. grows-side w l _;
    empty = λ w l. grows-side w l _;
    closes_down = λ w l. grows-puts w l Down _;
    hub_puts = λ w l j h k st o side wanted is. grows-puts w l Down _;
    leaves = λ w l j h k c side conn. grows-same w _ refl;
    stops = λ w j h here is. grows-same w _ refl;
    asks = λ w l j place h k m who side came said is. grows-same w _ refl;
    joins = λ w l j place h k m who c replaced side came said is.
        let v = called j l place (Connect who) w in
        let u = with_side l (λ s. record s { conn = Some c }) v in
        grows-then w v _ (grows-same w v refl) (grows-then v u _ (grows-side v l _) (grows-side u l _));
    forwards = λ w l j place h k m c side conn came said. grows-same w _ refl;
    takes = λ w l j h k c f side conn is.
        let v = with_side l (λ s. record s { taken = s.taken + 1 }) w in
        grows-then w v _ (grows-side w l _) (grows-puts v l Down _);
    hears = λ w k n by e here come fit. lets-hears k by (λ action. ⊤) Grows (grows-acts k by) _ n w (grows-same w _ refl) (λ action among. tt);
    forgets = λ w later. grows-same w _ refl;
    arrives = λ w l way k x here is. grows-arrives w l way;
    loses = λ w l. grows-link w l _ link-lost;
  };
}
