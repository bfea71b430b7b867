-- What stands only grows: each hub, node and link stays under its number with what it is, and what it has done stays, with more
-- behind it.
-- It serves clauses of functions of `laws`.
use Rattle.std.proofs.Common.{◌≡◌, ◌≢◌, ◌⊎◌, inl, inr, ℕ, List, [], ◌∷◌, ◌++◌, Option, Some, None, refl, ap, sym, subst, ◌∙◌, append_assoc, append-nil}
use Rattle.std.specs.Prelude.{◌+◌, slice_get, ⊤}
use Rattle.std.specs.Option.{option_map}
use Rattle.bsc_history.specs.declared.call.Call.{Call}
use Rattle.bsc_history.specs.declared.call.Call.TheVariants.{Connect}
use Rattle.bsc_node.specs.declared.link_name.LinkName.{LinkName}
use Rattle.bsc_node.specs.declared.timed_event.TimedEvent.{TimedEvent}
use Rattle.bsc_network.specs.declared.world_step.WorldStep.{WorldStep}
use Rattle.bsc_network.specs.declared.way.Way.{Way}
use Rattle.bsc_network.specs.declared.way.Way.TheVariants.{Up, Down}
use Rattle.bsc_network.specs.declared.target.Target.{Target}
use Rattle.bsc_network.specs.declared.hold.Hold.{Hold}
use Rattle.bsc_network.specs.declared.arrival.Arrival.{Arrival}
use Rattle.bsc_network.specs.declared.parcel.Content.{Content}
use Rattle.bsc_network.specs.declared.parcel.Content.TheVariants.{Message, Closed}
use Rattle.bsc_network.specs.Traffic.{Traffic, without_front, and_then}
use Rattle.bsc_network.specs.Worlds.{World, Hub, HubSide, Node, Link, node_at}
use Rattle.bsc_network.specs.Changes.{changed_at, with_found, with_hub, with_node, with_link, with_side, with_traffic, puts_at}
use Rattle.bsc_network.specs.HubCalls.{called}
use Rattle.bsc_network.specs.NodeSides.{hold_of, puts_on, puts_by, holds}
use Rattle.bsc_network.specs.Dialling.{dials, new_link}
use Rattle.bsc_network.proofs.Places.{get-changed, get-other, one_or_two}
use Rattle.bsc_network_laws.proofs.Moves.{Lets}
use Rattle.bsc_network_laws.proofs.Acting.{goes_on_in, LetsActs, lets-hears}
use Rattle.bsc_network_laws.proofs.Sides.{with_call}
use Rattle.bsc_lemmas.proofs.Lists.{got-left}

-- ---- lists

-- a list that begins with another
pub record Longer {A : Type 0} (xs ys : List A) : Type 0 where
  pub more : List A
  pub is : ys ≡ xs ++ more

pub longer-none : {A : Type 0} (xs : List A) → Longer xs xs
longer-none xs = record { more = []; is = sym (append-nil xs) }

pub longer-by : {A : Type 0} (xs more : List A) → Longer xs (xs ++ more)
longer-by xs more = record { more = more; is = refl }

longer-then : {A : Type 0} (xs ys zs : List A) → Longer xs ys → Longer ys zs → Longer xs zs
longer-then xs ys zs f g = record { more = f.more ++ g.more; is = g.is ∙ ap (λ (l : List _). l ++ g.more) f.is ∙ append_assoc xs f.more g.more }

-- Each element of a list has one at its place in another, to which it is so.
pub record AllStay {A : Type 0} (R : A → A → Type 0) (xs ys : List A) : Type 0 where
  pub at : (i : ℕ) (x : A) → slice_get xs i ≡ Some x → (y : A) × (slice_get ys i ≡ Some y) × R x y

stay-none : {A : Type 0} (R : A → A → Type 0) → ((x : A) → R x x) → (xs : List A) → AllStay R xs xs
stay-none R none xs = record { at = λ i x h. (x, h, none x) }

stay-then : {A : Type 0} (R : A → A → Type 0) → ((x y z : A) → R x y → R y z → R x z) → (xs ys zs : List A) → AllStay R xs ys → AllStay R ys zs → AllStay R xs zs
stay-then R next xs ys zs f g = record { at = λ i x h. let a = f.at i x h in let b = g.at i a.0 a.1 in (b.0, b.1, next x a.0 b.0 a.2 b.2) }

stay-changed : {A : Type 0} (R : A → A → Type 0) → ((x : A) → R x x) → (j : ℕ) (f : A → A) → ((x : A) → R x (f x)) → (xs : List A) → AllStay R xs (changed_at j f xs)
stay-changed R none j f step xs = record { at = λ i x h. by i x h (one_or_two j i) }
  where
    by : (i : ℕ) (x : _) → slice_get xs i ≡ Some x → (j ≡ i) ⊎ (j ≢ i) → (y : _) × (slice_get (changed_at j f xs) i ≡ Some y) × R x y
    by i x h (inl same) = (f x, ap (λ (m : ℕ). slice_get (changed_at j f xs) m) (sym same) ∙ get-changed j f xs ∙ ap (option_map f) (ap (slice_get xs) same ∙ h), step x)
    by i x h (inr apart) = (x, get-other j f xs i apart ∙ h, none x)

stay-longer : {A : Type 0} (R : A → A → Type 0) → ((x : A) → R x x) → (xs more : List A) → AllStay R xs (xs ++ more)
stay-longer R none xs more = record { at = λ i x h. (x, got-left xs more i x h, none x) }

-- ---- hubs, nodes and links

pub record HubGrows (h g : Hub) : Type 0 where
  pub about : g.about ≡ h.about
  pub posted : Longer h.posted g.posted

pub record NodeGrows (n m : Node) : Type 0 where
  pub made : m.made ≡ n.made
  pub log : Longer n.log m.log
  pub holds : Longer n.holds m.holds

pub record LinkGrows (x y : Link) : Type 0 where
  pub from : y.from ≡ x.from
  pub to : y.to ≡ x.to
  pub up : Longer x.up.put y.up.put
  pub down : Longer x.down.put y.down.put

hub-none : (h : Hub) → HubGrows h h
hub-none h = record { about = refl; posted = longer-none h.posted }

node-none : (n : Node) → NodeGrows n n
node-none n = record { made = refl; log = longer-none n.log; holds = longer-none n.holds }

link-none : (x : Link) → LinkGrows x x
link-none x = record { from = refl; to = refl; up = longer-none x.up.put; down = longer-none x.down.put }

hub-then : (f g h : Hub) → HubGrows f g → HubGrows g h → HubGrows f h
hub-then f g h p q = record { about = q.about ∙ p.about; posted = longer-then f.posted g.posted h.posted p.posted q.posted }

node-then : (l m n : Node) → NodeGrows l m → NodeGrows m n → NodeGrows l n
node-then l m n p q = record { made = q.made ∙ p.made; log = longer-then l.log m.log n.log p.log q.log; holds = longer-then l.holds m.holds n.holds p.holds q.holds }

link-then : (x y z : Link) → LinkGrows x y → LinkGrows y z → LinkGrows x z
link-then x y z p q = record { from = q.from ∙ p.from; to = q.to ∙ p.to; up = longer-then x.up.put y.up.put z.up.put p.up q.up; down = longer-then x.down.put y.down.put z.down.put p.down q.down }

-- All that stood in one network stands in another, grown.
pub record Lasts (u v : World) : Type 0 where
  pub hubs : AllStay HubGrows u.hubs v.hubs
  pub nodes : AllStay NodeGrows u.nodes v.nodes
  pub links : AllStay LinkGrows u.links v.links

pub lasts-none : (w : World) → Lasts w w
lasts-none w = record { hubs = stay-none HubGrows hub-none w.hubs; nodes = stay-none NodeGrows node-none w.nodes; links = stay-none LinkGrows link-none w.links }

pub lasts-then : (u v w : World) → Lasts u v → Lasts v w → Lasts u w
lasts-then u v w f g = record {
  hubs = stay-then HubGrows hub-then u.hubs v.hubs w.hubs f.hubs g.hubs;
  nodes = stay-then NodeGrows node-then u.nodes v.nodes w.nodes f.nodes g.nodes;
  links = stay-then LinkGrows link-then u.links v.links w.links f.links g.links;
}

pub lasts-same : (u v : World) → v.hubs ≡ u.hubs → v.nodes ≡ u.nodes → v.links ≡ u.links → Lasts u v
lasts-same u v hubs nodes links = record {
  hubs = subst (AllStay HubGrows u.hubs) (sym hubs) (stay-none HubGrows hub-none u.hubs);
  nodes = subst (AllStay NodeGrows u.nodes) (sym nodes) (stay-none NodeGrows node-none u.nodes);
  links = subst (AllStay LinkGrows u.links) (sym links) (stay-none LinkGrows link-none u.links);
}

lasts-hub : (w : World) (j : ℕ) (f : Hub → Hub) → ((h : Hub) → HubGrows h (f h)) → Lasts w (with_hub j f w)
lasts-hub w j f step = record { hubs = stay-changed HubGrows hub-none j f step w.hubs; nodes = stay-none NodeGrows node-none w.nodes; links = stay-none LinkGrows link-none w.links }

lasts-node : (w : World) (k : ℕ) (f : Node → Node) → ((n : Node) → NodeGrows n (f n)) → Lasts w (with_node k f w)
lasts-node w k f step = record { hubs = stay-none HubGrows hub-none w.hubs; nodes = stay-changed NodeGrows node-none k f step w.nodes; links = stay-none LinkGrows link-none w.links }

lasts-link : (w : World) (l : ℕ) (f : Link → Link) → ((x : Link) → LinkGrows x (f x)) → Lasts w (with_link l f w)
lasts-link w l f step = record { hubs = stay-none HubGrows hub-none w.hubs; nodes = stay-none NodeGrows node-none w.nodes; links = stay-changed LinkGrows link-none l f step w.links }

-- ---- moves

link-traffic : (way : Way) (f : Traffic → Traffic) → ((t : Traffic) → Longer t.put (f t).put) → (x : Link) → LinkGrows x (with_traffic way f x)
link-traffic Up f step x = record { from = refl; to = refl; up = step x.up; down = longer-none x.down.put }
link-traffic Down f step x = record { from = refl; to = refl; up = longer-none x.up.put; down = step x.down }

pub lasts-puts : (w : World) (l : ℕ) (way : Way) (place : ℕ) (content : Content) → Lasts w (puts_at l way place content w)
lasts-puts w l way place content = lasts-link w l _ (link-traffic way (and_then (record { content = content; sent_at = place }))
    (λ t. longer-by t.put (record { content = content; sent_at = place } ∷ [])))

pub lasts-side : (w : World) (l : ℕ) (f : HubSide → HubSide) → Lasts w (with_side l f w)
lasts-side w l f = lasts-link w l _ (λ x. record { from = refl; to = refl; up = longer-none x.up.put; down = longer-none x.down.put })

pub lasts-called : (w : World) (j caller place : ℕ) (call : Call) → Lasts w (called j caller place call w)
lasts-called w j caller place call = lasts-hub w j (with_call w caller place call) (λ h. record { about = refl; posted = longer-by h.posted _ })

pub lasts-holds : (w : World) (k : ℕ) (h : Hold) → Lasts w (holds k h w)
lasts-holds w k h = lasts-node w k _ (λ n. record { made = refl; log = longer-none n.log; holds = longer-by n.holds (h ∷ []) })

pub lasts-log : (w : World) (k : ℕ) (event : TimedEvent) → Lasts w (goes_on_in k event w)
lasts-log w k event = lasts-node w k _ (λ n. record { made = refl; log = longer-by n.log _; holds = longer-none n.holds })

pub lasts-longer : (w : World) (x : Link) → Lasts w (record w { links = w.links ++ x ∷ [] })
lasts-longer w x = record { hubs = stay-none HubGrows hub-none w.hubs; nodes = stay-none NodeGrows node-none w.nodes; links = stay-longer LinkGrows link-none w.links (x ∷ []) }

pub lasts-dials : (w : World) (k : ℕ) (name : LinkName) (t : Target) → Lasts w (dials k name t w)
lasts-dials w k name t =
    let v : World = record w { links = w.links ++ new_link w k t ∷ [] } in
    lasts-then w v (dials k name t w) (lasts-longer w (new_link w k t)) (lasts-holds v k _)

pub lasts-puts_by : (w : World) (k : ℕ) (name : LinkName) (content : Content) → Lasts w (puts_by k name content w)
lasts-puts_by w k name content = at_node (node_at w k)
  where
    at_hold : (o : Option Hold) → Lasts w (with_found o (puts_on content) w)
    at_hold None = lasts-none w
    at_hold (Some h) = lasts-puts w h.link _ w.steps content

    at_node : (o : Option Node) → Lasts w (with_found o (λ n. with_found (hold_of name n) (puts_on content)) w)
    at_node None = lasts-none w
    at_node (Some n) = at_hold (hold_of name n)

pub lets_acts : (k : ℕ) (by : Option Arrival) → LetsActs k by (λ action. ⊤) Lasts
lets_acts k by = record {
  none = lasts-none;
  then = lasts-then;
  each = record {
    puts = λ w name o known. lasts-puts_by w k name (Message o);
    closes = λ w name. lasts-puts_by w k name Closed;
    takes = λ w name a is known. lasts-holds w k _;
    dials_as = λ w name uri t known leads. lasts-dials w k name t;
    fails_as = λ w name. lasts-same w _ refl refl refl;
    refuses_it = λ w a is. lasts-puts w a.link _ w.steps Closed;
    delivers_one = λ w d a is known. lasts-same w _ refl refl refl;
  };
}

pub lets : (D : WorldStep) → Lets D Lasts
lets D = record {
  none = lasts-none;
  then = lasts-then;
  each = record {
    over = λ w l. lasts-side w l _;
    tells = λ w l j h k e other side. lasts-side w l _;
    empty = λ w l. lasts-side w l _;
    closes_down = λ w l. lasts-puts w l Down w.steps Closed;
    hub_puts = λ w l j h k st o side wanted is. lasts-puts w l Down w.steps (Message o);
    leaves = λ w l j h k c side conn. lasts-called w j l w.steps _;
    stops = λ w j h here is. lasts-called w j _ w.steps _;
    asks = λ w l j place h k m who side came said is. lasts-called w j l place _;
    joins = λ w l j place h k m who c replaced side came said is.
        let v = called j l place (Connect who) w in
        let u = with_side l (λ s. record s { conn = Some c }) v in
        lasts-then w v _ (lasts-called w j l place _) (lasts-then v u _ (lasts-side v l _) (lasts-side u l _));
    forwards = λ w l j place h k m c side conn came said. lasts-called w j l place _;
    takes = λ w l j h k c f side conn is.
        let v = with_side l (λ s. record s { taken = s.taken + 1 }) w in
        lasts-then w v _ (lasts-side w l _) (lasts-puts v l Down f.sent_at (Message f.octets));
    hears = λ w k n by e here come fit. lets-hears k by (λ action. ⊤) Lasts (lets_acts k by) _ n w (lasts-log w k _) (λ action among. tt);
    forgets = λ w later. lasts-same w _ refl refl refl;
    arrives = λ w l way k x here is. lasts-link w l _ (link-traffic way without_front (λ t. longer-none t.put));
    loses = λ w l. lasts-link w l _ (λ x. record { from = refl; to = refl; up = longer-none x.up.put; down = longer-none x.down.put });
  };
}
