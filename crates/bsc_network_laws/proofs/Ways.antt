-- Of each way no more has arrived than was put on it, after each step.
-- It serves clauses of functions of `laws`.
use Rattle.std.proofs.Common.{◌≡◌, ◌≤◌, ◌<◌, ℕ, true, [], ◌∷◌, ◌++◌, Option, Some, None, ap, sym, arith, ◌∙◌}
use Rattle.std.specs.Prelude.{◌+◌, length, ⊤}
use Rattle.std.specs.List.{AllByRecursion}
use Rattle.std.proofs.lemmas.Option.{slice_get_within}
use Rattle.std.proofs.lemmas.List.{length-append}
use Rattle.bsc_history.specs.declared.call.Call.TheVariants.{Connect}
use Rattle.bsc_node.specs.declared.link_name.LinkName.{LinkName}
use Rattle.bsc_network.specs.declared.world_step.WorldStep.{WorldStep}
use Rattle.bsc_network.specs.declared.way.Way.{Way}
use Rattle.bsc_network.specs.declared.way.Way.TheVariants.{Up, Down}
use Rattle.bsc_network.specs.declared.target.Target.{Target}
use Rattle.bsc_network.specs.declared.target.Target.TheVariants.{Hub as ToHub, Node as ToNode}
use Rattle.bsc_network.specs.declared.timed_step.TimedStep.{TimedStep}
use Rattle.bsc_network.specs.declared.hold.Hold.{Hold}
use Rattle.bsc_network.specs.declared.arrival.Arrival.{Arrival}
use Rattle.bsc_network.specs.declared.parcel.Parcel.{Parcel}
use Rattle.bsc_network.specs.declared.parcel.Content.{Content}
use Rattle.bsc_network.specs.Traffic.{Traffic, front, without_front, and_then}
use Rattle.bsc_network.specs.Worlds.{World, Node, HubSide, Link, traffic, node_at}
use Rattle.bsc_network.specs.Changes.{with_found, with_link, with_side, with_traffic}
use Rattle.bsc_network.specs.HubCalls.{called}
use Rattle.bsc_network.specs.NodeSides.{hold_of, puts_on, puts_by, other_way}
use Rattle.bsc_network.specs.Dialling.{new_link}
use Rattle.bsc_network.specs.Networks.{makes}
use Rattle.bsc_network.proofs.Places.{all-changed, all-changed_here}
use Rattle.bsc_network_laws.proofs.Moves.{Lets}
use Rattle.bsc_network_laws.proofs.Acting.{LetsActs, lets-hears}
use Rattle.bsc_network_laws.proofs.Stepping.{lets-makes}
use Rattle.bsc_lemmas.proofs.Lists.{all-push as all-one_more}
use Rattle.std.proofs.lemmas.Option.{same_Some as some_same}

abbrev pub Fits : Traffic → Type 0
Fits t = t.arrived ≤ length t.put

pub record WaysFit (k : Link) : Type 0 where
  pub up : Fits k.up
  pub down : Fits k.down

abbrev Keep : World → World → Type 0
Keep u v = AllByRecursion WaysFit u.links → AllByRecursion WaysFit v.links

fits-more : (x : Parcel) (t : Traffic) → Fits t → Fits (and_then x t)
fits-more x t h = let e : length (t.put ++ x ∷ []) ≡ length t.put + 1 = length-append t.put (x ∷ []) in rw e (omega arith)

puts-way : (way : Way) (x : Parcel) (k : Link) → WaysFit k → WaysFit (with_traffic way (and_then x) k)
puts-way Up x k h = record { up = fits-more x k.up h.up; down = h.down }
puts-way Down x k h = record { up = h.up; down = fits-more x k.down h.down }

keep-puts : (w : World) (l : ℕ) (way : Way) (x : Parcel) → Keep w (with_link l (with_traffic way (and_then x)) w)
keep-puts w l way x = all-changed WaysFit l (with_traffic way (and_then x)) (λ k h. puts-way way x k h) w.links

keep-side : (w : World) (l : ℕ) (f : HubSide → HubSide) → Keep w (with_side l f w)
keep-side w l f = all-changed WaysFit l (λ link. record link { side = f link.side }) (λ k h. record { up = h.up; down = h.down }) w.links

keep-found : (w : World) (content : Content) (h : Option Hold) → Keep w (with_found h (puts_on content) w)
keep-found w content None all = all
keep-found w content (Some h) all = keep-puts w h.link (other_way h.hears) (record { content = content; sent_at = w.steps }) all

keep-node : (w : World) (content : Content) (name : LinkName) (n : Option Node) → Keep w (with_found n (λ m. with_found (hold_of name m) (puts_on content)) w)
keep-node w content name None all = all
keep-node w content name (Some n) all = keep-found w content (hold_of name n) all

keep-puts_by : (w : World) (k : ℕ) (name : LinkName) (content : Content) → Keep w (puts_by k name content w)
keep-puts_by w k name content = keep-node w content name (node_at w k)

new_fits : (w : World) (k : ℕ) (t : Target) → WaysFit (new_link w k t)
new_fits w k (ToHub j) = record { up = omega arith; down = omega arith }
new_fits w k (ToNode j) = record { up = omega arith; down = omega arith }

lets_acts : (k : ℕ) (by : Option Arrival) → LetsActs k by (λ action. ⊤) Keep
lets_acts k by = record {
  none = λ w all. all;
  then = λ u v w f g all. g (f all);
  each = record {
    puts = λ w name o known. keep-puts_by w k name _;
    closes = λ w name. keep-puts_by w k name _;
    takes = λ w name a is known all. all;
    dials_as = λ w name uri t known leads all. all-one_more WaysFit w.links (new_link w k t) all (new_fits w k t);
    fails_as = λ w name all. all;
    refuses_it = λ w a is. keep-puts w a.link (other_way a.way) _;
    delivers_one = λ w d a is known all. all;
  };
}

arrived_fits : (t : Traffic) (x : Parcel) → front t ≡ Some x → Fits (without_front t)
arrived_fits t x h = let b : t.arrived < length t.put = slice_get_within t.put t.arrived x h in omega arith

arrives-way : (way : Way) (k : Link) (x : Parcel) → front (traffic way k) ≡ Some x → WaysFit k → WaysFit (with_traffic way without_front k)
arrives-way Up k x is h = record { up = arrived_fits k.up x is; down = h.down }
arrives-way Down k x is h = record { up = h.up; down = arrived_fits k.down x is }

lets : (D : WorldStep) → Lets D Keep
lets D = record {
  none = λ w all. all;
  then = λ u v w f g all. g (f all);
  each = record {
    over = λ w l. keep-side w l _;
    tells = λ w l j h k e other side. keep-side w l _;
    empty = λ w l. keep-side w l _;
    closes_down = λ w l. keep-puts w l Down _;
    hub_puts = λ w l j h k st o side wanted is. keep-puts w l Down _;
    leaves = λ w l j h k c side conn all. all;
    stops = λ w j h here is all. all;
    asks = λ w l j place h k m who side came said is all. all;
    joins = λ w l j place h k m who c replaced side came said is all. keep-side (with_side l (λ s. record s { conn = Some c }) (called j l place (Connect who) w)) l _
        (keep-side (called j l place (Connect who) w) l _ all);
    forwards = λ w l j place h k m c side conn came said all. all;
    takes = λ w l j h k c f side conn is all. keep-puts (with_side l (λ s. record s { taken = s.taken + 1 }) w) l Down _ (keep-side w l _ all);
    hears = λ w k n by e here come fit. lets-hears k by (λ action. ⊤) Keep (lets_acts k by) _ n w (λ all. all) (λ action among. tt);
    forgets = λ w later all. all;
    arrives = λ w l way k x here is all.
        all-changed_here WaysFit l (with_traffic way without_front) w.links (λ y at h. arrives-way way y x (ap (λ (z : Link). front (traffic way z)) (some_same y k (sym at ∙ here)) ∙ is) h) all;
    loses = λ w l. all-changed WaysFit l (λ link. record link { is_lost = true }) (λ k h. record { up = h.up; down = h.down }) w.links;
  };
}

-- Of each way no more has arrived than was put on it.
pub ways_fit : (w : World) (t : TimedStep) → AllByRecursion WaysFit w.links → AllByRecursion WaysFit (makes w t).links
ways_fit w t = lets-makes Keep t (lets t.step) (λ u all. all) w
