-- Who takes part in a network stays the same, and its nodes stay knit, under the VMACs with which they were made.
-- It serves clauses of functions of `laws`.
use Rattle.std.proofs.Common.{◌≡◌, ◌<◌, ℕ, zero, suc, true, List, [], ◌∷◌, ◌++◌, Option, Some, None, refl, ap, sym, subst, ◌∙◌}
use Rattle.std.specs.Prelude.{◌^◌, map, filter_map, slice_get, ⊤}
use Rattle.std.specs.Option.{option_map}
use Rattle.std.proofs.lemmas.Option.{slice_get-map}
use Rattle.std.specs.List.{AllByRecursion}
use Rattle.bsc_history.specs.declared.call.Call.{Call}
use Rattle.bsc_history.specs.declared.limits.About.{About}
use Rattle.bsc_node.specs.declared.action.Action.{Action}
use Rattle.bsc_node.specs.declared.link_name.LinkName.{LinkName}
use Rattle.bsc_node.specs.declared.node_event.NodeEvent.{NodeEvent}
use Rattle.bsc_node.specs.declared.timed_event.TimedEvent.{TimedEvent}
use Rattle.bsc_node.specs.Conditions.{fits}
use Rattle.bsc_node.specs.Logs.{Made, Log, own_vmac, action_of}
use Rattle.bsc_node.specs.Node.{goes_on}
use Rattle.bsc_node_identity.proofs.Settled.{vmac-goes_on}
use Rattle.bsc_node_identity.proofs.Peers.{Knit, knit-goes_on}
use Rattle.bsc_node_identity.proofs.Timely.{Timely}
use Rattle.bsc_network.specs.declared.world_step.WorldStep.{WorldStep}
use Rattle.bsc_network.specs.declared.timed_step.TimedStep.{TimedStep}
use Rattle.bsc_network.specs.declared.target.Target.TheVariants.{Hub as ToHub, Node as ToNode}
use Rattle.bsc_network.specs.declared.hold.Hold.{Hold}
use Rattle.bsc_network.specs.declared.arrival.Arrival.{Arrival}
use Rattle.bsc_network.specs.declared.parcel.Content.{Content}
use Rattle.bsc_network.specs.declared.parcel.Content.TheVariants.{Message, Closed}
use Rattle.bsc_network.specs.Worlds.{World, Hub, Node, hub_at, node_at}
use Rattle.bsc_network.specs.Changes.{changed_at, with_found}
use Rattle.bsc_network.specs.HubCalls.{called}
use Rattle.bsc_network.specs.NodeSides.{hold_of, puts_on, puts_by, holds}
use Rattle.bsc_network.specs.NodeEvents.{brings_about, hears}
use Rattle.bsc_network.proofs.Places.{all-changed, all-changed_here}
use Rattle.bsc_network_laws.specs.Naming.{Cast, identity_in}
use Rattle.bsc_network_laws.proofs.Moves.{Comes, Each, Lets}
use Rattle.bsc_network_laws.proofs.Acting.{Among, goes_on_in, EachAct, LetsActs}
use Rattle.bsc_network_laws.proofs.Sides.{with_call}
use Rattle.bsc_network_laws.proofs.Timing.{no_word_comes}
use Rattle.bsc_network_laws.proofs.Events.{IsOf, by-events}
use Rattle.bsc_network_laws.proofs.Beside.{Keeps, KeepsGiven, KeepsBoth, beside, together, acts-together, hears-beside}
use Rattle.bsc_network_laws.proofs.Stepping.{begun, done, lets-step}
use Rattle.bsc_network_laws.proofs.Knowing.{Knows, knows, Amid, amid, amid-first, amid-log}
use Rattle.bsc_network_laws.proofs.Reached.{IsReached, reached-goes_on}
use Rattle.bsc_lemmas.proofs.Lists.{all-at}
use Rattle.std.proofs.lemmas.Option.{same_Some as some_same}

-- a node's log between two events
pub record Stays (a : Made) (L : Log) : Type 0 where
  pub knit : Knit a L
  pub reached : IsReached a L
  pub vmac : own_vmac a L ≡ a.own.vmac

-- The hubs and nodes of a network are these, and its nodes are knit.
pub record Casts (cast : Cast) (w : World) : Type 0 where
  pub hubs : map (λ h. h.about) w.hubs ≡ cast.hubs
  pub nodes : map (λ n. n.made) w.nodes ≡ cast.nodes
  pub stays : AllByRecursion (λ n. Stays n.made n.log) w.nodes

map-changed : {A B : Type 0} (g : A → B) (i : ℕ) (f : A → A) → ((x : A) → g (f x) ≡ g x) → (xs : List A) → map g (changed_at i f xs) ≡ map g xs
map-changed g i f keeps [] = refl
map-changed g zero f keeps (x ∷ xs) = ap (λ y. y ∷ map g xs) (keeps x)
map-changed g (suc i) f keeps (x ∷ xs) = ap (λ ys. g x ∷ ys) (map-changed g i f keeps xs)

-- ---- moves that change neither hubs nor nodes

pub casts-same : (cast : Cast) (u v : World) → v.hubs ≡ u.hubs → v.nodes ≡ u.nodes → Casts cast u → Casts cast v
casts-same cast u v hubs nodes c = record {
  hubs = ap (map (λ (h : Hub). h.about)) hubs ∙ c.hubs;
  nodes = ap (map (λ (n : Node). n.made)) nodes ∙ c.nodes;
  stays = subst (AllByRecursion (λ (n : Node). Stays n.made n.log)) (sym nodes) c.stays;
}

casts-puts_by : (cast : Cast) (k : ℕ) (name : LinkName) (content : Content) (w : World) → Casts cast w → Casts cast (puts_by k name content w)
casts-puts_by cast k name content w c = at_node (node_at w k)
  where
    at_hold : (o : Option Hold) → Casts cast (with_found o (puts_on content) w)
    at_hold None = c
    at_hold (Some h) = casts-same cast w _ refl refl c

    at_node : (o : Option Node) → Casts cast (with_found o (λ n. with_found (hold_of name n) (puts_on content)) w)
    at_node None = c
    at_node (Some n) = at_hold (hold_of name n)

-- ---- calls, ends of nodes, and their logs

casts-called : (cast : Cast) (w : World) (j caller place : ℕ) (call : Call) → Casts cast w → Casts cast (called j caller place call w)
casts-called cast w j caller place call c = record { hubs = map-changed (λ (h : Hub). h.about) j (with_call w caller place call) (λ h. refl) w.hubs ∙ c.hubs; nodes = c.nodes; stays = c.stays }

casts-holds : (cast : Cast) (k : ℕ) (h : Hold) (w : World) → Casts cast w → Casts cast (holds k h w)
casts-holds cast k h w c = record {
  hubs = c.hubs;
  nodes = map-changed (λ (n : Node). n.made) k (λ n. record n { holds = n.holds ++ h ∷ [] }) (λ n. refl) w.nodes ∙ c.nodes;
  stays = all-changed (λ (n : Node). Stays n.made n.log) k (λ n. record n { holds = n.holds ++ h ∷ [] }) (λ n s. s) w.nodes c.stays;
}

-- an event and what follows from it
pub stays-on : (a : Made) (T : ℕ) (e : NodeEvent) (M : Log) (x : TimedEvent) → IsOf T e M x → Stays a M → Stays a (M ++ goes_on a x M)
stays-on a T e M x of s = record { knit = knit-goes_on a M x s.knit of.may; reached = reached-goes_on a M x s.reached of.may; vmac = vmac-goes_on a M x of.may of.wordless ∙ s.vmac }

pub casts-log : (cast : Cast) (T place : ℕ) (D : WorldStep) (k : ℕ) (n : Node) (by : Option Arrival) (e : NodeEvent) (w : World) → node_at w k ≡ Some n → Comes D w k n by e
    → fits n.log e ≡ true → Knows T place w
    → Casts cast w → Casts cast (goes_on_in k (record { now = w.now; event = e }) w)
casts-log cast T place D k n by e w here come fit known c = record {
  hubs = c.hubs;
  nodes = map-changed (λ (m : Node). m.made) k (λ m. record m { log = m.log ++ brings_about m.made (record { now = w.now; event = e }) m.log }) (λ m. refl) w.nodes ∙ c.nodes;
  stays =
      all-changed_here (λ (m : Node). Stays m.made m.log) k (λ m. record m { log = m.log ++ brings_about m.made (record { now = w.now; event = e }) m.log }) w.nodes
      (λ m at s.
      by-events (Stays m.made) w.now m.made m.log e (subst (λ t. t < 2 ^ 62) (sym known.at.now) known.at.below)
      (subst (λ t. Timely t m.log) (sym known.at.now) (all-at (λ (x : Node). Timely T x.log) w.nodes k m known.at.timely at)) (no_word_comes D w k n by e come)
      (ap (λ (x : Node). fits x.log e) (some_same m n (sym at ∙ here)) ∙ fit) (stays-on m.made w.now e) s)
      c.stays;
}

-- ---- the moves of a step

pub each_act : (cast : Cast) (T place k : ℕ) (w : World) (by : Option Arrival) → EachAct k by (λ action. ⊤) (KeepsGiven (Amid w T place) (Casts cast))
each_act cast T place k w by = record {
  puts = λ u name o known a. casts-puts_by cast k name (Message o) u;
  closes = λ u name a. casts-puts_by cast k name Closed u;
  takes = λ u name b is known a. casts-holds cast k _ u;
  dials_as = λ u name uri t known leads a c. casts-holds cast k _ (record u { links = _ }) (casts-same cast u (record u { links = _ }) refl refl c);
  fails_as = λ u name a. casts-same cast u _ refl refl;
  refuses_it = λ u b is a. casts-same cast u _ refl refl;
  delivers_one = λ u d b is known a. casts-same cast u _ refl refl;
}

casts-hears : (cast : Cast) (T place : ℕ) (D : WorldStep) (w : World) (k : ℕ) (n : Node) (by : Option Arrival) (e : NodeEvent) → node_at w k ≡ Some n → Comes D w k n by e → fits n.log e ≡ true
    → KeepsGiven (Knows T place) (Casts cast) w (hears k by (record { now = w.now; event = e }) n w)
casts-hears cast T place D w k n by e here come fit m =
    hears-beside k by (λ action. ⊤) (Amid w T place) (Casts cast) (amid T place D k w n by e come) (each_act cast T place k w by) (record { now = w.now; event = e }) n w
    (amid-first T place w m) (amid-log T place D k n by e w here come fit m) (casts-log cast T place D k n by e w here come fit m) (λ action among. tt)

-- Who takes part stays the same, and the nodes stay knit.
pub casts_stay : (cast : Cast) (T place : ℕ) (D : WorldStep) → Each D (KeepsGiven (Knows T place) (Casts cast))
casts_stay cast T place D = record {
  over = λ w l m. casts-same cast w _ refl refl;
  tells = λ w l j h k e other side m. casts-same cast w _ refl refl;
  empty = λ w l m. casts-same cast w _ refl refl;
  closes_down = λ w l m. casts-same cast w _ refl refl;
  hub_puts = λ w l j h k st o side wanted is m. casts-same cast w _ refl refl;
  leaves = λ w l j h k c side conn m. casts-called cast w j l w.steps _;
  stops = λ w j h here is m. casts-called cast w j _ w.steps _;
  asks = λ w l j p h k o who side came said is m. casts-called cast w j l p _;
  joins = λ w l j p h k o who c replaced side came said is m s. casts-same cast (called j l p _ w) _ refl refl (casts-called cast w j l p _ s);
  forwards = λ w l j p h k o c side conn came said m. casts-called cast w j l p _;
  takes = λ w l j h k c f side conn is m. casts-same cast w _ refl refl;
  hears = λ w k n by e here come fit. casts-hears cast T place D w k n by e here come fit;
  forgets = λ w later m. casts-same cast w _ refl refl;
  arrives = λ w l way k x here is m. casts-same cast w _ refl refl;
  loses = λ w l m. casts-same cast w _ refl refl;
}

-- ---- all that is known then

-- What is known at each moment of a step, with who takes part.
abbrev pub KnowsAll : Cast → ℕ → ℕ → World → Type 0
KnowsAll cast T place u = Knows T place u × Casts cast u

pub knows_all : (cast : Cast) (T place : ℕ) (D : WorldStep) → Lets D (Keeps (KnowsAll cast T place))
knows_all cast T place D = together D (Knows T place) (Casts cast) (knows T place D) (casts_stay cast T place D)

-- And while the actions of an event are carried out.
abbrev pub AmidAll : World → Cast → ℕ → ℕ → World → Type 0
AmidAll before cast T place u = Amid before T place u × Casts cast u

pub amid_all : (cast : Cast) (T place : ℕ) (D : WorldStep) (k : ℕ) (w : World) (n : Node) (by : Option Arrival) (e : NodeEvent) → Comes D w k n by e
    → LetsActs k by (λ action. ⊤) (Keeps (AmidAll w cast T place))
amid_all cast T place D k w n by e come = acts-together k by (λ action. ⊤) (Amid w T place) (Casts cast) (amid T place D k w n by e come) (each_act cast T place k w by)

-- An event that comes to a node keeps what its actions keep where all this is known.
pub hears-all : (cast : Cast) (T place : ℕ) (D : WorldStep) (k : ℕ) (w : World) (n : Node) (by : Option Arrival) (e : NodeEvent) (Of : Action → Type 0) (Inv : World → Type 0)
    → node_at w k ≡ Some n → Comes D w k n by e → fits n.log e ≡ true
    → EachAct k by Of (KeepsGiven (AmidAll w cast T place) Inv) → KnowsAll cast T place w → (Inv w → Inv (goes_on_in k (record { now = w.now; event = e }) w))
    → ((action : Action) → Among action (filter_map action_of (brings_about n.made (record { now = w.now; event = e }) n.log)) → Of action) → Inv w
    → Inv (hears k by (record { now = w.now; event = e }) n w)
hears-all cast T place D k w n by e Of Inv here come fit N known goes of =
    hears-beside k by Of (AmidAll w cast T place) Inv (amid_all cast T place D k w n by e come) N (record { now = w.now; event = e }) n w
    (amid-first T place w known.0, known.1)
    (amid-log T place D k n by e w here come fit known.0, casts-log cast T place D k n by e w here come fit known.0 known.1) goes of

-- What each move keeps where all this is known, a step keeps.
pub kept-all : (cast : Cast) (Inv : World → Type 0) (t : TimedStep) (place : ℕ) → Each t.step (KeepsGiven (KnowsAll cast t.now place) Inv) → (w : World)
    → KnowsAll cast t.now place (begun w t) → Inv (begun w t) → Inv (done w t)
kept-all cast Inv t place N w known = (lets-step (KeepsBoth (KnowsAll cast t.now place) Inv) t (beside t.step (KnowsAll cast t.now place) Inv (knows_all cast t.now place t.step) N) w known).1

-- Who takes part stays the same over a step.
pub casts-done : (cast : Cast) (t : TimedStep) (place : ℕ) (w : World) → KnowsAll cast t.now place (begun w t) → Casts cast (done w t)
casts-done cast t place w known = (lets-step (Keeps (KnowsAll cast t.now place)) t (knows_all cast t.now place t.step) w known).1

-- ---- facts of who takes part

pub hub-identity : (cast : Cast) (w : World) (j : ℕ) (h : Hub) → Casts cast w → hub_at w j ≡ Some h → identity_in cast (ToHub j) ≡ Some h.about.hub
hub-identity cast w j h c here =
    ap (λ (abouts : List About). option_map (λ (a : About). a.hub) (slice_get abouts j)) (sym c.hubs)
    ∙ ap (option_map (λ (a : About). a.hub)) (slice_get-map (λ (x : Hub). x.about) w.hubs j ∙ ap (option_map (λ (x : Hub). x.about)) here)

pub node-identity : (cast : Cast) (w : World) (k : ℕ) (n : Node) → Casts cast w → node_at w k ≡ Some n → identity_in cast (ToNode k) ≡ Some n.made.own
node-identity cast w k n c here =
    ap (λ (ms : List Made). option_map (λ (m : Made). m.own) (slice_get ms k)) (sym c.nodes)
    ∙ ap (option_map (λ (m : Made). m.own)) (slice_get-map (λ (x : Node). x.made) w.nodes k ∙ ap (option_map (λ (x : Node). x.made)) here)
