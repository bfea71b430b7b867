-- After each step no node awaits a word, and none has met a time that is still to come. So each event that comes to a node is one
-- that may come, on which the laws of a node stand.
-- It serves clauses of functions of `laws`.
use Rattle.std.proofs.Common.{◌≡◌, ◌≤◌, ◌<◌, inl, inr, ℕ, Bool, true, false, [], ◌∷◌, ◌++◌, Option, Some, None, refl, ap, sym, subst, ◌∙◌, append_assoc}
use Rattle.std.specs.Prelude.{◌^◌, IsTrue, if◌then◌else◌, map, ⊤}
use Rattle.std.specs.List.{AllByRecursion, list_any}
use Rattle.bsc_node.specs.declared.node_event.NodeEvent.{NodeEvent}
use Rattle.bsc_node.specs.declared.node_event.NodeEvent.TheVariants.{Random, NoRandom}
use Rattle.bsc_node.specs.declared.timed_event.TimedEvent.{TimedEvent}
use Rattle.bsc_node.specs.declared.link_name.LinkName.{LinkName}
use Rattle.bsc_node.specs.Logs.{Made, Log, in_order}
use Rattle.bsc_node.specs.Laws.{draws}
use Rattle.bsc_node.specs.Node.{goes_on, actions_at}
use Rattle.bsc_node.specs.Conditions.{fits, may_come, brings_word}
use Rattle.bsc_node_laws.proofs.Drawn.{draws_at}
use Rattle.bsc_node_identity.proofs.Timely.{Timely, may_then, timely-undrawn, timely-settled, timely-later}
use Rattle.bsc_network.specs.declared.world_step.WorldStep.{WorldStep}
use Rattle.bsc_network.specs.declared.timed_step.TimedStep.{TimedStep}
use Rattle.bsc_network.specs.declared.hold.Hold.{Hold}
use Rattle.bsc_network.specs.declared.arrival.Arrival.{Arrival}
use Rattle.bsc_network.specs.declared.parcel.Content.{Content}
use Rattle.bsc_network.specs.declared.parcel.Content.TheVariants.{Opened, Arrived, Message, Closed}
use Rattle.bsc_network.specs.Worlds.{World, Node, node_at}
use Rattle.bsc_network.specs.Changes.{with_found}
use Rattle.bsc_network.specs.NodeSides.{hold_of, puts_on, puts_by, holds, name_of}
use Rattle.bsc_network.specs.NodeEvents.{brings_about}
use Rattle.bsc_network.specs.Arriving.{event_of}
use Rattle.bsc_network.specs.Refusals.{is_own}
use Rattle.bsc_network.specs.Networks.{makes}
use Rattle.bsc_network.proofs.Places.{all-changed, all-changed_here, all-mapped}
use Rattle.bsc_network_laws.proofs.Moves.{Comes, Lets}
use Rattle.bsc_network_laws.proofs.Acting.{goes_on_in, LetsActs, lets-hears}
use Rattle.bsc_network_laws.proofs.Stepping.{begun, done, lets-step}
use Rattle.bsc_node.proofs.Common.{no_word_then}
use Rattle.std.proofs.lemmas.Option.{same_Some as some_same}
use Rattle.bsc_node.proofs.Following.{brought-one, brought-two}
use Rattle.bsc_node.proofs.Moments.{now_then}

-- ---- the log of a node after an event of a step

-- The log is timely after them.
pub timely-after : (T : ℕ) (a : Made) (L : Log) (e : NodeEvent) → T < 2 ^ 62 → Timely T L → brings_word e ≡ false → fits L e ≡ true → Timely T (L ++ brings_about a (record { now = T; event = e }) L)
timely-after T a L e below timely word fit = by (list_any draws (actions_at a L event)) refl
  where
    event : TimedEvent
    event = record { now = T; event = e }

    none : TimedEvent
    none = record { now = T; event = NoRandom }

    may : IsTrue (may_come L event)
    may = may_then T L e below timely word fit

    by : (b : Bool) → list_any draws (actions_at a L event) ≡ b → Timely T (L ++ in_order (map (goes_on a) (if b then event ∷ none ∷ [] else event ∷ [])) L)
    by false drawn = subst (λ lines. Timely T (L ++ lines)) (sym (brought-one a event L)) (timely-undrawn a L event may drawn)
    by true drawn =
        let M = L ++ goes_on a event L in
        let next = no_word_then T M below (now_then a L event may) (draws_at a L event may ∙ drawn) in
        subst (λ lines. Timely T (L ++ lines)) (sym (brought-two a event none L))
        (subst (Timely T) (append_assoc L (goes_on a event L) (goes_on a none M)) (timely-settled a M none next refl))

-- ---- no event that comes brings a word

abbrev brings : Option NodeEvent → Bool
brings None = false
brings (Some e) = brings_word e

none_of : (content : Content) (name : Option LinkName) → brings (event_of content name) ≡ false
none_of Arrived name = refl
none_of Opened (Some name) = refl
none_of (Message o) (Some name) = refl
none_of Closed (Some name) = refl
none_of Opened None = refl
none_of (Message o) None = refl
none_of Closed None = refl

none_own : (e : NodeEvent) → is_own e ≡ true → brings_word e ≡ false
none_own (Random w) h = cc
none_own NoRandom h = cc
none_own e h = refl

pub no_word_comes : (D : WorldStep) (w : World) (k : ℕ) (n : Node) (by : Option Arrival) (e : NodeEvent) → Comes D w k n by e → brings_word e ≡ false
no_word_comes D w k n (Some a) e (content, heard, came, is) = ap brings (sym is) ∙ none_of content (name_of a.link a.way n)
no_word_comes D w k n None e (inl own) = none_own e own.1
no_word_comes D w k n None e (inr (inl (l, way, name, is, held))) = ap brings_word is
no_word_comes D w k n None e (inr (inr (name, is))) = ap brings_word is

-- ---- all nodes

abbrev pub AllTimely : ℕ → World → Type 0
AllTimely T w = AllByRecursion (λ n. Timely T n.log) w.nodes

-- What holds at each moment of a step: its time and place, which nothing changes, and that the nodes are timely.
pub record At (T place : ℕ) (w : World) : Type 0 where
  pub below : T < 2 ^ 62
  pub now : w.now ≡ T
  pub steps : w.steps ≡ place
  pub timely : AllTimely T w

abbrev pub Keep : ℕ → ℕ → World → World → Type 0
Keep T place u v = At T place u → At T place v

at-holds : (T place k : ℕ) (h : Hold) (w : World) → Keep T place w (holds k h w)
at-holds T place k h w at = record {
  below = at.below;
  now = at.now;
  steps = at.steps;
  timely = all-changed (λ (n : Node). Timely T n.log) k (λ n. record n { holds = n.holds ++ h ∷ [] }) (λ n calm. calm) w.nodes at.timely;
}

pub at-same : (T place : ℕ) (u v : World) → v.now ≡ u.now → v.steps ≡ u.steps → v.nodes ≡ u.nodes → Keep T place u v
at-same T place u v now steps nodes at = record { below = at.below; now = now ∙ at.now; steps = steps ∙ at.steps; timely = subst (AllByRecursion (λ (n : Node). Timely T n.log)) (sym nodes) at.timely }

at-puts_by : (T place k : ℕ) (name : LinkName) (content : Content) (w : World) → Keep T place w (puts_by k name content w)
at-puts_by T place k name content w = at_node (node_at w k)
  where
    at_hold : (o : Option Hold) → Keep T place w (with_found o (puts_on content) w)
    at_hold None at = at
    at_hold (Some h) at = at-same T place w _ refl refl refl at

    at_node : (o : Option Node) → Keep T place w (with_found o (λ n. with_found (hold_of name n) (puts_on content)) w)
    at_node None at = at
    at_node (Some n) at = at_hold (hold_of name n) at

pub at-log : (T place : ℕ) (D : WorldStep) (k : ℕ) (n : Node) (by : Option Arrival) (e : NodeEvent) (w : World) → node_at w k ≡ Some n → Comes D w k n by e → fits n.log e ≡ true
    → Keep T place w (goes_on_in k (record { now = w.now; event = e }) w)
at-log T place D k n by e w here come fit at = record {
  below = at.below;
  now = at.now;
  steps = at.steps;
  timely =
      all-changed_here (λ (m : Node). Timely T m.log) k (λ m. record m { log = m.log ++ brings_about m.made (record { now = w.now; event = e }) m.log }) w.nodes
      (λ m there calm. subst (λ (now : ℕ). Timely T (m.log ++ brings_about m.made (record { now = now; event = e }) m.log)) (sym at.now)
      (timely-after T m.made m.log e at.below calm (no_word_comes D w k n by e come) (ap (λ (x : Node). fits x.log e) (some_same m n (sym there ∙ here)) ∙ fit)))
      at.timely;
}

pub lets_acts : (T place k : ℕ) (by : Option Arrival) → LetsActs k by (λ action. ⊤) (Keep T place)
lets_acts T place k by = record {
  none = λ w at. at;
  then = λ u v w f g at. g (f at);
  each = record {
    puts = λ w name o known. at-puts_by T place k name (Message o) w;
    closes = λ w name. at-puts_by T place k name Closed w;
    takes = λ w name a is known. at-holds T place k _ w;
    dials_as = λ w name uri t known leads at. at-holds T place k _ (record w { links = _ }) (at-same T place w (record w { links = _ }) refl refl refl at);
    fails_as = λ w name. at-same T place w _ refl refl refl;
    refuses_it = λ w a is. at-same T place w _ refl refl refl;
    delivers_one = λ w d a is known. at-same T place w _ refl refl refl;
  };
}

pub lets : (T place : ℕ) (D : WorldStep) → Lets D (Keep T place)
lets T place D = record {
  none = λ w at. at;
  then = λ u v w f g at. g (f at);
  each = record {
    over = λ w l. at-same T place w _ refl refl refl;
    tells = λ w l j h k e other side. at-same T place w _ refl refl refl;
    empty = λ w l. at-same T place w _ refl refl refl;
    closes_down = λ w l. at-same T place w _ refl refl refl;
    hub_puts = λ w l j h k st o side wanted is. at-same T place w _ refl refl refl;
    leaves = λ w l j h k c side conn. at-same T place w _ refl refl refl;
    stops = λ w j h here is. at-same T place w _ refl refl refl;
    asks = λ w l j p h k m who side came said is. at-same T place w _ refl refl refl;
    joins = λ w l j p h k m who c replaced side came said is. at-same T place w _ refl refl refl;
    forwards = λ w l j p h k m c side conn came said. at-same T place w _ refl refl refl;
    takes = λ w l j h k c f side conn is. at-same T place w _ refl refl refl;
    hears = λ w k n by e here come fit. lets-hears k by (λ action. ⊤) (Keep T place) (lets_acts T place k by) _ n w (at-log T place D k n by e w here come fit) (λ action among. tt);
    forgets = λ w later. at-same T place w _ refl refl refl;
    arrives = λ w l way k x here is. at-same T place w _ refl refl refl;
    loses = λ w l. at-same T place w _ refl refl refl;
  };
}

-- At the beginning of a step the nodes are timely at its time, where they were at a time before it.
pub at-begun : (T : ℕ) (w : World) (t : TimedStep) → T ≤ t.now → t.now < 2 ^ 62 → AllTimely T w → At t.now w.steps (begun w t)
at-begun T w t after below all = record {
  below = below;
  now = refl;
  steps = refl;
  timely = all-mapped (λ (n : Node). Timely T n.log) (λ (n : Node). Timely t.now n.log) (λ n. timely-later T t.now n.log after) w.nodes all;
}

-- And so they are after it.
pub all_timely : (T : ℕ) (w : World) (t : TimedStep) → T ≤ t.now → t.now < 2 ^ 62 → AllTimely T w → AllTimely t.now (makes w t)
all_timely T w t after below all = (lets-step (Keep t.now w.steps) t (lets t.now w.steps t.step) w (at-begun T w t after below all)).timely

-- At the end of a step the time and the place are still those of the step.
pub at-done : (T : ℕ) (w : World) (t : TimedStep) → T ≤ t.now → t.now < 2 ^ 62 → AllTimely T w → At t.now w.steps (done w t)
at-done T w t after below all = lets-step (Keep t.now w.steps) t (lets t.now w.steps t.step) w (at-begun T w t after below all)
