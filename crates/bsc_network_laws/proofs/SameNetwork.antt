-- A network whose nodes are told of more dials that failed is the same network.
-- It serves the clauses of `failures_are_all_heard`.
use Rattle.std.proofs.Common.{◌≡◌, ℕ, true, List, [], ◌∷◌, ◌++◌, Option, Some, None, refl, ap, sym, subst, ◌∙◌, append_assoc}
use Rattle.std.specs.Prelude.{◌+◌, fold, length, map, slice_get}
use Rattle.bsc_octets.specs.declared.vmac.Vmac.{Vmac}
use Rattle.bsc_node.specs.declared.node_event.NodeEvent.{NodeEvent}
use Rattle.bsc_node.specs.declared.node_event.NodeEvent.TheVariants.{Lost, Send}
use Rattle.bsc_network.specs.declared.way.Way.{Way}
use Rattle.bsc_network.specs.declared.way.Way.TheVariants.{Up, Down}
use Rattle.bsc_network.specs.declared.target.Target.{Target}
use Rattle.bsc_network.specs.declared.target.Target.TheVariants.{Hub as ToHub, Node as ToNode}
use Rattle.bsc_network.specs.declared.arrival.Arrival.{Arrival}
use Rattle.bsc_network.specs.declared.parcel.Parcel.{Parcel}
use Rattle.bsc_network.specs.declared.world_step.WorldStep.{WorldStep}
use Rattle.bsc_network.specs.declared.world_step.WorldStep.TheVariants.{Node as OfNode, Arrive, Lose, Take, Stop}
use Rattle.bsc_network.specs.declared.step_refusal.StepRefusal.{StepRefusal}
use Rattle.bsc_network.specs.declared.timed_step.TimedStep.{TimedStep}
use Rattle.bsc_network.specs.Traffic.{front, without_front}
use Rattle.bsc_network.specs.Worlds.{World, Node, Link, traffic, node_at, link_at, new_world}
use Rattle.bsc_network.specs.Changes.{Change, in_order, with_link, with_traffic, with_found, by_target}
use Rattle.bsc_network.specs.HubSides.{leaves, unless_over}
use Rattle.bsc_network.specs.NodeSides.{name_of}
use Rattle.bsc_network.specs.NodeEvents.{comes}
use Rattle.bsc_network.specs.Arriving.{event_of, reaches_hub, reaches_node, reaches, arrives, loses, is_lost}
use Rattle.bsc_network.specs.Refusals.{refusal}
use Rattle.bsc_network.specs.Networks.{does, does_unless, counts_step, makes}
use Rattle.bsc_network.specs.Courses.{MayMake, MayMakeAll}
use Rattle.bsc_network_laws.specs.Deliveries.{Sends}
use Rattle.bsc_network_laws.specs.Naming.{Cast, cast_of}
use Rattle.bsc_network_laws.specs.Telling.{comes_telling, reaches_node_telling, reaches_telling, arrives_telling, loses_telling, is_lost_telling}
use Rattle.bsc_network_laws.specs.Telling.{does_telling, does_telling_unless, makes_telling, FailuresAreAllHeard}
use Rattle.bsc_network_laws.proofs.Reached.{IsReached}
use Rattle.bsc_network_laws.proofs.Whole.{as_whole}
use Rattle.bsc_network_laws.proofs.Beginning.{step-whole}
use Rattle.bsc_network_laws.proofs.Stepping.{begun, lets-loses}
use Rattle.bsc_network_laws.proofs.Beside.{Keeps}
use Rattle.bsc_network_laws.proofs.Casting.{Stays, Casts, KnowsAll, knows_all, casts-same}
use Rattle.bsc_network_laws.proofs.Diallers.{IsFit, nodes_fit}
use Rattle.bsc_network_laws.proofs.Running.{Runs, known, step-at, one_longer, runs-makes, runs-new}
use Rattle.bsc_network_laws.proofs.FailuresHeard.{same-comes}
use Rattle.bsc_network_laws.proofs.Untold.{loses-tells, untold-makes}
use Rattle.bsc_lemmas.proofs.Lists.{all-at}

-- the log of each node is that of events which might come
node_reached : (cast : Cast) (w : World) → Casts cast w → (k : ℕ) (n : Node) → node_at w k ≡ Some n → IsReached n.made n.log
node_reached cast w c k n here = (all-at (λ (x : Node). Stays x.made x.log) w.nodes k n c.stays here).reached

comes_same : (cast : Cast) (more k : ℕ) (by : Option Arrival) (e : NodeEvent) (w : World) → Casts cast w → w.failed ≡ [] → comes_telling more k by e w ≡ comes k by e w
comes_same cast more k by e w c u = same-comes more k by e w (λ n here. node_reached cast w c k n here) u

-- two changes by what is found are one, where they are of what is found
found_same : {A : Type 0} (o : Option A) (f g : A → Change) (w : World) → ((x : A) → f x w ≡ g x w) → with_found o f w ≡ with_found o g w
found_same None f g w h = refl
found_same (Some x) f g w h = h x

target_same : (t : Target) (f g h : ℕ → Change) (w : World) → ((k : ℕ) → g k w ≡ h k w) → by_target t f g w ≡ by_target t f h w
target_same (ToHub j) f g h w same = refl
target_same (ToNode k) f g h w same = same k

reaches_node_same : (cast : Cast) (more l : ℕ) (way : Way) (x : Parcel) (k : ℕ) (w : World) → Casts cast w → w.failed ≡ [] → reaches_node_telling more l way x k w ≡ reaches_node l way x k w
reaches_node_same cast more l way x k w c u =
    found_same (node_at w k) (λ n. with_found (event_of x.content (name_of l way n)) (comes_telling more k (Some (record { link = l; way = way; sent_at = x.sent_at }))))
    (λ n. with_found (event_of x.content (name_of l way n)) (comes k (Some (record { link = l; way = way; sent_at = x.sent_at })))) w
    (λ n. found_same (event_of x.content (name_of l way n)) (comes_telling more k (Some (record { link = l; way = way; sent_at = x.sent_at })))
    (comes k (Some (record { link = l; way = way; sent_at = x.sent_at }))) w (λ e. comes_same cast more k (Some (record { link = l; way = way; sent_at = x.sent_at })) e w c u))

reaches_same : (cast : Cast) (more l : ℕ) (way : Way) (link : Link) (x : Parcel) (w : World) → Casts cast w → w.failed ≡ [] → reaches_telling more l way link x w ≡ reaches l way link x w
reaches_same cast more l Down link x w c u = reaches_node_same cast more l Down x link.from w c u
reaches_same cast more l Up link x w c u =
    target_same link.to (λ j. reaches_hub l x) (reaches_node_telling more l Up x) (reaches_node l Up x) w (λ k. reaches_node_same cast more l Up x k w c u)

arrives_same : (cast : Cast) (more l : ℕ) (way : Way) (w : World) → Casts cast w → w.failed ≡ [] → arrives_telling more l way w ≡ arrives l way w
arrives_same cast more l way w c u =
    found_same (link_at w l) (λ link. with_found (front (traffic way link)) (λ x. in_order (with_link l (with_traffic way without_front) ∷ reaches_telling more l way link x ∷ [])))
    (λ link. with_found (front (traffic way link)) (λ x. in_order (with_link l (with_traffic way without_front) ∷ reaches l way link x ∷ []))) w
    (λ link. found_same (front (traffic way link)) (λ x. in_order (with_link l (with_traffic way without_front) ∷ reaches_telling more l way link x ∷ []))
    (λ x. in_order (with_link l (with_traffic way without_front) ∷ reaches l way link x ∷ [])) w
    (λ x. reaches_same cast more l way link x (with_link l (with_traffic way without_front) w) (casts-same cast w (with_link l (with_traffic way without_front) w) refl refl c) u))

loses_same : (cast : Cast) (more l : ℕ) (way : Way) (k : ℕ) (w : World) → Casts cast w → w.failed ≡ [] → loses_telling more l way k w ≡ loses l way k w
loses_same cast more l way k w c u =
    found_same (node_at w k) (λ n. with_found (name_of l way n) (λ name. comes_telling more k None (Lost name))) (λ n. with_found (name_of l way n) (λ name. comes k None (Lost name))) w
    (λ n. found_same (name_of l way n) (λ name. comes_telling more k None (Lost name)) (λ name. comes k None (Lost name)) w (λ name. comes_same cast more k None (Lost name) w c u))

-- The other end is told where what is known is still known.
is_lost_same : (cast : Cast) (T place more l : ℕ) (w : World) → KnowsAll cast T place w → w.failed ≡ [] → is_lost_telling more l w ≡ is_lost l w
is_lost_same cast T place more l w known u =
    found_same (link_at w l)
    (λ link. in_order (with_link l (λ it. record it { is_lost = true }) ∷ loses_telling more l Down link.from ∷ by_target link.to (λ j. unless_over l (leaves l)) (loses_telling more l Up) ∷ []))
    (λ link. in_order (with_link l (λ it. record it { is_lost = true }) ∷ loses l Down link.from ∷ by_target link.to (λ j. unless_over l (leaves l)) (loses l Up) ∷ [])) w both_ends
  where
    gone : World
    gone = with_link l (λ it. record it { is_lost = true }) w

    known_gone : KnowsAll cast T place gone
    known_gone = (knows_all cast T place (Lose l)).each.loses w l known

    both_ends : (link : Link) → by_target link.to (λ j. unless_over l (leaves l)) (loses_telling more l Up) (loses_telling more l Down link.from gone)
        ≡ by_target link.to (λ j. unless_over l (leaves l)) (loses l Up) (loses l Down link.from gone)
    both_ends link =
        let told = loses l Down link.from gone in
        let lets = step-whole gone (Lose l) (Keeps (KnowsAll cast T place)) (as_whole (Lose l) (Keeps (KnowsAll cast T place)) (knows_all cast T place (Lose l))) in
        let known_then : KnowsAll cast T place told = lets-loses gone (Lose l) (Keeps (KnowsAll cast T place)) lets gone l Down link.from known_gone in
        ap (by_target link.to (λ j. unless_over l (leaves l)) (loses_telling more l Up)) (loses_same cast more l Down link.from gone known_gone.1 u)
        ∙ target_same link.to (λ j. unless_over l (leaves l)) (loses_telling more l Up) (loses l Up) told
        (λ k. loses_same cast more l Up k told known_then.1 (loses-tells l Down link.from gone u))

-- ---- a step

does_same : (cast : Cast) (T place more : ℕ) (step : WorldStep) (w : World) → KnowsAll cast T place w → w.failed ≡ [] → does_telling more step w ≡ does step w
does_same cast T place more (OfNode k e) w known u = comes_same cast more k None e w known.1 u
does_same cast T place more (Arrive l way) w known u = arrives_same cast more l way w known.1 u
does_same cast T place more (Lose l) w known u = is_lost_same cast T place more l w known u
does_same cast T place more (Take l) w known u = refl
does_same cast T place more (Stop j) w known u = refl

unless_same : (cast : Cast) (T place more : ℕ) (r : Option StepRefusal) (step : WorldStep) (w : World) → KnowsAll cast T place w → w.failed ≡ []
    → does_telling_unless more r step w ≡ does_unless r step w
unless_same cast T place more None step w known u = does_same cast T place more step w known u
unless_same cast T place more (Some r) step w known u = refl

makes_same : (cast : Cast) (T place more : ℕ) (w : World) (t : TimedStep) → KnowsAll cast T place (begun w t) → w.failed ≡ [] → makes_telling more w t ≡ makes w t
makes_same cast T place more w t known u = ap counts_step (unless_same cast T place more (refusal w t.step) t.step (begun w t) known u)

-- ---- all steps

-- after the steps before, and then the others
same_on : (cast : Cast) → IsFit cast → (more : ℕ) (steps before ts : List TimedStep) (T : ℕ) (w : World) → steps ≡ before ++ ts → Runs cast (Sends steps) T (length before) w → w.failed ≡ []
    → MayMakeAll T ts → fold (makes_telling more) w ts ≡ fold makes w ts
same_on cast fit more steps before [] T w is r u may = refl
same_on cast fit more steps before (t ∷ ts) T w is r u may =
    let one : MayMake T t = may.0 in
    let sends = λ (k : ℕ) (dest : Vmac) (npdu : List ℕ) (own : t.step ≡ OfNode k (Send dest npdu)).
    ap (λ (xs : List TimedStep). slice_get (map (λ x. x.step) xs) (length before)) is ∙ step-at before t ts ∙ ap Some own in
    let next = runs-makes cast fit (Sends steps) T (length before) w t r one.later one.in_range sends in
    let here : Runs cast (Sends steps) T w.steps w = subst (λ p. Runs cast (Sends steps) T p w) (sym r.place_is) r in
    ap (λ (v : World). fold (makes_telling more) v ts) (makes_same cast t.now w.steps more w t (known cast (Sends steps) T w t here one.later one.in_range) u)
    ∙ same_on cast fit more steps (before ++ t ∷ []) ts t.now (makes w t) (is ∙ sym (append_assoc before (t ∷ []) ts))
    (subst (λ p. Runs cast (Sends steps) t.now p (makes w t)) (one_longer before t) next) (untold-makes w t u) may.1

pub failures_are_all_heard : FailuresAreAllHeard
failures_are_all_heard more added steps course =
    same_on (cast_of added) (nodes_fit added course.added_all) more steps [] steps 0 (new_world added) refl (runs-new added steps course.added_all) refl course.made_all
