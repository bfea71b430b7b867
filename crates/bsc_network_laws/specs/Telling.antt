-- A network whose nodes are told of more dials that failed than the most that `most_failures` allows: it is the same network.
use Rattle.std.specs.Prelude.{◌≡◌, ℕ, ◌+◌, true, List, [], ◌∷◌, fold, Option, Some, None}
use Rattle.bsc_node.specs.declared.node_event.NodeEvent.{NodeEvent}
use Rattle.bsc_node.specs.declared.node_event.NodeEvent.TheVariants.{Lost}
use Rattle.bsc_network.specs.declared.way.Way.{Way}
use Rattle.bsc_network.specs.declared.way.Way.TheVariants.{Up, Down}
use Rattle.bsc_network.specs.declared.arrival.Arrival.{Arrival}
use Rattle.bsc_network.specs.declared.parcel.Parcel.{Parcel}
use Rattle.bsc_network.specs.declared.world_step.WorldStep.{WorldStep}
use Rattle.bsc_network.specs.declared.world_step.WorldStep.TheVariants.{Node as OfNode, Arrive, Lose}
use Rattle.bsc_network.specs.declared.timed_step.TimedStep.{TimedStep}
use Rattle.bsc_network.specs.declared.step_refusal.StepRefusal.{StepRefusal}
use Rattle.bsc_network.specs.Settings.{Added}
use Rattle.bsc_network.specs.Traffic.{front, without_front}
use Rattle.bsc_network.specs.Worlds.{World, Link, traffic, new_world}
use Rattle.bsc_network.specs.Changes.{Change, in_order, with_link, with_traffic, with_found, of_node, of_link, by_target}
use Rattle.bsc_network.specs.HubSides.{leaves, unless_over}
use Rattle.bsc_network.specs.NodeSides.{name_of}
use Rattle.bsc_network.specs.NodeEvents.{comes_once, hears_all_failures, most_failures}
use Rattle.bsc_network.specs.Arriving.{event_of, reaches_hub}
use Rattle.bsc_network.specs.Refusals.{refusal}
use Rattle.bsc_network.specs.Networks.{does, at_time, counts_step, world}
use Rattle.bsc_network.specs.Courses.{IsCourse}

-- ---- the only difference

-- An event comes to a node, and then it is told of the dials that failed: of so many more as a network's nodes are at most.
abbrev pub comes_telling : ℕ → ℕ → Option Arrival → NodeEvent → Change
comes_telling more k by e = of_node k (λ n. in_order (comes_once k by e ∷ hears_all_failures (most_failures n + more) k ∷ []))

-- ---- a step in which each event comes so

abbrev pub reaches_node_telling : ℕ → ℕ → Way → Parcel → ℕ → Change
reaches_node_telling more l way x k =
    of_node k (λ n. with_found (event_of x.content (name_of l way n)) (comes_telling more k (Some (record { link = l; way = way; sent_at = x.sent_at }))))

abbrev pub reaches_telling : ℕ → ℕ → Way → Link → Parcel → Change
reaches_telling more l Down link x = reaches_node_telling more l Down x link.from
reaches_telling more l Up link x = by_target link.to (λ j. reaches_hub l x) (reaches_node_telling more l Up x)

abbrev pub arrives_telling : ℕ → ℕ → Way → Change
arrives_telling more l way =
    of_link l (λ link. with_found (front (traffic way link)) (λ x. in_order (with_link l (with_traffic way without_front) ∷ reaches_telling more l way link x ∷ [])))

abbrev pub loses_telling : ℕ → ℕ → Way → ℕ → Change
loses_telling more l way k = of_node k (λ n. with_found (name_of l way n) (λ name. comes_telling more k None (Lost name)))

abbrev pub is_lost_telling : ℕ → ℕ → Change
is_lost_telling more l =
    of_link l (λ link. in_order
    (with_link l (λ it. record it { is_lost = true })
    ∷ loses_telling more l Down link.from
    ∷ by_target link.to (λ j. unless_over l (leaves l)) (loses_telling more l Up)
    ∷ []))

-- What a step does. A take and a stop bring no event to a node.
abbrev pub does_telling : ℕ → WorldStep → Change
does_telling more (OfNode k e) w = comes_telling more k None e w
does_telling more (Arrive l way) w = arrives_telling more l way w
does_telling more (Lose l) w = is_lost_telling more l w
does_telling more step w = does step w

abbrev pub does_telling_unless : ℕ → Option StepRefusal → WorldStep → Change
does_telling_unless more None step w = does_telling more step w
does_telling_unless more (Some refused) step w = w

abbrev pub makes_telling : ℕ → World → TimedStep → World
makes_telling more w t = counts_step (does_telling_unless more (refusal w t.step) t.step (at_time t.now w))

-- What stands after some steps of such a network.
abbrev pub world_telling : ℕ → List Added → List TimedStep → World
world_telling more added steps = fold (makes_telling more) (new_world added) steps

-- ---- the law

-- However many more dials that failed the nodes of a network are told of, it is the same network: none was left untold.
abbrev pub FailuresAreAllHeard : Type 0
FailuresAreAllHeard = (more : ℕ) (added : List Added) (steps : List TimedStep) → IsCourse added steps → world_telling more added steps ≡ world added steps
