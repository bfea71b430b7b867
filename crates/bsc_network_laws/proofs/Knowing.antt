-- What is known at each moment of a step: its time and place, that the nodes are timely, that the ends that they have are those at
-- which they hear, and that what comes down from hubs was taken.
-- It serves clauses of functions of `laws`.
use Rattle.std.proofs.Common.{◌≡◌, ◌≤◌, ◌<◌, ℕ, true, Option, Some, refl}
use Rattle.std.specs.Prelude.{◌^◌, ⊤}
use Rattle.bsc_node.specs.declared.node_event.NodeEvent.{NodeEvent}
use Rattle.bsc_node.specs.Conditions.{fits}
use Rattle.bsc_network.specs.declared.world_step.WorldStep.{WorldStep}
use Rattle.bsc_network.specs.declared.timed_step.TimedStep.{TimedStep}
use Rattle.bsc_network.specs.declared.arrival.Arrival.{Arrival}
use Rattle.bsc_network.specs.Worlds.{World, Node, node_at}
use Rattle.bsc_network_laws.proofs.Moves.{Comes, Each, Lets}
use Rattle.bsc_network_laws.proofs.Acting.{goes_on_in, LetsActs}
use Rattle.bsc_network_laws.proofs.Stepping.{begun, done, lets-step, lets-step_from}
use Rattle.bsc_network_laws.proofs.Beside.{Keeps, KeepsGiven, KeepsBoth, each-as, both, beside, acts-both}
use Rattle.bsc_network_laws.proofs.Beginning.{EachFrom, lets-from, beside-from}
use Rattle.bsc_network_laws.proofs.Holding.{HoldsFit, keep-none, keep-then, keep-log, keep-others}
use Rattle.bsc_network_laws.proofs.Holding as Holding
use Rattle.bsc_network_laws.proofs.Timing.{AllTimely, At, at-log, at-begun}
use Rattle.bsc_network_laws.proofs.Timing as Timing
use Rattle.bsc_network_laws.proofs.Taken.{SidesFit}
use Rattle.bsc_network_laws.proofs.Taken as Taken

pub record Knows (T place : ℕ) (u : World) : Type 0 where
  pub at : At T place u
  pub holds : HoldsFit u
  pub sides : SidesFit u

-- Each move keeps it.
pub knows : (T place : ℕ) (D : WorldStep) → Lets D (Keeps (Knows T place))
knows T place D = record {
  none = λ w k. k;
  then = λ u v w f g k. g (f k);
  each =
      each-as D (λ u v. Timing.Keep T place u v × Taken.Keeps u v) (Keeps (Knows T place))
      (λ u v f k. record { at = f.0 k.at; holds = f.1.base.holds k.holds; sides = f.1.sides k.holds k.sides })
      M.each;
}
  where
    M : Lets D (λ u v. Timing.Keep T place u v × Taken.Keeps u v)
    M = both D (Timing.Keep T place) Taken.Keeps (Timing.lets T place D) (Taken.lets D)

-- ---- the moments of an event

-- What is known while the actions of an event are carried out that came to this network: what hears at an end does so still.
pub record Amid (before : World) (T place : ℕ) (u : World) : Type 0 where
  pub kept : Holding.Keep before u
  pub knows : Knows T place u

pub amid : (T place : ℕ) (D : WorldStep) (k : ℕ) (w : World) (n : Node) (by : Option Arrival) (e : NodeEvent) → Comes D w k n by e → LetsActs k by (λ action. ⊤) (Keeps (Amid w T place))
amid T place D k w n by e come = record {
  none = λ u a. a;
  then = λ u v x f g a. g (f a);
  each = record {
    puts = λ u name o known a. goes u _ (M.each.puts u name o known) a;
    closes = λ u name a. goes u _ (M.each.closes u name) a;
    takes = λ u name b is known a. goes u _ (M.each.takes u name b is known) a;
    dials_as = λ u name uri t known leads a. goes u _ (M.each.dials_as u name uri t known leads) a;
    fails_as = λ u name a. goes u _ (M.each.fails_as u name) a;
    refuses_it = λ u b is a. goes u _ (M.each.refuses_it u b is) a;
    delivers_one = λ u d b is known a. goes u _ (M.each.delivers_one u d b is known) a;
  };
}
  where
    M : LetsActs k by (λ action. ⊤) (λ u v. Timing.Keep T place u v × (Holding.Keep w u → Taken.Keeps u v))
    M = acts-both k by (λ action. ⊤) (Timing.Keep T place) (λ u v. Holding.Keep w u → Taken.Keeps u v) (Timing.lets_acts T place k by) (Taken.lets_acts D k w n by e come)

    goes : (u v : World) → Timing.Keep T place u v × (Holding.Keep w u → Taken.Keeps u v) → Amid w T place u → Amid w T place v
    goes u v f a = record {
      kept = keep-then w u v a.kept (f.1 a.kept).base;
      knows = record { at = f.0 a.knows.at; holds = (f.1 a.kept).base.holds a.knows.holds; sides = (f.1 a.kept).sides a.knows.holds a.knows.sides };
    }

-- It is so at first, and once the node's log went on.
pub amid-first : (T place : ℕ) (w : World) → Knows T place w → Amid w T place w
amid-first T place w k = record { kept = keep-none w; knows = k }

pub amid-log : (T place : ℕ) (D : WorldStep) (k : ℕ) (n : Node) (by : Option Arrival) (e : NodeEvent) (w : World) → node_at w k ≡ Some n → Comes D w k n by e → fits n.log e ≡ true → Knows T place w
    → Amid w T place (goes_on_in k (record { now = w.now; event = e }) w)
amid-log T place D k n by e w here come fit known = record {
  kept = keep-log w k _;
  knows = record { at = at-log T place D k n by e w here come fit known.at; holds = (keep-log w k _).holds known.holds; sides = known.sides };
}

-- ---- a step

-- It is so at the beginning of a step.
pub knows-begun : (T : ℕ) (w : World) (t : TimedStep) → T ≤ t.now → t.now < 2 ^ 62 → AllTimely T w → HoldsFit w → SidesFit w → Knows t.now w.steps (begun w t)
knows-begun T w t after below timely holds sides = record { at = at-begun T w t after below timely; holds = (keep-others w (begun w t) refl refl).holds holds; sides = sides }

-- What each move keeps where this is known, a step keeps.
pub kept-step : (Inv : World → Type 0) (t : TimedStep) (place : ℕ) → Each t.step (KeepsGiven (Knows t.now place) Inv) → (w : World) → Knows t.now place (begun w t) → Inv (begun w t) → Inv (done w t)
kept-step Inv t place N w known = (lets-step (KeepsBoth (Knows t.now place) Inv) t (beside t.step (Knows t.now place) Inv (knows t.now place t.step) N) w known).1

-- The same, of what each move keeps of a step that began so.
pub kept-from : (Inv : World → Type 0) (t : TimedStep) (place : ℕ) (w : World) → EachFrom (begun w t) t.step (KeepsGiven (Knows t.now place) Inv) → Knows t.now place (begun w t)
    → Inv (begun w t) → Inv (done w t)
kept-from Inv t place w N known =
    (lets-step_from (KeepsBoth (Knows t.now place) Inv) t w (beside-from (begun w t) t.step (Knows t.now place) Inv
    (lets-from (begun w t) t.step (Keeps (Knows t.now place)) (knows t.now place t.step)) N) known).1
