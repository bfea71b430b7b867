-- A run for an application that a fault stopped, of a core that answers as the definition of a node asks, is one of the definition
-- up to there.
-- It serves bsc_node_command.
use Rattle.std.proofs.Common.{◌≡◌, inl, inr, ℕ, Bool, List, [], ◌∷◌, Option, Some, None, unwrap_or}
use Rattle.std.specs.Prelude.{⊤}
use Rattle.bsc_edge.specs.declared.said.Said.{Said}
use Rattle.bsc_node.specs.declared.node_event.NodeEvent.{NodeEvent}
use Rattle.bsc_node.specs.declared.node_event.NodeEvent.TheVariants.{Start}
use Rattle.bsc_node.specs.declared.action.Action.{Action}
use Rattle.bsc_node.specs.Logs.{Made, Log}
use Rattle.bsc_node_run.specs.declared.due.Due.{Due}
use Rattle.bsc_node_run.specs.Drawing.{Drawing, GoesDrawing, at_rest}
use Rattle.bsc_node_run.specs.Moments.{in_hands, moment, outside, run_moment}
use Rattle.bsc_node_run.specs.Running.{DontFall, IsEmpty}
use Rattle.bsc_node_run.specs.Turning.{Turn}
use Rattle.bsc_node_run.specs.Worlds.{Admitting, Dialling, World}
use Rattle.bsc_node_laws.specs.Courses.{GoesAsDefined}
use Rattle.bsc_node_laws.proofs.Beside.{Both, beside}
use Rattle.bsc_node_laws.proofs.Courses.{at_first}
use Rattle.bsc_node_laws.proofs.Lifting.{Holds, Steps}
use Rattle.bsc_node_laws.proofs.Mapping.{Maps, turn_map}
use Rattle.bsc_node_laws.proofs.Stopping.{give_stops, turn_stops}
use Rattle.bsc_node_laws.proofs.StopsMapping.{turn_stops as stops_map}
use Rattle.bsc_node_laws.proofs.Turning.{goes_on_later, ready_start, started, turn}
use Rattle.bsc_application.specs.Breaking.{LiveFails, LiveStop}
use Rattle.bsc_application.specs.Living.{Answered}
use Rattle.bsc_application.proofs.Among.{asks_all}
use Rattle.bsc_application.proofs.Defined.{drawing_steps, held_later, log_beside, log_draws}

-- ---- a run of one core is one of another

module _ {N P L : Type 0} (goes : N → ℕ → NodeEvent → List Action → N → Type 0) (goes' : P → ℕ → NodeEvent → List Action → P → Type 0) (f : N → P)
    (step : Maps goes goes' f) (talk : L → Option (List Said)) (listens : Bool) where
  live_stop_map : (times : List ℕ) (batches : List (List Due)) (taken : List NodeEvent) (start : Option ℕ) (n : N) (w v : World L) (door door' : Admitting L)
      → LiveStop goes talk listens times batches taken start (moment n w door) (in_hands v door') → LiveStop goes' talk listens times batches taken start (moment (f n) w door) (in_hands v door')
  live_stop_map [] [] taken start n w v door door' k = k
  live_stop_map [] (batch ∷ batches) taken start n w v door door' k = absurd k
  live_stop_map (now ∷ times) [] taken start n w v door door' k = absurd k
  live_stop_map (now ∷ times) (batch ∷ batches) taken start n w v door door' (going, fits, inl (last, least, none, s)) =
      (going, fits, inl (last, least, none, stops_map goes goes' f step talk now start batch listens n w v door door' s))
  live_stop_map (now ∷ times) (batch ∷ batches) taken start n w v door door' (going, fits, inr (p, x, mid, t, k)) = (
    going,
    fits,
    inr (
      f p,
      x,
      mid,
      turn_map goes goes' f step talk now start batch [] listens n p w x door mid t,
      live_stop_map times batches taken (Some (unwrap_or start now)) p x v mid door' k,
    ),
  )

  live_fails_map : (turns : ℕ) (n : N) (c c' : Dialling L) (b b' : Option (List ℕ)) (l l' : Admitting L) (t t' : Option (List ℕ)) (k k' : Answered)
      → LiveFails goes talk listens turns (run_moment n c b l t) (outside c' b' l' t') k k' → LiveFails goes' talk listens turns (run_moment (f n) c b l t) (outside c' b' l' t') k k'
  live_fails_map turns n c c' b b' l l' t t' k k' (inl none) = inl none
  live_fails_map turns n c c' b b' l l' t t' k k' (inr r) = inr (
      record {
        times = r.times;
        batches = r.batches;
        taken = r.taken;
        first = r.first;
        last = r.last;
        empty = r.empty;
        went = live_stop_map r.times r.batches r.taken None n r.first r.last l l' r.went;
        asked = r.asked;
        dials = r.dials;
        holds = r.holds;
        readings = r.readings;
        rise = r.rise;
        within = r.within;
      }
      )

-- ---- a run of a core that takes the definition's steps is one of the definition

module _ {N L : Type 0} (goes : N → ℕ → NodeEvent → List Action → N → Type 0) (a : Made) (Stands : N → Log → Type 0) (steps : Steps goes a Stands)
    (talk : L → Option (List Said)) (listens : Bool) where
  -- The turns after the first.
  later_stop : (first : ℕ) (times : List ℕ) (batches : List (List Due)) (taken : List NodeEvent) (from : ℕ) → DontFall from times
      → (n : N) (w v : World L) (door door' : Admitting L) (M : Log) → Holds a Stands from ⊤ n w M → w.due ≡ []
      → LiveStop goes talk listens times batches taken (Some first) (moment n w door) (in_hands v door')
      → LiveStop (Both goes a) talk listens times batches taken (Some first) (moment (beside n M) w door) (in_hands v door')
  later_stop first [] [] taken from fall n w v door door' M h none k = k
  later_stop first [] (batch ∷ batches) taken from fall n w v door door' M h none k = absurd k
  later_stop first (t ∷ times) [] taken from fall n w v door door' M h none k = absurd k
  later_stop first (t ∷ times) (batch ∷ batches) taken from fall n w v door door' M h none (going, fits, inl (last, least, nothing, s)) = (
    going,
    fits,
    inl (
      last,
      least,
      nothing,
      turn_stops goes talk a Stands steps t fall.1 ⊤ (Some first) batch listens n w v door door' M
          (λ o y z same b. goes_on_later goes talk a Stands steps t fall.1 ⊤ first n o w y z M (held_later goes a Stands steps talk listens ⊤ from t n w M fall.0 h) none same b)
          (λ x y same b. absurd b) (asks_all batch fits.0) (λ d c is due. tt) s,
    ),
  )
  later_stop first (t ∷ times) (batch ∷ batches) taken from fall n w v door door' M h none (going, fits, inr (p, x, mid, g, k)) =
      let q : (K : Log) × Turn (Both goes a) talk t (Some first) batch [] listens (moment (beside n M) w door) (moment (beside p K) x mid) × Holds a Stands t ⊤ p x K × (x.due ≡ []) =
      turn goes talk a Stands steps t fall.1 ⊤ (Some first) batch [] listens n p w x door mid M
      (λ o y z same b. goes_on_later goes talk a Stands steps t fall.1 ⊤ first n o w y z M (held_later goes a Stands steps talk listens ⊤ from t n w M fall.0 h) none same b)
      (asks_all batch fits.0) (λ d c is due. tt) g in
      (going, fits, inr (beside p q.0, x, mid, q.1, later_stop first times batches taken t fall.2 p x v mid door' q.0 q.2 q.3 k))

  -- All turns, from a node that was made.
  all_stop : (times : List ℕ) (batches : List (List Due)) (taken : List NodeEvent) → DontFall 0 times
      → (calls : Dialling L) (text : Option (List ℕ)) (n : N) (w v : World L) (door door' : Admitting L) → Stands n [] → IsEmpty calls text w
      → LiveStop goes talk listens times batches taken None (moment n w door) (in_hands v door')
      → LiveStop (Both goes a) talk listens times batches taken None (moment (beside n []) w door) (in_hands v door')
  all_stop [] [] taken fall calls text n w v door door' s empty k = k
  all_stop [] (batch ∷ batches) taken fall calls text n w v door door' s empty k = absurd k
  all_stop (t ∷ times) [] taken fall calls text n w v door door' s empty k = absurd k
  all_stop (t ∷ times) (batch ∷ batches) taken fall calls text n w v door door' s empty (going, fits, inl (last, least, nothing, r)) = (
    going,
    fits,
    inl (
      last,
      least,
      nothing,
      turn_stops goes talk a Stands steps t fall.1 ⊤ None batch listens n w v door door' []
          (λ o y z same b. started goes talk a Stands steps t fall.1 ⊤ n o y z s (at_first calls text w empty y same) b)
          (λ x y same b. give_stops goes talk a Stands steps t fall.1 ⊤ Start n x y [] (ready_start goes talk a Stands steps t fall.1 ⊤ n x s (at_first calls text w empty x same)) b)
          (asks_all batch fits.0) (λ d c is due. tt) r,
    ),
  )
  all_stop (t ∷ times) (batch ∷ batches) taken fall calls text n w v door door' s empty (going, fits, inr (p, x, mid, g, k)) =
      let q : (K : Log) × Turn (Both goes a) talk t None batch [] listens (moment (beside n []) w door) (moment (beside p K) x mid) × Holds a Stands t ⊤ p x K × (x.due ≡ []) =
      turn goes talk a Stands steps t fall.1 ⊤ None batch [] listens n p w x door mid []
      (λ o y z same b. started goes talk a Stands steps t fall.1 ⊤ n o y z s (at_first calls text w empty y same) b)
      (asks_all batch fits.0) (λ d c is due. tt) g in
      (going, fits, inr (beside p q.0, x, mid, q.1, later_stop t times batches taken t fall.2 p x v mid door' q.0 q.2 q.3 k))

  live_fails_lifted : (turns : ℕ) (n : N) (c c' : Dialling L) (b b' : Option (List ℕ)) (l l' : Admitting L) (t t' : Option (List ℕ)) (k k' : Answered) → Stands n []
      → LiveFails goes talk listens turns (run_moment n c b l t) (outside c' b' l' t') k k' → LiveFails (Both goes a) talk listens turns (run_moment (beside n []) c b l t) (outside c' b' l' t') k k'
  live_fails_lifted turns n c c' b b' l l' t t' k k' s (inl none) = inl none
  live_fails_lifted turns n c c' b b' l l' t t' k k' s (inr r) = inr (
      record {
        times = r.times;
        batches = r.batches;
        taken = r.taken;
        first = r.first;
        last = r.last;
        empty = r.empty;
        went = all_stop r.times r.batches r.taken r.rise c b n r.first r.last l l' s r.empty r.went;
        asked = r.asked;
        dials = r.dials;
        holds = r.holds;
        readings = r.readings;
        rise = r.rise;
        within = r.within;
      }
      )

-- A run of such a core that a fault ended is one of the definition up to there, from the empty log on, with the same words.
pub live_fails_defined : {N W L : Type 0} (goes : N → ℕ → NodeEvent → List Action → N → Type 0) (drawn : NodeEvent → W → W → Type 0) (a : Made) (Stands : N → Log → Type 0)
    → Steps goes a Stands → (talk : L → Option (List Said)) (listens : Bool) (turns : ℕ) (n : N) (u : W)
    (c c' : Dialling L) (b b' : Option (List ℕ)) (l l' : Admitting L) (t t' : Option (List ℕ)) (k k' : Answered) → Stands n []
    → LiveFails (GoesDrawing goes drawn) talk listens turns (run_moment (at_rest n u) c b l t) (outside c' b' l' t') k k'
    → LiveFails (GoesDrawing (GoesAsDefined a) drawn) talk listens turns (run_moment (at_rest [] u) c b l t) (outside c' b' l' t') k k'
live_fails_defined {N = N} {W = W} goes drawn a Stands steps talk listens turns n u c c' b b' l l' t t' k k' s r =
    live_fails_map (Both (GoesDrawing goes drawn) a) (GoesDrawing (GoesAsDefined a) drawn) log_beside (log_draws goes drawn a) talk listens turns
    (beside (at_rest n u) []) c c' b b' l l' t t' k k'
    (live_fails_lifted (GoesDrawing goes drawn) a (λ (d : Drawing N W) (M : Log). Stands d.node M) (drawing_steps goes drawn a Stands steps) talk listens turns
    (at_rest n u) c c' b b' l l' t t' k k' s r)
