-- How a core that answers as the definition of a node asks waits in a run for an application, is how a run of the definition waits.
-- It serves bsc_node_command.
use Rattle.std.proofs.Common.{◌≡◌, inl, inr, ℕ, Bool, List, [], ◌∷◌, Option, Some, None, unwrap_or}
use Rattle.std.specs.Prelude.{⊤}
use Rattle.bsc_edge.specs.declared.said.Said.{Said}
use Rattle.bsc_node.specs.declared.node_event.NodeEvent.{NodeEvent}
use Rattle.bsc_node.specs.declared.action.Action.{Action}
use Rattle.bsc_node.specs.Logs.{Made, Log}
use Rattle.bsc_node_run.specs.declared.due.Due.{Due}
use Rattle.bsc_node_run.specs.Drawing.{Drawing, GoesDrawing, at_rest}
use Rattle.bsc_node_run.specs.Moments.{moment, run_moment}
use Rattle.bsc_node_run.specs.Running.{DontFall, IsEmpty}
use Rattle.bsc_node_run.specs.Turning.{Turn}
use Rattle.bsc_node_run.specs.Worlds.{Admitting, Dialling, World}
use Rattle.bsc_node_laws.specs.Courses.{GoesAsDefined}
use Rattle.bsc_node_laws.proofs.Beside.{Both, beside}
use Rattle.bsc_node_laws.proofs.Courses.{at_first}
use Rattle.bsc_node_laws.proofs.Lifting.{Holds, Steps}
use Rattle.bsc_node_laws.proofs.Mapping.{Maps, turn_map}
use Rattle.bsc_node_laws.proofs.Turning.{goes_on_later, started, turn}
use Rattle.bsc_application.specs.Pausing.{HasPaused, Paused}
use Rattle.bsc_application.proofs.Among.{asks_all}
use Rattle.bsc_application.proofs.Defined.{drawing_steps, held_later, log_beside, log_draws}

module _ {N P L : Type 0} (goes : N → ℕ → NodeEvent → List Action → N → Type 0) (goes' : P → ℕ → NodeEvent → List Action → P → Type 0) (f : N → P)
    (step : Maps goes goes' f) (talk : L → Option (List Said)) (listens : Bool) where
  paused_map : (times waits : List ℕ) (start : Option ℕ) (last : List Due) (n : N) (w : World L) (door : Admitting L)
      → Paused goes talk listens times waits start last (moment n w door) → Paused goes' talk listens times waits start last (moment (f n) w door)
  paused_map [] [] start last n w door r = tt
  paused_map [] (wait ∷ []) start last n w door so = so
  paused_map [] (wait ∷ other ∷ waits) start last n w door r = absurd r
  paused_map (now ∷ times) [] start last n w door r = absurd r
  paused_map (now ∷ times) (wait ∷ waits) start last n w door (so, inl over) = (so, inl over)
  paused_map (now ∷ times) (wait ∷ waits) start last n w door (so, inr (batch, p, x, mid, fits, g, k)) = (
    so,
    inr (
      batch,
      f p,
      x,
      mid,
      fits,
      turn_map goes goes' f step talk now start batch [] listens n p w x door mid g,
      paused_map times waits (Some (unwrap_or start now)) batch p x mid k,
    ),
  )

module _ {N L : Type 0} (goes : N → ℕ → NodeEvent → List Action → N → Type 0) (a : Made) (Stands : N → Log → Type 0) (steps : Steps goes a Stands)
    (talk : L → Option (List Said)) (listens : Bool) where
  -- The turns after the first.
  later_paused : (first : ℕ) (times waits : List ℕ) (from : ℕ) (last : List Due) → DontFall from times
      → (n : N) (w : World L) (door : Admitting L) (M : Log) → Holds a Stands from ⊤ n w M → w.due ≡ []
      → Paused goes talk listens times waits (Some first) last (moment n w door) → Paused (Both goes a) talk listens times waits (Some first) last (moment (beside n M) w door)
  later_paused first [] [] from last fall n w door M h none r = tt
  later_paused first [] (wait ∷ []) from last fall n w door M h none so = so
  later_paused first [] (wait ∷ other ∷ waits) from last fall n w door M h none r = absurd r
  later_paused first (t ∷ times) [] from last fall n w door M h none r = absurd r
  later_paused first (t ∷ times) (wait ∷ waits) from last fall n w door M h none (so, inl over) = (so, inl over)
  later_paused first (t ∷ times) (wait ∷ waits) from last fall n w door M h none (so, inr (batch, p, x, mid, fits, g, k)) =
      let q : (K : Log) × Turn (Both goes a) talk t (Some first) batch [] listens (moment (beside n M) w door) (moment (beside p K) x mid) × Holds a Stands t ⊤ p x K × (x.due ≡ []) =
      turn goes talk a Stands steps t fall.1 ⊤ (Some first) batch [] listens n p w x door mid M
      (λ o y z same b. goes_on_later goes talk a Stands steps t fall.1 ⊤ first n o w y z M (held_later goes a Stands steps talk listens ⊤ from t n w M fall.0 h) none same b)
      (asks_all batch fits.0) (λ d c is due. tt) g in
      (so, inr (batch, beside p q.0, x, mid, fits, q.1, later_paused first times waits t batch fall.2 p x mid q.0 q.2 q.3 k))

  -- All turns of a node that was made.
  all_paused : (times waits : List ℕ) → DontFall 0 times
      → (calls : Dialling L) (text : Option (List ℕ)) (n : N) (w : World L) (door : Admitting L) → Stands n [] → IsEmpty calls text w
      → Paused goes talk listens times waits None [] (moment n w door) → Paused (Both goes a) talk listens times waits None [] (moment (beside n []) w door)
  all_paused [] [] fall calls text n w door s empty r = tt
  all_paused [] (wait ∷ []) fall calls text n w door s empty so = so
  all_paused [] (wait ∷ other ∷ waits) fall calls text n w door s empty r = absurd r
  all_paused (t ∷ times) [] fall calls text n w door s empty r = absurd r
  all_paused (t ∷ times) (wait ∷ waits) fall calls text n w door s empty (so, inl over) = (so, inl over)
  all_paused (t ∷ times) (wait ∷ waits) fall calls text n w door s empty (so, inr (batch, p, x, mid, fits, g, k)) =
      let q : (K : Log) × Turn (Both goes a) talk t None batch [] listens (moment (beside n []) w door) (moment (beside p K) x mid) × Holds a Stands t ⊤ p x K × (x.due ≡ []) =
      turn goes talk a Stands steps t fall.1 ⊤ None batch [] listens n p w x door mid []
      (λ o y z same b. started goes talk a Stands steps t fall.1 ⊤ n o y z s (at_first calls text w empty y same) b)
      (asks_all batch fits.0) (λ d c is due. tt) g in
      (so, inr (batch, beside p q.0, x, mid, fits, q.1, later_paused t times waits t batch fall.2 p x mid q.0 q.2 q.3 k))

-- It waits so in a run of the definition, with the same words.
pub pauses_defined : {N W L : Type 0} (goes : N → ℕ → NodeEvent → List Action → N → Type 0) (drawn : NodeEvent → W → W → Type 0) (a : Made) (Stands : N → Log → Type 0)
    → Steps goes a Stands → (talk : L → Option (List Said)) (listens : Bool) (n : N) (u : W)
    (c : Dialling L) (b : Option (List ℕ)) (l : Admitting L) (t t' r r' : Option (List ℕ)) → Stands n []
    → HasPaused (GoesDrawing goes drawn) talk listens (run_moment (at_rest n u) c b l t) t' r r'
    → HasPaused (GoesDrawing (GoesAsDefined a) drawn) talk listens (run_moment (at_rest [] u) c b l t) t' r r'
pauses_defined {N = N} {W = W} goes drawn a Stands steps talk listens n u c b l t t' r r' s (times, waits, first, empty, rise, read, asked, k) = (
  times,
  waits,
  first,
  empty,
  rise,
  read,
  asked,
  paused_map (Both (GoesDrawing goes drawn) a) (GoesDrawing (GoesAsDefined a) drawn) log_beside (log_draws goes drawn a) talk listens times waits None []
      (beside (at_rest n u) []) first l
      (all_paused (GoesDrawing goes drawn) a (λ (d : Drawing N W) (M : Log). Stands d.node M) (drawing_steps goes drawn a Stands steps) talk listens times waits rise
      c b (at_rest n u) first l s empty k),
)
