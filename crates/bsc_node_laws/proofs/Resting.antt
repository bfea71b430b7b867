-- How a core that takes the definition's steps waits in a run, is how a run of the definition waits.
-- It serves bsc_node_command.
use Rattle.std.proofs.Common.{◌≡◌, ◌≤◌, ℕ, Bool, true, inl, inr, List, [], ◌∷◌, Option, Some, None, arith, unwrap_or}
use Rattle.std.specs.List.{Contains, list_all}
use Rattle.bsc_edge.specs.declared.said.Said.{Said}
use Rattle.bsc_node.specs.declared.node_event.NodeEvent.{NodeEvent}
use Rattle.bsc_node.specs.declared.action.Action.{Action}
use Rattle.bsc_node.specs.Logs.{Made, Log}
use Rattle.bsc_node_run.specs.declared.due.Due.{Due}
use Rattle.bsc_node_run.specs.Resting.{HasRested, Rested}
use Rattle.bsc_node_run.specs.Running.{DontFall, IsEmpty}
use Rattle.bsc_node_run.specs.Turning.{Turn}
use Rattle.bsc_node_run.specs.Worlds.{Admitting, Dialling, World}
use Rattle.bsc_node_run.specs.Moments.{moment, run_moment}
use Rattle.bsc_node_laws.proofs.Beside.{Both, beside}
use Rattle.bsc_node_laws.proofs.Courses.{FinishBy, asked_rest, at_first, at_later, by_due, within_rest}
use Rattle.bsc_node_laws.proofs.Lifting.{Holds, Steps}
use Rattle.bsc_node_laws.proofs.Mapping.{Maps, turn_map}
use Rattle.bsc_node_laws.proofs.Turning.{asks, started, goes_on_later, turn}

-- ---- where each step of the one core is a step of the other

module _ {N P L : Type 0} (goes : N → ℕ → NodeEvent → List Action → N → Type 0) (goes' : P → ℕ → NodeEvent → List Action → P → Type 0) (f : N → P)
    (step : Maps goes goes' f) (talk : L → Option (List Said)) (listens : Bool) where
  turns_rest : (times waits : List ℕ) (start : Option ℕ) (newest : ℕ) (script : List Due) (n : N) (w : World L) (door : Admitting L)
      → Rested goes talk listens times waits start newest script (moment n w door) → Rested goes' talk listens times waits start newest script (moment (f n) w door)
  turns_rest [] [] start newest script n w door r = tt
  turns_rest [] (wait ∷ waits) start newest script n w door r = absurd r
  turns_rest (now ∷ times) [] start newest script n w door r = absurd r
  turns_rest (now ∷ times) (wait ∷ waits) start newest script n w door (so, inl over) = (so, inl over)
  turns_rest (now ∷ times) (wait ∷ waits) start newest script n w door (so, inr (rest, p, x, mid, g, k)) = (
    so,
    inr (
      rest,
      f p,
      x,
      mid,
      turn_map goes goes' f step talk now start script rest listens n p w x door mid g,
      turns_rest times waits (Some (unwrap_or start now)) now rest p x mid k,
    ),
  )

  pub rests_map : (script : List Due) (n : N) (c : Dialling L) (b : Option (List ℕ)) (l : Admitting L) (o o' u u' : Option (List ℕ))
      → HasRested goes talk listens script (run_moment n c b l o) o' u u' → HasRested goes' talk listens script (run_moment (f n) c b l o) o' u u'
  rests_map script n c b l o o' u u' (times, waits, first, empty, rise, read, asked, r) =
      (times, waits, first, empty, rise, read, asked, turns_rest times waits None 0 script n first l r)

-- ---- where a core takes the definition's steps

module _ {N L : Type 0} (goes : N → ℕ → NodeEvent → List Action → N → Type 0) (a : Made) (Stands : N → Log → Type 0) (steps : Steps goes a Stands)
    (talk : L → Option (List Said)) (listens : Bool) where
  -- The turns after the first.
  later_rest : (whole : List Due) (first : ℕ) (times waits : List ℕ) (from newest : ℕ) (script : List Due) → first ≤ from → DontFall from times
      → list_all asks script ≡ true → ((d : Due) → Contains script d → Contains whole d)
      → (n : N) (w : World L) (door : Admitting L) (M : Log) → Holds a Stands from (FinishBy whole first from) n w M → w.due ≡ []
      → Rested goes talk listens times waits (Some first) newest script (moment n w door)
      → Rested (Both goes a) talk listens times waits (Some first) newest script (moment (beside n M) w door)
  later_rest whole first [] [] from newest script early fall asked within n w door M h none r = tt
  later_rest whole first [] (wait ∷ waits) from newest script early fall asked within n w door M h none r = absurd r
  later_rest whole first (t ∷ times) [] from newest script early fall asked within n w door M h none r = absurd r
  later_rest whole first (t ∷ times) (wait ∷ waits) from newest script early fall asked within n w door M h none (so, inl over) = (so, inl over)
  later_rest whole first (t ∷ times) (wait ∷ waits) from newest script early fall asked within n w door M h none (so, inr (rest, p, x, mid, g, k)) =
      let early_too : first ≤ t = omega (arith, fall.0) in
      let q : (K : Log) × Turn (Both goes a) talk t (Some first) script rest listens (moment (beside n M) w door) (moment (beside p K) x mid)
      × Holds a Stands t (FinishBy whole first t) p x K × (x.due ≡ []) =
      turn goes talk a Stands steps t fall.1 (FinishBy whole first t) (Some first) script rest listens n p w x door mid M
      (λ o y z same b. goes_on_later goes talk a Stands steps t fall.1 (FinishBy whole first t) first n o w y z M
      (at_later goes a Stands steps talk listens whole first from t n w M fall.0 h) none same b)
      asked (λ d c is due. (d, within d c, is, by_due d.at first t early_too due)) g in (
        so,
        inr (
          rest,
          beside p q.0,
          x,
          mid,
          q.1,
          later_rest whole first times waits t t rest early_too fall.2 (asked_rest script g.lines rest g.parts asked)
              (λ d c. within d (within_rest script g.lines rest g.parts d c)) p x mid q.0 q.2 q.3 k,
        ),
      )

  -- All turns of a node that was made.
  all_rest : (times waits : List ℕ) (script : List Due) → DontFall 0 times → list_all asks script ≡ true
      → (calls : Dialling L) (text : Option (List ℕ)) (n : N) (w : World L) (door : Admitting L) → Stands n [] → IsEmpty calls text w
      → Rested goes talk listens times waits None 0 script (moment n w door) → Rested (Both goes a) talk listens times waits None 0 script (moment (beside n []) w door)
  all_rest [] [] script fall asked calls text n w door s empty r = tt
  all_rest [] (wait ∷ waits) script fall asked calls text n w door s empty r = absurd r
  all_rest (t ∷ times) [] script fall asked calls text n w door s empty r = absurd r
  all_rest (t ∷ times) (wait ∷ waits) script fall asked calls text n w door s empty (so, inl over) = (so, inl over)
  all_rest (t ∷ times) (wait ∷ waits) script fall asked calls text n w door s empty (so, inr (rest, p, x, mid, g, k)) =
      let q : (K : Log) × Turn (Both goes a) talk t None script rest listens (moment (beside n []) w door) (moment (beside p K) x mid) × Holds a Stands t (FinishBy script t t) p x K × (x.due ≡ []) =
      turn goes talk a Stands steps t fall.1 (FinishBy script t t) None script rest listens n p w x door mid []
      (λ o y z same b. started goes talk a Stands steps t fall.1 (FinishBy script t t) n o y z s (at_first calls text w empty y same) b)
      asked (λ d c is due. (d, c, is, by_due d.at t t (omega arith) due)) g in (
        so,
        inr (
          rest,
          beside p q.0,
          x,
          mid,
          q.1,
          later_rest script t times waits t t rest (omega arith) fall.2 (asked_rest script g.lines rest g.parts asked) (within_rest script g.lines rest g.parts)
              p x mid q.0 q.2 q.3 k,
        ),
      )

  -- It waits so in a run of the definition.
  pub rests_lifted : (script : List Due) → list_all asks script ≡ true
      → (n : N) (c : Dialling L) (b : Option (List ℕ)) (l : Admitting L) (o o' u u' : Option (List ℕ)) → Stands n []
      → HasRested goes talk listens script (run_moment n c b l o) o' u u' → HasRested (Both goes a) talk listens script (run_moment (beside n []) c b l o) o' u u'
  rests_lifted script asked n c b l o o' u u' s (times, waits, first, empty, rise, read, told, r) =
      (times, waits, first, empty, rise, read, told, all_rest times waits script rise asked c b n first l s empty r)
