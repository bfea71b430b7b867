-- A run for an application of a core that answers as the definition of a node asks is a run of the definition; what was written is
-- what its node told, and it ends with the node's end only where the application asked for that.
-- It serves bsc_node_command.
use Rattle.std.proofs.Common.{◌≡◌, ◌≤◌, inl, inr, ℕ, Bool, true, ◌||◌, List, [], ◌∷◌, Option, Some, None, ap, sym, ◌∙◌, subst, arith, unwrap_or}
use Rattle.std.specs.List.{Contains, list_any}
use Rattle.bsc_edge.specs.declared.said.Said.{Said}
use Rattle.bsc_node.specs.declared.node_event.NodeEvent.{NodeEvent}
use Rattle.bsc_node.specs.declared.node_event.NodeEvent.TheVariants.{Finish}
use Rattle.bsc_node.specs.declared.action.Action.{Action}
use Rattle.bsc_node.specs.Logs.{Made, Log}
use Rattle.bsc_node_run.specs.declared.due.Due.{Due}
use Rattle.bsc_node_run.specs.declared.run_end.RunEnd.{RunEnd}
use Rattle.bsc_node_run.specs.declared.run_end.RunEnd.TheVariants.{Finished as HasFinished, Spent}
use Rattle.bsc_node_run.specs.Drawing.{Drawing, GoesDrawing, at_rest}
use Rattle.bsc_node_run.specs.Moments.{moment, run_moment}
use Rattle.bsc_node_run.specs.Running.{DontFall, EndsSo, IsEmpty}
use Rattle.bsc_node_run.specs.Turning.{Turn}
use Rattle.bsc_node_run.specs.Worlds.{Admitting, Dialling, World}
use Rattle.bsc_node_laws.specs.Courses.{GoesAsDefined}
use Rattle.bsc_node_laws.specs.Said.{EndsAsTold, IsSaid, done_in, tells_end}
use Rattle.bsc_node_laws.proofs.Beside.{Beside, Both, beside, beside_same}
use Rattle.bsc_node_laws.proofs.Courses.{at_first}
use Rattle.bsc_node_laws.proofs.Lifting.{Holds, Steps}
use Rattle.bsc_node_laws.proofs.Mapping.{Maps, turn_map}
use Rattle.bsc_node_laws.proofs.Saying.{SaysBetween, SaysIn, between-none, between-then, still-same, turn-between}
use Rattle.bsc_node_laws.proofs.Turning.{goes_on_later, no_true, started, turn}
use Rattle.bsc_lemmas.proofs.Booleans.{or_false as or_none}
use Rattle.bsc_application.specs.Asking.{answers_to}
use Rattle.bsc_application.specs.Ending.{WasAskedToEnd}
use Rattle.bsc_application.specs.Living.{Answered, LiveRun, LiveTurns}
use Rattle.bsc_application.proofs.Among.{IsAmong, asks_all, given_among}

-- ---- a run of one core is one of another

module _ {N P L : Type 0} (goes : N → ℕ → NodeEvent → List Action → N → Type 0) (goes' : P → ℕ → NodeEvent → List Action → P → Type 0) (f : N → P)
    (step : Maps goes goes' f) (talk : L → Option (List Said)) (listens : Bool) where
  live_turns_map : (times : List ℕ) (batches : List (List Due)) (start : Option ℕ) (n m : N) (w v : World L) (door door' : Admitting L)
      → LiveTurns goes talk listens times batches start (moment n w door) (moment m v door') → LiveTurns goes' talk listens times batches start (moment (f n) w door) (moment (f m) v door')
  live_turns_map [] [] start n m w v door door' (is, same, stays) = (ap f is, same, stays)
  live_turns_map [] (batch ∷ batches) start n m w v door door' k = absurd k
  live_turns_map (now ∷ times) [] start n m w v door door' k = absurd k
  live_turns_map (now ∷ times) (batch ∷ batches) start n m w v door door' (p, x, mid, going, fits, t, k) = (
    f p,
    x,
    mid,
    going,
    fits,
    turn_map goes goes' f step talk now start batch [] listens n p w x door mid t,
    live_turns_map times batches (Some (unwrap_or start now)) p m x v mid door' k,
  )

  pub live_map : (end : RunEnd) (turns : ℕ) (n m : N) (c c' : Dialling L) (b b' : Option (List ℕ)) (l l' : Admitting L) (t t' : Option (List ℕ)) (k k' : Answered)
      → LiveRun goes talk listens end turns (run_moment n c b l t) (run_moment m c' b' l' t') k k'
      → LiveRun goes' talk listens end turns (run_moment (f n) c b l t) (run_moment (f m) c' b' l' t') k k'
  live_map end turns n m c c' b b' l l' t t' k k' r = record {
    times = r.times;
    batches = r.batches;
    first = r.first;
    last = r.last;
    empty = r.empty;
    went = live_turns_map r.times r.batches None n m r.first r.last l l' r.went;
    asked = r.asked;
    dials = r.dials;
    holds = r.holds;
    readings = r.readings;
    rise = r.rise;
    ends = r.ends;
  }

-- ---- a run of a core that takes the definition's steps is one of the definition

module _ {N L : Type 0} (goes : N → ℕ → NodeEvent → List Action → N → Type 0) (a : Made) (Stands : N → Log → Type 0) (steps : Steps goes a Stands)
    (talk : L → Option (List Said)) (listens : Bool) (P : Type 0) where
  pub held_later : (from t : ℕ) (n : N) (w : World L) (M : Log) → from ≤ t → Holds a Stands from P n w M → Holds a Stands t P n w M
  held_later from t n w M later h = (
    record {
      stands = h.0.stands;
      agrees = h.0.agrees;
      between = h.0.between;
      time = omega (arith, h.0.time);
      by = h.0.by;
    },
    h.1,
  )

  -- The turns after the first.
  later_live : (first : ℕ) (times : List ℕ) (batches : List (List Due)) (from : ℕ) → DontFall from times
      → ((d : Due) → IsAmong batches d → d.event ≡ Finish → P)
      → (n m : N) (w v : World L) (door door' : Admitting L) (M : Log) → Holds a Stands from P n w M → w.due ≡ []
      → LiveTurns goes talk listens times batches (Some first) (moment n w door) (moment m v door')
      → (K : Log) × LiveTurns (Both goes a) talk listens times batches (Some first) (moment (beside n M) w door) (moment (beside m K) v door') × (v.finished ≡ true → P)
  later_live first [] [] from fall asks n m w v door door' M h none (is, same, stays) =
      (M, (beside_same n m M is, same, stays), λ finished. h.0.by (h.0.agrees.finished (sym same.finished ∙ finished)))
  later_live first [] (batch ∷ batches) from fall asks n m w v door door' M h none k = absurd k
  later_live first (t ∷ times) [] from fall asks n m w v door door' M h none k = absurd k
  later_live first (t ∷ times) (batch ∷ batches) from fall asks n m w v door door' M h none (p, x, mid, going, fits, g, k) =
      let q : (K : Log) × Turn (Both goes a) talk t (Some first) batch [] listens (moment (beside n M) w door) (moment (beside p K) x mid) × Holds a Stands t P p x K × (x.due ≡ []) =
      turn goes talk a Stands steps t fall.1 P (Some first) batch [] listens n p w x door mid M
      (λ o y z same s. goes_on_later goes talk a Stands steps t fall.1 P first n o w y z M (held_later from t n w M fall.0 h) none same s)
      (asks_all batch fits.0) (λ d c is due. asks d (inl c) is) g in
      let r : (K : Log) × LiveTurns (Both goes a) talk listens times batches (Some first) (moment (beside p q.0) x mid) (moment (beside m K) v door') × (v.finished ≡ true → P) =
      later_live first times batches t fall.2 (λ d c. asks d (inr c)) p m x v mid door' q.0 q.2 q.3 k in
      (r.0, (beside p q.0, x, mid, going, fits, q.1, r.1), r.2)

  -- All turns, from a node that was made.
  all_live : (times : List ℕ) (batches : List (List Due)) → DontFall 0 times → ((d : Due) → IsAmong batches d → d.event ≡ Finish → P)
      → (calls : Dialling L) (text : Option (List ℕ)) (n m : N) (w v : World L) (door door' : Admitting L) → Stands n [] → IsEmpty calls text w
      → LiveTurns goes talk listens times batches None (moment n w door) (moment m v door')
      → (K : Log) × LiveTurns (Both goes a) talk listens times batches None (moment (beside n []) w door) (moment (beside m K) v door') × (v.finished ≡ true → P)
  all_live [] [] fall asks calls text n m w v door door' s empty (is, same, stays) =
      ([], (beside_same n m [] is, same, stays), no_true P v.finished (same.finished ∙ empty.finished))
  all_live [] (batch ∷ batches) fall asks calls text n m w v door door' s empty k = absurd k
  all_live (t ∷ times) [] fall asks calls text n m w v door door' s empty k = absurd k
  all_live (t ∷ times) (batch ∷ batches) fall asks calls text n m w v door door' s empty (p, x, mid, going, fits, g, k) =
      let q : (K : Log) × Turn (Both goes a) talk t None batch [] listens (moment (beside n []) w door) (moment (beside p K) x mid) × Holds a Stands t P p x K × (x.due ≡ []) =
      turn goes talk a Stands steps t fall.1 P None batch [] listens n p w x door mid []
      (λ o y z same b. started goes talk a Stands steps t fall.1 P n o y z s (at_first calls text w empty y same) b)
      (asks_all batch fits.0) (λ d c is due. asks d (inl c) is) g in
      let r : (K : Log) × LiveTurns (Both goes a) talk listens times batches (Some t) (moment (beside p q.0) x mid) (moment (beside m K) v door') × (v.finished ≡ true → P) =
      later_live t times batches t fall.2 (λ d c. asks d (inr c)) p m x v mid door' q.0 q.2 q.3 k in
      (r.0, (beside p q.0, x, mid, going, fits, q.1, r.1), r.2)

module _ {N L : Type 0} (goes : N → ℕ → NodeEvent → List Action → N → Type 0) (a : Made) (Stands : N → Log → Type 0) (steps : Steps goes a Stands)
    (talk : L → Option (List Said)) (listens : Bool) where
  -- A whole run of the core is one of the definition. Where it ended with the node's end, the application asked for that.
  pub live_lifted : (end : RunEnd) (turns : ℕ) (n m : N) (c c' : Dialling L) (b b' : Option (List ℕ)) (l l' : Admitting L) (t t' : Option (List ℕ)) (k k' : Answered) → Stands n []
      → LiveRun goes talk listens end turns (run_moment n c b l t) (run_moment m c' b' l' t') k k'
      → (M : Log) × LiveRun (Both goes a) talk listens end turns (run_moment (beside n []) c b l t) (run_moment (beside m M) c' b' l' t') k k' × (end ≡ HasFinished → WasAskedToEnd k k')
  live_lifted end turns n m c c' b b' l l' t t' k k' s r = (
    q.0,
    record {
      times = r.times;
      batches = r.batches;
      first = r.first;
      last = r.last;
      empty = r.empty;
      went = q.1;
      asked = r.asked;
      dials = r.dials;
      holds = r.holds;
      readings = r.readings;
      rise = r.rise;
      ends = r.ends;
    },
    λ is. (answers_to r.batches, r.asked, q.2 (subst (λ e. EndsSo e turns r.times r.last.finished) is r.ends)),
  )
    where
      q : (K : Log) × LiveTurns (Both goes a) talk listens r.times r.batches None (moment (beside n []) r.first l) (moment (beside m K) r.last l')
          × (r.last.finished ≡ true → Contains (answers_to r.batches) (Some Finish))
      q = all_live goes a Stands steps talk listens (Contains (answers_to r.batches) (Some Finish)) r.times r.batches r.rise
          (λ d among is. subst (λ (e : NodeEvent). Contains (answers_to r.batches) (Some e)) is (given_among r.batches d among))
          c b n m r.first r.last l l' s r.empty r.went

-- ---- what was written and dialled

module _ {L : Type 0} (a : Made) (talk : L → Option (List Said)) (listens : Bool) where
  live_between : (times : List ℕ) (batches : List (List Due)) (start : Option ℕ) (M : Log) (w : World L) (door : Admitting L) (N : Log) (v : World L) (door' : Admitting L)
      → LiveTurns (GoesAsDefined a) talk listens times batches start (moment M w door) (moment N v door') → SaysBetween M w N v
  live_between [] [] start M w door N v door' (e, s, same) = between-none M w N v e (still-same w v s)
  live_between [] (batch ∷ batches) start M w door N v door' k = absurd k
  live_between (now ∷ times) [] start M w door N v door' k = absurd k
  live_between (now ∷ times) (batch ∷ batches) start M w door N v door' (P, x, mid, going, fits, t, later) =
      between-then M w P x N v (turn-between a talk now start batch [] listens M w door P x mid t)
      (live_between times batches (Some (unwrap_or start now)) P x mid N v door' later)

  -- What the whole log of a run says.
  ran : (end : RunEnd) (turns : ℕ) (c c' : Dialling L) (b b' : Option (List ℕ)) (l l' : Admitting L) (t t' : Option (List ℕ)) (k k' : Answered) (M : Log)
      → (r : LiveRun (GoesAsDefined a) talk listens end turns (run_moment [] c b l t) (run_moment M c' b' l' t') k k') → SaysIn (done_in M) r.first r.last
  ran end turns c c' b b' l l' t t' k k' M r =
      let s = live_between r.times r.batches None [] r.first l M r.last l' r.went in
      subst (λ (N : Log). SaysIn (done_in N) r.first r.last) (sym s.1) s.2

  -- What a run has written and dialled is what its node told, delivered and dialled, by its log.
  pub live_said : (end : RunEnd) (turns : ℕ) (c c' : Dialling L) (b b' : Option (List ℕ)) (l l' : Admitting L) (t t' : Option (List ℕ)) (k k' : Answered) (M : Log)
      → LiveRun (GoesAsDefined a) talk listens end turns (run_moment [] c b l t) (run_moment M c' b' l' t') k k' → IsSaid M c.calls c'.calls b b'
  live_said end turns c c' b b' l l' t t' k k' M r =
      let s = ran end turns c c' b b' l l' t t' k k' M r in
      record {
        written = rw (← r.empty.held, ← r.holds) s.0;
        calls = rw (← r.empty.dialled, ← r.dials) s.1;
      }

  -- A run is finished where its node told that it has ended, and spent where it didn't.
  pub live_ends : (end : RunEnd) (turns : ℕ) (c c' : Dialling L) (b b' : Option (List ℕ)) (l l' : Admitting L) (t t' : Option (List ℕ)) (k k' : Answered) (M : Log)
      → LiveRun (GoesAsDefined a) talk listens end turns (run_moment [] c b l t) (run_moment M c' b' l' t') k k' → EndsAsTold end M
  live_ends end turns c c' b b' l l' t t' k k' M r = by end r.ends
    where
      told : list_any tells_end (done_in M) ≡ r.last.finished
      told =
          sym (or_none (list_any tells_end (done_in M))) ∙ ap (λ (p : Bool). list_any tells_end (done_in M) || p) (sym r.empty.finished)
          ∙ sym (ran end turns c c' b b' l l' t t' k k' M r).2

      by : (e : RunEnd) → EndsSo e turns r.times r.last.finished → EndsAsTold e M
      by HasFinished e = told ∙ e
      by Spent e = told ∙ e.1

-- ---- the same with the words that the node draws

-- a node that draws beside its log, seen as a log that draws the same words
abbrev pub log_beside : {N W : Type 0} → Beside (Drawing N W) → Drawing Log W
log_beside b = record { node = b.log; words = b.core.words; awaits = b.core.awaits }

pub log_draws : {N W : Type 0} (goes : N → ℕ → NodeEvent → List Action → N → Type 0) (drawn : NodeEvent → W → W → Type 0) (a : Made)
    → Maps (Both (GoesDrawing goes drawn) a) (GoesDrawing (GoesAsDefined a) drawn) log_beside
log_draws goes drawn a n m t e actions (g, h) = (h, g.1, g.2)

log_alone : {W : Type 0} (drawn : NodeEvent → W → W → Type 0) (a : Made) → Maps (GoesDrawing (GoesAsDefined a) drawn) (GoesAsDefined a) (λ (d : Drawing Log W). d.node)
log_alone drawn a n m t e actions g = g.0

pub drawing_steps : {N W : Type 0} (goes : N → ℕ → NodeEvent → List Action → N → Type 0) (drawn : NodeEvent → W → W → Type 0) (a : Made) (Stands : N → Log → Type 0)
    → Steps goes a Stands → Steps (GoesDrawing goes drawn) a (λ (d : Drawing N W) (M : Log). Stands d.node M)
drawing_steps goes drawn a Stands steps n m M t e actions s may g = steps n.node m.node M t e actions s may g.0

-- A run for an application of a core that answers as the definition asks is one of the definition, from the empty log on, with the
-- same words. What its node told, delivered and dialled is what was written and dialled. It ends with the node's end where the node
-- told that, and only where the application asked for it.
pub live_defined : {N W L : Type 0} (goes : N → ℕ → NodeEvent → List Action → N → Type 0) (drawn : NodeEvent → W → W → Type 0) (a : Made) (Stands : N → Log → Type 0)
    → Steps goes a Stands → (talk : L → Option (List Said)) (listens : Bool) (end : RunEnd) (turns : ℕ) (n m : N) (u u' : W)
    (c c' : Dialling L) (b b' : Option (List ℕ)) (l l' : Admitting L) (t t' : Option (List ℕ)) (k k' : Answered) → Stands n []
    → LiveRun (GoesDrawing goes drawn) talk listens end turns (run_moment (at_rest n u) c b l t) (run_moment (at_rest m u') c' b' l' t') k k'
    → (M : Log) × LiveRun (GoesDrawing (GoesAsDefined a) drawn) talk listens end turns (run_moment (at_rest [] u) c b l t) (run_moment (at_rest M u') c' b' l' t') k k'
    × IsSaid M c.calls c'.calls b b' × EndsAsTold end M × (end ≡ HasFinished → WasAskedToEnd k k')
live_defined {N = N} {W = W} {L = L} goes drawn a Stands steps talk listens end turns n m u u' c c' b b' l l' t t' k k' s r =
    let two : (M : Log) × LiveRun (Both (GoesDrawing goes drawn) a) talk listens end turns (run_moment (beside (at_rest n u) []) c b l t)
    (run_moment (beside (at_rest m u') M) c' b' l' t') k k' × (end ≡ HasFinished → WasAskedToEnd k k') =
    live_lifted (GoesDrawing goes drawn) a (λ (d : Drawing N W) (M : Log). Stands d.node M) (drawing_steps goes drawn a Stands steps) talk listens end turns
    (at_rest n u) (at_rest m u') c c' b b' l l' t t' k k' s r in
    let run : LiveRun (GoesDrawing (GoesAsDefined a) drawn) talk listens end turns (run_moment (at_rest [] u) c b l t) (run_moment (at_rest two.0 u') c' b' l' t') k k' =
    live_map (Both (GoesDrawing goes drawn) a) (GoesDrawing (GoesAsDefined a) drawn) log_beside (log_draws goes drawn a) talk listens end turns
    (beside (at_rest n u) []) (beside (at_rest m u') two.0) c c' b b' l l' t t' k k' two.1 in
    let log : LiveRun (GoesAsDefined a) talk listens end turns (run_moment [] c b l t) (run_moment two.0 c' b' l' t') k k' =
    live_map (GoesDrawing (GoesAsDefined a) drawn) (GoesAsDefined a) (λ (d : Drawing Log W). d.node) (log_alone drawn a) talk listens end turns
    (at_rest [] u) (at_rest two.0 u') c c' b b' l l' t t' k k' run in
    (two.0, run, live_said a talk listens end turns c c' b b' l l' t t' k k' two.0 log, live_ends a talk listens end turns c c' b b' l l' t t' k k' two.0 log, two.2)
