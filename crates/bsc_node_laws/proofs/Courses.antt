-- A whole run of a core that takes the definition's steps is a run of the definition, and it ends with the node's end only
-- once the time of a `finish` of its script has passed.
-- It serves bsc_application, bsc_node_command and bsc_node_links.
use Rattle.std.proofs.Common.{◌≡◌, ◌≤◌, ℕ, ◌+◌, ◌-◌, Bool, true, List, [], ◌∷◌, ◌++◌, Option, Some, None, ap, sym, ◌∙◌, subst, arith}
use Rattle.std.specs.List.{Contains, list_all}
use Rattle.std.proofs.lemmas.List.Elements.{Contains-append_right}
use Rattle.std.proofs.lemmas.List.Folds.{list_all-append}
use Rattle.bsc_edge.specs.declared.said.Said.{Said}
use Rattle.bsc_node.specs.declared.node_event.NodeEvent.{NodeEvent}
use Rattle.bsc_node.specs.declared.node_event.NodeEvent.TheVariants.{Finish}
use Rattle.bsc_node.specs.declared.action.Action.{Action}
use Rattle.bsc_node.specs.Logs.{Made, Log}
use Rattle.bsc_node_run.specs.declared.due.Due.{Due}
use Rattle.bsc_node_run.specs.declared.run_end.RunEnd.{RunEnd}
use Rattle.bsc_node_run.specs.declared.run_end.RunEnd.TheVariants.{Finished}
use Rattle.bsc_node_run.specs.Running.{DontFall, EndsSo, IsEmpty, Run, Turns}
use Rattle.bsc_node_run.specs.Turning.{Turn}
use Rattle.bsc_node_run.specs.Worlds.{Admitting, Dialling, World, Same, begun}
use Rattle.bsc_node_run.specs.Moments.{moment, run_moment}
use Rattle.bsc_node_laws.specs.Courses.{last_from, FinishIsOver, FinishCame}
use Rattle.bsc_node_laws.proofs.Agreeing.{Agrees}
use Rattle.bsc_node_laws.proofs.Beside.{Both, beside, beside_same}
use Rattle.bsc_node_laws.proofs.Same.{agrees-same}
use Rattle.bsc_node_laws.proofs.News.{begun_keeps, empty_agrees}
use Rattle.bsc_node_laws.proofs.Lifting.{Holds, Steps}
use Rattle.bsc_node_laws.proofs.Turning.{asks, no_true, started, goes_on_later, turn}
use Rattle.bsc_lemmas.proofs.Booleans.{and_right}

-- A line of the script is `finish`, and its time has passed at a reading of the clock, from the first one.
abbrev pub FinishBy : List Due → ℕ → ℕ → Type 0
FinishBy script first t = (line : Due) × Contains script line × (line.event ≡ Finish) × (line.at + first ≤ t)

by_later : (script : List Due) (first from t : ℕ) → from ≤ t → FinishBy script first from → FinishBy script first t
by_later script first from t later (line, c, is, passed) = (line, c, is, omega arith)

pub by_due : (at first t : ℕ) → first ≤ t → at ≤ t - first → at + first ≤ t
by_due at first t later due = omega arith

is_over : (script : List Due) (first : ℕ) (times : List ℕ) → FinishBy script first (last_from first times) → FinishIsOver script (first ∷ times)
is_over script first times (line, c, is, passed) = (line, c, is, over line.at first (last_from first times) passed)
  where
    over : (at first last : ℕ) → at + first ≤ last → at ≤ last - first
    over at first last h = omega arith

pub asked_rest : (script lines rest : List Due) → script ≡ lines ++ rest → list_all asks script ≡ true → list_all asks rest ≡ true
asked_rest script lines rest parts asked =
    and_right (list_all asks lines) (list_all asks rest)
    (sym (ap (list_all asks) parts ∙ list_all-append asks lines rest) ∙ asked)

pub within_rest : (script lines rest : List Due) → script ≡ lines ++ rest → (d : Due) → Contains rest d → Contains script d
within_rest script lines rest parts d c = subst (λ (all : List Due). Contains all d) (sym parts) (Contains-append_right lines rest d c)

-- What a run has in hand agrees with the empty log as its first turn begins.
pub at_first : {L : Type 0} (calls : Dialling L) (text : Option (List ℕ)) (w : World L) → IsEmpty calls text w → (y : World L) → Same y (begun w) → Agrees y []
at_first calls text w empty y same = agrees-same y (begun w) [] same (begun_keeps w [] empty.due (empty_agrees calls text w empty))

module _ {N L : Type 0} (goes : N → ℕ → NodeEvent → List Action → N → Type 0) (a : Made) (Stands : N → Log → Type 0) (steps : Steps goes a Stands)
    (talk : L → Option (List Said)) (listens : Bool) where
  pub at_later : (script : List Due) (first from t : ℕ) (n : N) (w : World L) (M : Log) → from ≤ t
      → Holds a Stands from (FinishBy script first from) n w M → Holds a Stands t (FinishBy script first t) n w M
  at_later script first from t n w M later h = (
    record {
      stands = h.0.stands;
      agrees = h.0.agrees;
      between = h.0.between;
      time = omega (arith, h.0.time);
      by = λ finishing. by_later script first from t later (h.0.by finishing);
    },
    h.1,
  )

  -- The turns after the first.
  later_turns : (whole : List Due) (first : ℕ) (times : List ℕ) (from : ℕ) (script : List Due) → first ≤ from → DontFall from times
      → list_all asks script ≡ true → ((d : Due) → Contains script d → Contains whole d)
      → (n m : N) (w v : World L) (door door' : Admitting L) (M : Log) → Holds a Stands from (FinishBy whole first from) n w M → w.due ≡ []
      → Turns goes talk listens times (Some first) script (moment n w door) (moment m v door')
      → (K : Log) × Turns (Both goes a) talk listens times (Some first) script (moment (beside n M) w door) (moment (beside m K) v door')
      × (v.finished ≡ true → FinishBy whole first (last_from from times))
  later_turns whole first [] from script early fall asked within n m w v door door' M h none (is, same, stays) =
      (M, (beside_same n m M is, same, stays), λ finished. h.0.by (h.0.agrees.finished (sym same.finished ∙ finished)))
  later_turns whole first (t ∷ times) from script early fall asked within n m w v door door' M h none (rest, p, x, mid, going, g, k) =
      let early_too : first ≤ t = omega (arith, fall.0) in
      let q : (K : Log) × Turn (Both goes a) talk t (Some first) script rest listens (moment (beside n M) w door) (moment (beside p K) x mid)
      × Holds a Stands t (FinishBy whole first t) p x K × (x.due ≡ []) =
      turn goes talk a Stands steps t fall.1 (FinishBy whole first t) (Some first) script rest listens n p w x door mid M
      (λ o y z same s. goes_on_later goes talk a Stands steps t fall.1 (FinishBy whole first t) first n o w y z M (at_later whole first from t n w M fall.0 h) none same s)
      asked (λ d c is due. (d, within d c, is, by_due d.at first t early_too due)) g in
      let r : (K : Log) × Turns (Both goes a) talk listens times (Some first) rest (moment (beside p q.0) x mid) (moment (beside m K) v door')
      × (v.finished ≡ true → FinishBy whole first (last_from t times)) =
      later_turns whole first times t rest early_too fall.2 (asked_rest script g.lines rest g.parts asked) (λ d c. within d (within_rest script g.lines rest g.parts d c))
      p m x v mid door' q.0 q.2 q.3 k in
      (r.0, (rest, beside p q.0, x, mid, going, q.1, r.1), r.2)

  -- All turns, from a node that was made.
  all_turns : (times : List ℕ) (script : List Due) → DontFall 0 times → list_all asks script ≡ true
      → (calls : Dialling L) (text : Option (List ℕ)) (n m : N) (w v : World L) (door door' : Admitting L) → Stands n [] → IsEmpty calls text w
      → Turns goes talk listens times None script (moment n w door) (moment m v door')
      → (K : Log) × Turns (Both goes a) talk listens times None script (moment (beside n []) w door) (moment (beside m K) v door') × (v.finished ≡ true → FinishIsOver script times)
  all_turns [] script fall asked calls text n m w v door door' s empty (is, same, stays) =
      ([], (beside_same n m [] is, same, stays), no_true (FinishIsOver script []) v.finished (same.finished ∙ empty.finished))
  all_turns (t ∷ times) script fall asked calls text n m w v door door' s empty (rest, p, x, mid, going, g, k) =
      (r.0, (rest, beside p q.0, x, mid, going, q.1, r.1), λ finished. is_over script t times (r.2 finished))
    where
      q : (K : Log) × Turn (Both goes a) talk t None script rest listens (moment (beside n []) w door) (moment (beside p K) x mid) × Holds a Stands t (FinishBy script t t) p x K × (x.due ≡ [])
      q = turn goes talk a Stands steps t fall.1 (FinishBy script t t) None script rest listens n p w x door mid []
          (λ o y z same b. started goes talk a Stands steps t fall.1 (FinishBy script t t) n o y z s (at_first calls text w empty y same) b)
          asked (λ d c is due. (d, c, is, by_due d.at t t (omega arith) due)) g

      r : (K : Log) × Turns (Both goes a) talk listens times (Some t) rest (moment (beside p q.0) x mid) (moment (beside m K) v door') × (v.finished ≡ true → FinishBy script t (last_from t times))
      r = later_turns script t times t rest (omega arith) fall.2 (asked_rest script g.lines rest g.parts asked) (within_rest script g.lines rest g.parts)
          p m x v mid door' q.0 q.2 q.3 k

  -- A whole run of the core is one of the definition. Where it ended with the node's end, the time of a `finish` of the
  -- script has passed.
  pub lifted : (end : RunEnd) (turns : ℕ) (script : List Due) → list_all asks script ≡ true
      → (n m : N) (dialled dialled' : Dialling L) (held held' : Option (List ℕ)) (door door' : Admitting L) (told told' : Option (List ℕ)) → Stands n []
      → Run goes talk listens end turns script (run_moment n dialled held door told) (run_moment m dialled' held' door' told')
      → (M : Log) × Run (Both goes a) talk listens end turns script (run_moment (beside n []) dialled held door told) (run_moment (beside m M) dialled' held' door' told')
      × (end ≡ Finished → FinishCame script told told')
  lifted end turns script asked n m dialled dialled' held held' door door' told told' s r = (
    q.0,
    record {
      times = r.times;
      first = r.first;
      last = r.last;
      empty = r.empty;
      went = q.1;
      dials = r.dials;
      holds = r.holds;
      readings = r.readings;
      rise = r.rise;
      ends = r.ends;
    },
    λ is. (r.times, r.readings, q.2 (subst (λ e. EndsSo e turns r.times r.last.finished) is r.ends)),
  )
    where
      q : (K : Log) × Turns (Both goes a) talk listens r.times None script (moment (beside n []) r.first door) (moment (beside m K) r.last door')
          × (r.last.finished ≡ true → FinishIsOver script r.times)
      q = all_turns r.times script r.rise asked dialled held n m r.first r.last door door' s r.empty r.went
