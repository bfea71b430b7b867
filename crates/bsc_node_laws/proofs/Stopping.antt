-- A run that a fault stopped: up to there it is one of the definition too, with each event one that may come.
-- It serves bsc_application and bsc_node_command.
use Rattle.std.proofs.Common.{◌≡◌, ◌≤◌, ◌<◌, ℕ, Bool, true, false, inl, inr, List, [], ◌∷◌, ◌++◌, Option, Some, None, refl, ap, sym, ◌∙◌, subst, arith}
use Rattle.std.specs.Prelude.{◌^◌}
use Rattle.std.specs.List.{Contains, list_all, list_any}
use Rattle.std.proofs.lemmas.List.Elements.{Contains-append_left, Contains-append_right}
use Rattle.std.proofs.lemmas.List.Folds.{list_all-append}
use Rattle.bsc_edge.specs.declared.said.Said.{Said}
use Rattle.bsc_node.specs.declared.link_name.LinkName.{LinkName}
use Rattle.bsc_node.specs.declared.node_event.NodeEvent.{NodeEvent}
use Rattle.bsc_node.specs.declared.node_event.NodeEvent.TheVariants.{Start, Arrived, Tick, Finish}
use Rattle.bsc_node.specs.declared.action.Action.{Action}
use Rattle.bsc_node.specs.Logs.{Made, Log}
use Rattle.bsc_node.specs.Node.{goes_on, actions_at}
use Rattle.bsc_node.specs.Conditions.{awaits_word}
use Rattle.bsc_node.specs.Laws.{draws}
use Rattle.bsc_node_laws.proofs.Drawn.{draws_at}
use Rattle.bsc_node_run.specs.declared.due.Due.{Due}
use Rattle.bsc_node_run.specs.declared.news.News.{News}
use Rattle.bsc_node_run.specs.Receiving.{Received}
use Rattle.bsc_node_run.specs.Requests.{is_asked}
use Rattle.bsc_node_run.specs.Running.{DontFall, IsEmpty}
use Rattle.bsc_node_run.specs.Stopping.{AdmitStops, EachStop, GiveStops, HearStops, LinesStop, NewsStop, StartStops, StopsAt, TurnStops}
use Rattle.bsc_node_run.specs.Stopping.{RunFails, StopsFromLines, StopsFromLinks, StopsFromNews, StopsFromTick, TurnsStop}
use Rattle.bsc_node_run.specs.Turning.{AreDue, Gives, GivesLines, GivesNews, HearsEach, LinkHears, Starts, Turn, event_of, names, passed_by}
use Rattle.bsc_node_run.specs.Worlds.{Admitting, Dialling, World, Same, begun, is_name, is_open}
use Rattle.bsc_node_run.specs.Moments.{in_hands, moment, outside, run_moment}
use Rattle.bsc_node_laws.proofs.Beside.{Both, beside}
use Rattle.bsc_node_laws.proofs.Coming.{draws-same}
use Rattle.bsc_node_laws.proofs.Courses.{FinishBy, asked_rest, at_first, at_later, by_due, within_rest}
use Rattle.bsc_node_laws.proofs.Lifting.{at, Holds, Ready, Stood, Steps, after, gives, ready_word}
use Rattle.bsc_node_laws.proofs.Turning.{asks, contains_first, given_lines, given_news, goes_on_later, heard_each, heard_if}
use Rattle.bsc_node_laws.proofs.Turning.{ready_arrived, ready_heard, ready_line, ready_news, ready_start, ready_tick, started, turn}
use Rattle.bsc_lemmas.proofs.Booleans.{and_left, and_right}

module _ {N L : Type 0} (goes : N → ℕ → NodeEvent → List Action → N → Type 0) (talk : L → Option (List Said)) (a : Made) (Stands : N → Log → Type 0)
    (steps : Steps goes a Stands) (t : ℕ) (below : t < 2 ^ 62) (P : Type 0) where
  abbrev Held : N → World L → Log → Type 0
  Held n w M = Holds a Stands t P n w M

  -- ---- one event

  stops_at : (e : NodeEvent) (n : N) (w v : World L) (M : Log) → Ready a Stands t P talk n w M e → StopsAt goes talk t e n w v → StopsAt (Both goes a) talk t e (beside n M) w v
  stops_at e n w v M r (inl same) = inl same
  stops_at e n w v M r (inr (actions, p, g, b)) =
      let s : (actions ≡ actions_at a M (at t e)) × Stands p (M ++ goes_on a (at t e) M) = steps n p M t e actions r.stands r.may g in
      inr (actions, beside p (M ++ goes_on a (at t e) M), (g, (r.may, s.0, refl)), b)

  pub give_stops : (e : NodeEvent) (n : N) (w v : World L) (M : Log) → Ready a Stands t P talk n w M e → GiveStops goes talk t e n w v → GiveStops (Both goes a) talk t e (beside n M) w v
  give_stops e n w v M r (inl s) = inl (stops_at e n w v M r s)
  give_stops e n w v M r (inr (actions, p, x, word, g, c, drawn, brings, s)) =
      inr (actions, beside p K, x, word, (g, (r.may, k.0, refl)), c, drawn, brings, stops_at word p x v K next s)
    where
      K : Log
      K = M ++ goes_on a (at t e) M

      k : (actions ≡ actions_at a M (at t e)) × Stood a Stands t P p x K
      k = after goes talk a Stands steps t below P n p w x M e actions r g c

      awaited : awaits_word K ≡ true
      awaited = draws_at a M (at t e) r.may ∙ sym (ap (list_any draws) k.0) ∙ draws-same actions ∙ drawn

      next : Ready a Stands t P talk p x K word
      next = ready_word goes talk a Stands steps t below P p x K word k.1 awaited brings

  -- ---- the parts of a turn

  news_stop : (news : List News) (n : N) (w v : World L) (M : Log) → Held n w M → NewsStop goes talk t news n w v → NewsStop (Both goes a) talk t news (beside n M) w v
  news_stop [] n w v M h s = absurd s
  news_stop (one ∷ more) n w v M h (rest, is, inl s) =
      (rest, is, inl (give_stops (event_of one) n (record w { due = rest }) v M (ready_news goes talk a Stands steps t below P one rest n w M h is) s))
  news_stop (one ∷ more) n w v M h (rest, is, inr (p, x, g, k)) =
      let q : (K : Log) × Gives (Both goes a) talk t (event_of one) (beside n M) (record w { due = rest }) (beside p K) x × Held p x K =
      gives goes talk a Stands steps t below P n p (record w { due = rest }) x M (event_of one) (ready_news goes talk a Stands steps t below P one rest n w M h is) g in
      (rest, is, inr (beside p q.0, x, q.1, news_stop more p x v q.0 q.2 k))

  lines_stop : (passed : ℕ) (lines : List Due) → list_all asks lines ≡ true → AreDue passed lines
      → ((d : Due) → Contains lines d → d.event ≡ Finish → d.at ≤ passed → P)
      → (n : N) (w v : World L) (M : Log) → Held n w M → LinesStop goes talk t lines n w v → LinesStop (Both goes a) talk t lines (beside n M) w v
  lines_stop passed [] asked due over n w v M h s = absurd s
  lines_stop passed (d ∷ lines) asked due over n w v M h (inl s) =
      inl (give_stops d.event n w v M
      (ready_line goes talk a Stands steps t below P passed d (and_left (is_asked d.event) (list_all asks lines) asked) due.0 (over d (contains_first d lines)) n w M h) s)
  lines_stop passed (d ∷ lines) asked due over n w v M h (inr (p, x, g, k)) =
      let q : (K : Log) × Gives (Both goes a) talk t d.event (beside n M) w (beside p K) x × Held p x K =
      gives goes talk a Stands steps t below P n p w x M d.event
      (ready_line goes talk a Stands steps t below P passed d (and_left (is_asked d.event) (list_all asks lines) asked) due.0 (over d (contains_first d lines)) n w M h) g in
      inr (
        beside p q.0,
        x,
        q.1,
        lines_stop passed lines (and_right (is_asked d.event) (list_all asks lines) asked) due.1
            (λ e c. over e (Contains-append_right (d ∷ []) lines e c)) p x v q.0 q.2 k,
      )

  -- what is told of what a link gave
  heard_ready : (name : LinkName) (e : NodeEvent) (n : N) (w x : World L) (M : Log) (o : Option L) → w.link name ≡ o → Held n w M → is_name name ≡ true → w.due ≡ [] → is_open name w ≡ true
      → Received talk name o (Some e) w x → Ready a Stands t P talk n x M e
  heard_ready name e n w x M None is h named none up r = cc
  heard_ready name e n w x M (Some k) is h named none up (l, given, ok, grows, told, same) =
      ready_heard goes talk a Stands steps t below P name k l given e n w x M (record { held = h; named = named; none = none; up = up; is = is }) ok told same

  hear_stops : (name : LinkName) (n : N) (w v : World L) (M : Log) → Held n w M → is_name name ≡ true → w.due ≡ [] → HearStops goes talk t name n w v
      → HearStops (Both goes a) talk t name (beside n M) w v
  hear_stops name n w v M h named none (up, inl quiet) = (up, inl quiet)
  hear_stops name n w v M h named none (up, inr (e, x, r, s)) =
      (up, inr (e, x, r, give_stops e n x v M (heard_ready name e n w x M (w.link name) refl h named none up r) s))

  each_stop : (links : List LinkName) (n : N) (w v : World L) (M : Log) → list_all is_name links ≡ true → Held n w M → w.due ≡ []
      → EachStop goes talk t links n w v → EachStop (Both goes a) talk t links (beside n M) w v
  each_stop [] n w v M named h none s = absurd s
  each_stop (name ∷ links) n w v M named h none (inl s) = inl (hear_stops name n w v M h (and_left (is_name name) (list_all is_name links) named) none s)
  each_stop (name ∷ links) n w v M named h none (inr (p, x, g, k)) =
      let q : (K : Log) × LinkHears (Both goes a) talk t name (beside n M) w (beside p K) x × Held p x K × (x.due ≡ []) =
      heard_if goes talk a Stands steps t below P name (is_open name w) n p w x M h (and_left (is_name name) (list_all is_name links) named) none refl g in
      inr (beside p q.0, x, q.1, each_stop links p x v q.0 (and_right (is_name name) (list_all is_name links) named) q.2 q.3 k)

  admit_stops : (listens : Bool) (n : N) (w v : World L) (door door' : Admitting L) (M : Log) → Held n w M
      → AdmitStops goes talk t listens (moment n w door) (in_hands v door') → AdmitStops (Both goes a) talk t listens (moment (beside n M) w door) (in_hands v door')
  admit_stops false n w v door door' M h s = absurd s
  admit_stops true n w v door door' M h (waits, inl k) = (waits, inl k)
  admit_stops true n w v door door' M h (waits, inr (l, leaves, s)) =
      (waits, inr (l, leaves, give_stops Arrived n (record w { arrived = Some l }) v M (ready_arrived goes talk a Stands steps t below P n w l M h) s))

  -- ---- a turn, from each of its parts on

  from_links : (listens : Bool) (n : N) (w v : World L) (door door' : Admitting L) (M : Log) → Held n w M → w.due ≡ []
      → StopsFromLinks goes talk t listens (moment n w door) (in_hands v door') → StopsFromLinks (Both goes a) talk t listens (moment (beside n M) w door) (in_hands v door')
  from_links listens n w v door door' M h none (inl (s, stays)) = inl (each_stop names n w v M refl h none s, stays)
  from_links listens n w v door door' M h none (inr (p, x, g, k)) =
      let q : (K : Log) × HearsEach (Both goes a) talk t names (beside n M) w (beside p K) x × Held p x K × (x.due ≡ []) =
      heard_each goes talk a Stands steps t below P names n p w x M refl h none g in
      inr (beside p q.0, x, q.1, admit_stops listens p x v door door' q.0 q.2 k)

  from_lines : (passed : ℕ) (script : List Due) (listens : Bool) (n : N) (w v : World L) (door door' : Admitting L) (M : Log) → Held n w M → w.due ≡ []
      → list_all asks script ≡ true → ((d : Due) → Contains script d → d.event ≡ Finish → d.at ≤ passed → P)
      → StopsFromLines goes talk t passed script listens (moment n w door) (in_hands v door')
      → StopsFromLines (Both goes a) talk t passed script listens (moment (beside n M) w door) (in_hands v door')
  from_lines passed script listens n w v door door' M h none asked over (lines, rest, parts, due, inl (s, stays)) = (
    lines,
    rest,
    parts,
    due,
    inl (
      lines_stop passed lines
          (and_left (list_all asks lines) (list_all asks rest) (sym (ap (list_all asks) parts ∙ list_all-append asks lines rest) ∙ asked)) due
          (λ d c. over d (subst (λ (all : List Due). Contains all d) (sym parts) (Contains-append_left lines rest d c))) n w v M h s,
      stays,
    ),
  )
  from_lines passed script listens n w v door door' M h none asked over (lines, rest, parts, due, inr (p, x, next, g, k)) =
      let q : (K : Log) × GivesLines (Both goes a) talk t lines (beside n M) w (beside p K) x × Held p x K × (x.due ≡ []) =
      given_lines goes talk a Stands steps t below P passed lines
      (and_left (list_all asks lines) (list_all asks rest) (sym (ap (list_all asks) parts ∙ list_all-append asks lines rest) ∙ asked)) due
      (λ d c. over d (subst (λ (all : List Due). Contains all d) (sym parts) (Contains-append_left lines rest d c))) n p w x M h none g in
      (lines, rest, parts, due, inr (beside p q.0, x, next, q.1, from_links listens p x v door door' q.0 q.2 q.3 k))

  from_news : (passed : ℕ) (script : List Due) (listens : Bool) (n : N) (w v : World L) (door door' : Admitting L) (M : Log) → Held n w M
      → list_all asks script ≡ true → ((d : Due) → Contains script d → d.event ≡ Finish → d.at ≤ passed → P)
      → StopsFromNews goes talk t passed script listens (moment n w door) (in_hands v door') → StopsFromNews (Both goes a) talk t passed script listens (moment (beside n M) w door) (in_hands v door')
  from_news passed script listens n w v door door' M h asked over (news, inl (s, stays)) = (news, inl (news_stop news n w v M h s, stays))
  from_news passed script listens n w v door door' M h asked over (news, inr (p, x, g, k)) =
      let q : (K : Log) × GivesNews (Both goes a) talk t news (beside n M) w (beside p K) x × Held p x K × (x.due ≡ []) =
      given_news goes talk a Stands steps t below P news n p w x M h g in
      (news, inr (beside p q.0, x, q.1, from_lines passed script listens p x v door door' q.0 q.2 q.3 asked over k))

  from_tick : (passed : ℕ) (script : List Due) (listens : Bool) (n : N) (w v : World L) (door door' : Admitting L) (M : Log) → Held n w M
      → list_all asks script ≡ true → ((d : Due) → Contains script d → d.event ≡ Finish → d.at ≤ passed → P)
      → StopsFromTick goes talk t passed script listens (moment n w door) (in_hands v door') → StopsFromTick (Both goes a) talk t passed script listens (moment (beside n M) w door) (in_hands v door')
  from_tick passed script listens n w v door door' M h asked over (inl (s, stays)) =
      inl (give_stops Tick n w v M (ready_tick goes talk a Stands steps t below P n w M h) s, stays)
  from_tick passed script listens n w v door door' M h asked over (inr (p, x, g, k)) =
      let q : (K : Log) × Gives (Both goes a) talk t Tick (beside n M) w (beside p K) x × Held p x K =
      gives goes talk a Stands steps t below P n p w x M Tick (ready_tick goes talk a Stands steps t below P n w M h) g in
      inr (beside p q.0, x, q.1, from_news passed script listens p x v door door' q.0 q.2 asked over k)

  -- A turn that stopped, whose start is lifted, is lifted as far as it went.
  pub turn_stops : (start : Option ℕ) (script : List Due) (listens : Bool) (n : N) (w v : World L) (door door' : Admitting L) (M : Log)
      → ((p : N) (x y : World L) → Same x (begun w) → Starts goes talk t start n x p y → (K : Log) × Starts (Both goes a) talk t start (beside n M) x (beside p K) y × Held p y K)
      → ((x y : World L) → Same x (begun w) → StartStops goes talk t start n x y → StartStops (Both goes a) talk t start (beside n M) x y)
      → list_all asks script ≡ true → ((d : Due) → Contains script d → d.event ≡ Finish → d.at ≤ passed_by start t → P)
      → TurnStops goes talk t start script listens (moment n w door) (in_hands v door') → TurnStops (Both goes a) talk t start script listens (moment (beside n M) w door) (in_hands v door')
  turn_stops start script listens n w v door door' M first at_once asked over (o, begins, inl (s, stays)) = (o, begins, inl (at_once o v begins s, stays))
  turn_stops start script listens n w v door door' M first at_once asked over (o, begins, inr (p, x, g, k)) =
      let q : (K : Log) × Starts (Both goes a) talk t start (beside n M) o (beside p K) x × Held p x K = first p o x begins g in
      (o, begins, inr (beside p q.0, x, q.1, from_tick (passed_by start t) script listens p x v door door' q.0 q.2 asked over k))

module _ {N L : Type 0} (goes : N → ℕ → NodeEvent → List Action → N → Type 0) (a : Made) (Stands : N → Log → Type 0) (steps : Steps goes a Stands)
    (talk : L → Option (List Said)) (listens : Bool) where
  -- Turns after the first, of which the last stopped.
  later_stops : (whole : List Due) (first : ℕ) (times : List ℕ) (from : ℕ) (script : List Due) → first ≤ from → DontFall from times
      → list_all asks script ≡ true → ((d : Due) → Contains script d → Contains whole d)
      → (n : N) (w v : World L) (door door' : Admitting L) (M : Log) → Holds a Stands from (FinishBy whole first from) n w M → w.due ≡ []
      → TurnsStop goes talk listens times (Some first) script (moment n w door) (in_hands v door')
      → TurnsStop (Both goes a) talk listens times (Some first) script (moment (beside n M) w door) (in_hands v door')
  later_stops whole first [] from script early fall asked within n w v door door' M h none s = absurd s
  later_stops whole first (t ∷ times) from script early fall asked within n w v door door' M h none (going, inl (over, s)) =
      let early_too : first ≤ t = omega (arith, fall.0) in (
        going,
        inl (
          over,
          turn_stops goes talk a Stands steps t fall.1 (FinishBy whole first t) (Some first) script listens n w v door door' M
              (λ o y z same b. goes_on_later goes talk a Stands steps t fall.1 (FinishBy whole first t) first n o w y z M
              (at_later goes a Stands steps talk listens whole first from t n w M fall.0 h) none same b)
              (λ x y same b. absurd b)
              asked (λ d c is due. (d, within d c, is, by_due d.at first t early_too due)) s,
        ),
      )
  later_stops whole first (t ∷ times) from script early fall asked within n w v door door' M h none (going, inr (rest, p, x, mid, g, k)) =
      let early_too : first ≤ t = omega (arith, fall.0) in
      let q : (K : Log) × Turn (Both goes a) talk t (Some first) script rest listens (moment (beside n M) w door) (moment (beside p K) x mid)
      × Holds a Stands t (FinishBy whole first t) p x K × (x.due ≡ []) =
      turn goes talk a Stands steps t fall.1 (FinishBy whole first t) (Some first) script rest listens n p w x door mid M
      (λ o y z same b. goes_on_later goes talk a Stands steps t fall.1 (FinishBy whole first t) first n o w y z M
      (at_later goes a Stands steps talk listens whole first from t n w M fall.0 h) none same b)
      asked (λ d c is due. (d, within d c, is, by_due d.at first t early_too due)) g in (
        going,
        inr (
          rest,
          beside p q.0,
          x,
          mid,
          q.1,
          later_stops whole first times t rest early_too fall.2 (asked_rest script g.lines rest g.parts asked)
              (λ d c. within d (within_rest script g.lines rest g.parts d c)) p x v mid door' q.0 q.2 q.3 k,
        ),
      )

  -- All turns of a node that was made.
  all_stop : (times : List ℕ) (script : List Due) → DontFall 0 times → list_all asks script ≡ true
      → (calls : Dialling L) (text : Option (List ℕ)) (n : N) (w v : World L) (door door' : Admitting L) → Stands n [] → IsEmpty calls text w
      → TurnsStop goes talk listens times None script (moment n w door) (in_hands v door') → TurnsStop (Both goes a) talk listens times None script (moment (beside n []) w door) (in_hands v door')
  all_stop [] script fall asked calls text n w v door door' s empty r = absurd r
  all_stop (t ∷ times) script fall asked calls text n w v door door' s empty (going, inl (over, r)) = (
    going,
    inl (
      over,
      turn_stops goes talk a Stands steps t fall.1 (FinishBy script t t) None script listens n w v door door' []
          (λ o y z same b. started goes talk a Stands steps t fall.1 (FinishBy script t t) n o y z s (at_first calls text w empty y same) b)
          (λ x y same b. give_stops goes talk a Stands steps t fall.1 (FinishBy script t t) Start n x y []
          (ready_start goes talk a Stands steps t fall.1 (FinishBy script t t) n x s (at_first calls text w empty x same)) b)
          asked (λ d c is due. (d, c, is, by_due d.at t t (omega arith) due)) r,
    ),
  )
  all_stop (t ∷ times) script fall asked calls text n w v door door' s empty (going, inr (rest, p, x, mid, g, k)) =
      let q : (K : Log) × Turn (Both goes a) talk t None script rest listens (moment (beside n []) w door) (moment (beside p K) x mid) × Holds a Stands t (FinishBy script t t) p x K × (x.due ≡ []) =
      turn goes talk a Stands steps t fall.1 (FinishBy script t t) None script rest listens n p w x door mid []
      (λ o y z same b. started goes talk a Stands steps t fall.1 (FinishBy script t t) n o y z s (at_first calls text w empty y same) b)
      asked (λ d c is due. (d, c, is, by_due d.at t t (omega arith) due)) g in (
        going,
        inr (
          rest,
          beside p q.0,
          x,
          mid,
          q.1,
          later_stops script t times t rest (omega arith) fall.2 (asked_rest script g.lines rest g.parts asked) (within_rest script g.lines rest g.parts)
              p x v mid door' q.0 q.2 q.3 k,
        ),
      )

  -- A run that ended by a fault is one of the definition, up to there.
  pub fails_lifted : (turns : ℕ) (script : List Due) → list_all asks script ≡ true
      → (n : N) (c c' : Dialling L) (b b' : Option (List ℕ)) (l l' : Admitting L) (o o' : Option (List ℕ)) → Stands n []
      → RunFails goes talk listens turns script (run_moment n c b l o) (outside c' b' l' o') → RunFails (Both goes a) talk listens turns script (run_moment (beside n []) c b l o) (outside c' b' l' o')
  fails_lifted turns script asked n c c' b b' l l' o o' s (inl k) = inl k
  fails_lifted turns script asked n c c' b b' l l' o o' s (inr r) = inr (
      record {
        times = r.times;
        first = r.first;
        last = r.last;
        empty = r.empty;
        went = all_stop r.times script r.rise asked c b n r.first r.last l l' s r.empty r.went;
        dials = r.dials;
        holds = r.holds;
        readings = r.readings;
        rise = r.rise;
        within = r.within;
      }
      )
