-- A run that a fault stopped has a log: up to its last event it is as any run, and of that event the first part was done.
-- It serves the clauses of `stopped_runs_have_logs` and `stopped_scripts_have_logs`.
use Rattle.std.proofs.Common.{◌≡◌, ◌<◌, inl, inr, ℕ, Bool, true, false, List, [], ◌∷◌, ◌++◌, Option, Some, None, Result, Ok, Err, refl, ap, sym, subst, ◌∙◌, append-nil}
use Rattle.std.specs.Prelude.{◌^◌, filter_map, IsTrue, option_to_list, slice_get, ⊤}
use Rattle.std.specs.List.{list_all, list_any}
use Rattle.std.proofs.lemmas.List.Folds.{list_all-append}
use Rattle.std.proofs.lemmas.Option.{none-some, same_Some}
use Rattle.bsc_outside.specs.Faults.{PutsPrefix}
use Rattle.bsc_edge.specs.declared.arrived.Arrived.TheVariants.{Quiet as NoLink}
use Rattle.bsc_edge.specs.declared.fault.LinkFault.{LinkFault}
use Rattle.bsc_edge.specs.declared.fault.LinkFault.TheVariants.{Failed, NoMemory}
use Rattle.bsc_edge.specs.declared.incoming.Incoming.{Incoming}
use Rattle.bsc_edge.specs.declared.incoming.Incoming.TheVariants.{Message, Text, Quiet, Closed}
use Rattle.bsc_edge.specs.declared.said.Said.{Said}
use Rattle.bsc_edge.specs.declared.said.Said.TheVariants.{Gave}
use Rattle.bsc_edge.specs.Told.{Grows, Leaves}
use Rattle.bsc_node.specs.declared.link_name.LinkName.{LinkName}
use Rattle.bsc_node.specs.declared.node_event.NodeEvent.{NodeEvent}
use Rattle.bsc_node.specs.declared.node_event.NodeEvent.TheVariants.{Start, Arrived, Came, CameText, Lost, Tick}
use Rattle.bsc_node.specs.declared.timed_event.TimedEvent.{TimedEvent}
use Rattle.bsc_node.specs.declared.action.Action.{Action}
use Rattle.bsc_node.specs.Conditions.{awaits_word, brings_word}
use Rattle.bsc_node.specs.Laws.{draws as draws_word, with_event}
use Rattle.bsc_node.specs.Links.{begins, same_link}
use Rattle.bsc_node.specs.Logs.{Made, Log, action_of, came}
use Rattle.bsc_node.specs.Node.{goes_on, actions_at}
use Rattle.bsc_node.proofs.Common.{same_link-is}
use Rattle.bsc_node.proofs.Told.{same_link-self}
use Rattle.bsc_node_laws.specs.Courses.{GoesAsDefined}
use Rattle.bsc_node_laws.specs.Links.{Admits as AdmitsIn, opens_at}
use Rattle.bsc_node_laws.proofs.Agreeing.{Agrees}
use Rattle.bsc_node_laws.proofs.Coming.{draws-same}
use Rattle.bsc_node_laws.proofs.Courses.{asked_rest, at_first}
use Rattle.bsc_node_laws.proofs.Drawn.{draws_at}
use Rattle.bsc_node_laws.proofs.Followed.{is_arrival}
use Rattle.bsc_node_laws.proofs.Lifting.{Ready, Stood, after, at, ready_word}
use Rattle.bsc_node_laws.proofs.News.{asked-ends, event_keeps, hears_keeps, lost_keeps, news_keeps}
use Rattle.bsc_node_laws.proofs.Same.{agrees-same, apart-link, link-here}
use Rattle.bsc_node_laws.specs.Said.{text_of}
use Rattle.bsc_node_laws.proofs.Saying.{SaysBetween, between-from, each-between, gives-between, goes-between, hears-between, lines-between, news-between, starts-between, still-same, turn-between}
use Rattle.bsc_node_laws.proofs.StopsMapping.{fails_map}
use Rattle.bsc_node_laws.proofs.Turning.{Hearing, asks, no_true, ready_arrived, ready_heard, ready_line, ready_news, ready_start, ready_tick}
use Rattle.bsc_node_run.specs.declared.due.Due.{Due}
use Rattle.bsc_node_run.specs.declared.news.News.{News}
use Rattle.bsc_node_run.specs.Drawing.{Drawing, GoesDrawing, at_rest}
use Rattle.bsc_node_run.specs.Moments.{in_hands, moment, outside, run_moment}
use Rattle.bsc_node_run.specs.Moments as Moments
use Rattle.bsc_node_run.specs.Performing.{Carries}
use Rattle.bsc_node_run.specs.Receiving.{IsLast, Received, WasGiven, left_by, link_wait, told_of}
use Rattle.bsc_node_run.specs.Requests.{is_asked}
use Rattle.bsc_node_run.specs.Running.{DontFall, IsEmpty}
use Rattle.bsc_node_run.specs.Stopping.{AdmitStops, Breaks, EachStop, GiveStops, HearStops, LinesStop, Misses, NewsStop, StartStops, StopsAt, TurnStops}
use Rattle.bsc_node_run.specs.Stopping.{RunFails, StopsFromLines, StopsFromLinks, StopsFromNews, StopsFromTick, TurnsStop}
use Rattle.bsc_node_run.specs.Turning.{AreDue, HasAnswered, Starts, draws, event_of, names, passed_by}
use Rattle.bsc_node_run.specs.Worlds.{Admitting, Dialling, World, Same, begun, ends, is_name, is_open, with_link}
use Rattle.bsc_node_run.proofs.Asked.{asked_of}
use Rattle.bsc_lemmas.proofs.Booleans.{and_left, and_right}
use Rattle.bsc_node_links.specs.Coming.{HasGiven, arrived_by, by_lines}
use Rattle.bsc_node_links.specs.Lives.{LinkLife, given_by, given_over, lines_since, put_over}
use Rattle.bsc_node_links.specs.Stopped.{HasStopped, IsOfScript, LinksAreUsedFirst, StoppedRunsHaveLogs, StoppedScriptsHaveLogs}
use Rattle.bsc_node_links.specs.Talks.{given_by as said_given, put_by as said_put}
use Rattle.bsc_node_links.specs.Using.{Outside}
use Rattle.bsc_node_links.proofs.Events as Events
use Rattle.bsc_node_links.proofs.Events.{AreIn, Went, in-all, in-first, in-later, in-left, in-right, line_of, news_of, went-none, went-one, went-then, word_of}
use Rattle.bsc_node_links.proofs.Written.{Wrote, breaks_write, prefix_none, wrote_none, wrote_then}
use Rattle.bsc_node_links.proofs.LetGo.{Gone, arrival_broken, arrival_unmet, broken_off, gone_none, unmet}
use Rattle.bsc_node_links.proofs.Using.{IsGone, StandsBy, StandsSo, Uses, carries_none, let_go, none_came, one_came, redoor, says, so, stays}
use Rattle.bsc_node_links.proofs.Walking.{Fine, Is, asked_message, asked_plain, brought_of, event_use, fine_later, first_turn, given_plainly, goes_use, hears_each, hears_if}
use Rattle.bsc_node_links.proofs.Walking.{hears_use, later_turn, lines_given, log_alone, log_steps, news_message, news_no_arrival, news_use, none_used, plain_agrees}
use Rattle.bsc_node_links.proofs.Walking.{plain_no_arrival, turn_uses, word_ends, word_message, word_plain}

-- that a link is over gives nothing
last_gives : (given : Result Incoming LinkFault) → IsLast given → said_given (Gave link_wait given) ≡ []
last_gives (Ok (Message o)) h = absurd h
last_gives (Ok Text) h = absurd h
last_gives (Ok Quiet) h = absurd h
last_gives (Ok Closed) h = refl
last_gives (Err Failed) h = refl
last_gives (Err NoMemory) h = absurd h

-- where the acceptor failed, no link came
none_answered : {L : Type 0} (door door' : Admitting L) (fault : LinkFault) → HasAnswered door door' (Err fault) → HasAnswered door door' (Ok NoLink)
none_answered {L} door door' fault (leaves, came_so) = (by door.left door'.left leaves, came_so)
  where
    by : (old new : Option (List L)) → Leaves old new (Err fault) → Leaves old new (Ok NoLink)
    by old None h = tt
    by None (Some n) h = absurd h
    by (Some o) (Some n) h = h

-- at a link that arrives no word is drawn
arrival_draws : (a : Made) (M : Log) (t : ℕ) (actions : List Action) → AdmitsIn a M (at t Arrived) → actions ≡ actions_at a M (at t Arrived) → draws actions ≡ false
arrival_draws a M t actions (inl (k, goes, gone, named)) are = ap draws (are ∙ ap (filter_map action_of) goes)
arrival_draws a M t actions (inr goes) are = ap draws (are ∙ ap (filter_map action_of) goes)

-- ---- from a log on

module _ {L : Type 0} (a : Made) (talk : L → Option (List Said)) (d0 : Dialling L) (a0 : Admitting L) (script : List Due) where
  -- A run that had this log, and had written this, went on and stopped, with this acceptor and in this world.
  abbrev pub Ends : Admitting L → World L → Option (List ℕ) → Log → Type 0
  Ends D v h n = (N : Log) × Went a script n N × Gone talk d0 a0 D v.dialled None N × Wrote h v.held n N

  later : (D : Admitting L) (v w x : World L) (n p : Log) → SaysBetween n w p x → Went a script n p → Ends D v x.held p → Ends D v w.held n
  later D v w x n p says went (N, more, gone, wrote) = (N, went-then a script n p N went more, gone, wrote_then w x v.held n p N says wrote)

module _ {L : Type 0} (a : Made) (talk : L → Option (List Said)) (d0 : Dialling L) (a0 D : Admitting L) (script : List Due) (t : ℕ) (below : t < 2 ^ 62) where
  abbrev Live : Log → World L → Type 0
  Live n w = Fine a talk d0 a0 D t below n w

  abbrev Over : World L → Option (List ℕ) → Log → Type 0
  Over v h n = Ends a talk d0 a0 script D v h n

  onward : (v w x : World L) (n p : Log) → SaysBetween n w p x → Went a script n p → Over v x.held p → Over v w.held n
  onward v w x n p says went over = later a talk d0 a0 script D v w x n p says went over

  -- ---- one event

  at_event : (e : NodeEvent) (n : Log) (w v : World L) → Ready a Is t ⊤ talk n w n e → IsOfScript script e → is_arrival e ≡ false
      → Agrees w (with_event n (at t e) ++ opens_at e (with_event n (at t e))) → Uses talk d0 a0 D w (with_event n (at t e)) → w.arrived ≡ None
      → StopsAt (GoesAsDefined a) talk t e n w v → Over v w.held n
  at_event e n w v r meant plain A u none (inl same) = (
    n ++ goes_on a (at t e) n,
    went-one a script n (at t e) r.may meant,
    subst (λ (x : Dialling L). Gone talk d0 a0 D x None (n ++ goes_on a (at t e) n)) (sym same.dialled) (unmet a talk d0 a0 D n (at t e) w (brought_of a n t e plain r.brings) none u),
    (goes_on a (at t e) n, refl, prefix_none w.held v.held (text_of (goes_on a (at t e) n)) same.held),
  )
  at_event e n w v r meant plain A u none (inr (actions, p, (may, are, on), b)) = (
    n ++ goes_on a (at t e) n,
    went-one a script n (at t e) r.may meant,
    broken_off a talk d0 a0 D n (at t e) w v (brought_of a n t e plain r.brings) none A u (subst (λ (xs : List Action). Breaks talk xs w v) are b),
    (goes_on a (at t e) n, refl, breaks_write talk (actions_at a n (at t e)) w v (subst (λ (xs : List Action). Breaks talk xs w v) are b)),
  )

  -- the word that was drawn
  at_word : (p : Log) (x v : World L) (word : NodeEvent) → Stood a Is t ⊤ p x p → awaits_word p ≡ true → IsTrue (brings_word word) → Uses talk d0 a0 D x p → x.arrived ≡ None
      → StopsAt (GoesAsDefined a) talk t word p x v → Over v x.held p
  at_word p x v word s aw brings u none stop =
      at_event word p x v (ready_word (GoesAsDefined a) talk a Is (log_steps a) t below ⊤ p x p word s aw brings) (word_of script word brings) (plain_no_arrival word (word_plain word brings))
      (plain_agrees a talk d0 a0 D x p t word (word_plain word brings) (event_keeps x p (at t word) (word_ends word brings) s.agrees))
      (event_use a talk d0 a0 D x x p t word (word_message word brings) refl refl (λ name. refl) u) none stop

  -- any but that a link arrives
  give_stops : (e : NodeEvent) (n : Log) (w v : World L) → Ready a Is t ⊤ talk n w n e → IsOfScript script e → is_arrival e ≡ false
      → Agrees w (with_event n (at t e) ++ opens_at e (with_event n (at t e))) → Uses talk d0 a0 D w (with_event n (at t e)) → w.arrived ≡ None
      → GiveStops (GoesAsDefined a) talk t e n w v → Over v w.held n
  give_stops e n w v r meant plain A u none (inl s) = at_event e n w v r meant plain A u none s
  give_stops e n w v r meant plain A u none (inr (actions, p, x, word, (may, are, on), c, drawn, brings, s)) =
      let k = after (GoesAsDefined a) talk a Is (log_steps a) t below ⊤ n p w x n e actions r (may, are, on) c in
      let aw : awaits_word p ≡ true = ap awaits_word on ∙ draws_at a n (at t e) r.may ∙ sym (ap (list_any draws_word) k.0) ∙ draws-same actions ∙ drawn in
      let did_so : Carries talk (actions_at a n (at t e)) w x = subst (λ (xs : List Action). Carries talk xs w x) are c in
      onward v w x n p (goes-between a talk t e actions n w p x (may, are, on) c) (Events.goes a talk script t e actions n p meant (may, are, on))
      (at_word p x v word (subst (λ (N : Log). Stood a Is t ⊤ p x N) (sym on) k.1) aw brings
      (subst (Uses talk d0 a0 D x) (sym on) (goes_use a talk d0 a0 D n (at t e) w x (brought_of a n t e plain r.brings) A u did_so))
      (carries_none talk (actions_at a n (at t e)) w x did_so none) s)

  -- that a link arrives
  arrival_stops : (n : Log) (l : L) (w v : World L) → w.arrived ≡ Some l → Ready a Is t ⊤ talk n w n Arrived → Uses talk d0 a0 D w (with_event n (at t Arrived))
      → GiveStops (GoesAsDefined a) talk t Arrived n w v → Over v w.held n
  arrival_stops n l w v here r u (inl (inl same)) = (
    n ++ goes_on a (at t Arrived) n,
    went-one a script n (at t Arrived) r.may tt,
    subst (λ (x : Dialling L). Gone talk d0 a0 D x None (n ++ goes_on a (at t Arrived) n)) (sym same.dialled) (arrival_unmet a talk d0 a0 D n t l w here r.brings u),
    (goes_on a (at t Arrived) n, refl, prefix_none w.held v.held (text_of (goes_on a (at t Arrived) n)) same.held),
  )
  arrival_stops n l w v here r u (inl (inr (actions, p, (may, are, on), b))) = (
    n ++ goes_on a (at t Arrived) n,
    went-one a script n (at t Arrived) r.may tt,
    arrival_broken a talk d0 a0 D n t l w v here r.brings u (subst (λ (xs : List Action). Breaks talk xs w v) are b),
    (goes_on a (at t Arrived) n, refl, breaks_write talk (actions_at a n (at t Arrived)) w v (subst (λ (xs : List Action). Breaks talk xs w v) are b)),
  )
  arrival_stops n l w v here r u (inr (actions, p, x, word, (may, are, on), c, drawn, brings, s)) =
      no_true (Over v w.held n) (draws actions) (arrival_draws a n t actions r.brings are) drawn

  -- ---- what is new, and the script

  news_stop : (news : List News) (n : Log) (w v : World L) → Live n w → NewsStop (GoesAsDefined a) talk t news n w v → Over v w.held n
  news_stop [] n w v f s = absurd s
  news_stop (one ∷ more) n w v f (rest, is, inl s) =
      let y : World L = record w { due = rest } in
      let e : TimedEvent = at t (event_of one) in
      give_stops (event_of one) n y v (ready_news (GoesAsDefined a) talk a Is (log_steps a) t below ⊤ one rest n w n f.0 is) (news_of script one.link one.change) (news_no_arrival one.link one.change)
      (news_keeps one rest w n e refl is f.0.0.agrees)
      (event_use a talk d0 a0 D w y n t (event_of one) (news_message one.link one.change) refl refl (λ name. refl) f.1) f.2 s
  news_stop (one ∷ more) n w v f (rest, is, inr (p, x, g, k)) =
      let y : World L = record w { due = rest } in
      let e : TimedEvent = at t (event_of one) in
      onward v w x n p (gives-between a talk t (event_of one) n y p x g) (Events.gives a talk script t (event_of one) n y p x (news_of script one.link one.change) g)
      (news_stop more p x v
      (given_plainly a talk d0 a0 D t below n p y x (event_of one) (ready_news (GoesAsDefined a) talk a Is (log_steps a) t below ⊤ one rest n w n f.0 is) (news_no_arrival one.link one.change)
      (news_keeps one rest w n e refl is f.0.0.agrees)
      (event_use a talk d0 a0 D w y n t (event_of one) (news_message one.link one.change) refl refl (λ name. refl) f.1) f.2 g) k)

  lines_stop : (passed : ℕ) (lines : List Due) → AreIn script lines → list_all asks lines ≡ true → AreDue passed lines → (n : Log) (w v : World L) → Live n w
      → LinesStop (GoesAsDefined a) talk t lines n w v → Over v w.held n
  lines_stop passed [] within asked due n w v f s = absurd s
  lines_stop passed (d ∷ lines) within asked due n w v f (inl s) =
      let here : is_asked d.event ≡ true = and_left (is_asked d.event) (list_all asks lines) asked in
      give_stops d.event n w v (ready_line (GoesAsDefined a) talk a Is (log_steps a) t below ⊤ passed d here due.0 (λ finish over. tt) n w n f.0) (line_of script d (in-first script d lines within))
      (plain_no_arrival d.event (asked_plain d.event here)) (plain_agrees a talk d0 a0 D w n t d.event (asked_plain d.event here)
      (event_keeps w n (at t d.event) (asked-ends d.event here) f.0.0.agrees))
      (event_use a talk d0 a0 D w w n t d.event (asked_message d.event here) refl refl (λ name. refl) f.1) f.2 s
  lines_stop passed (d ∷ lines) within asked due n w v f (inr (p, x, g, k)) =
      let here : is_asked d.event ≡ true = and_left (is_asked d.event) (list_all asks lines) asked in
      onward v w x n p (gives-between a talk t d.event n w p x g) (Events.gives a talk script t d.event n w p x (line_of script d (in-first script d lines within)) g)
      (lines_stop passed lines (in-later script d lines within) (and_right (is_asked d.event) (list_all asks lines) asked) due.1 p x v
      (given_plainly a talk d0 a0 D t below n p w x d.event (ready_line (GoesAsDefined a) talk a Is (log_steps a) t below ⊤ passed d here due.0 (λ finish over. tt) n w n f.0)
      (plain_no_arrival d.event (asked_plain d.event here)) (plain_agrees a talk d0 a0 D w n t d.event (asked_plain d.event here)
      (event_keeps w n (at t d.event) (asked-ends d.event here) f.0.0.agrees))
      (event_use a talk d0 a0 D w w n t d.event (asked_message d.event here) refl refl (λ name. refl) f.1) f.2 g) k)

  -- ---- what a link gave

  -- A link was called, by which nothing was given and nothing was put: no line is written.
  called_use : (name : LinkName) (k l : L) (s : Said) (o : Option L) (w v : World L) (M : Log) → is_name name ≡ true → w.link name ≡ Some k → Grows (talk k) (talk l) (s ∷ [])
      → said_given s ≡ [] → said_put s ≡ []
      → ((z : Option (Option L)) (g p : List (List ℕ)) → StandsSo talk z (Some l) g p → StandsSo talk z o g p) → Same v (with_link name o w) → Uses talk d0 a0 D w M → Uses talk d0 a0 D v M
  called_use name k l s o w v M named is grew gave put left same u = stays talk d0 a0 D w v M same.dialled same.arrived (λ other z g p h. by other z g p (same_link name other) refl h) u
    where
      by : (other : LinkName) (z : Option (Option L)) (g p : List (List ℕ)) (b : Bool) → same_link name other ≡ b → StandsSo talk z (w.link other) g p → StandsSo talk z (v.link other) g p
      by other z g p true here h =
          subst (λ (n : LinkName). StandsSo talk z (w.link n) g p → StandsSo talk z (v.link n) g p) (same_link-is name other here)
          (λ j. so talk z o (v.link name) (g ++ said_given s) g (p ++ said_put s) p (sym (same.link name ∙ link-here name o w named))
          (ap (λ (x : List (List ℕ)). g ++ x) gave ∙ append-nil g) (ap (λ (x : List (List ℕ)). p ++ x) put ∙ append-nil p)
          (left z (g ++ said_given s) (p ++ said_put s) (says talk z k l s g p grew (so talk z (w.link name) (Some k) g g p p is refl refl j)))) h
      by other z g p false ne h = so talk z (w.link other) (v.link other) g g p p (sym (same.link other ∙ (apart-link name o w).link other ne)) refl refl h

  missed : (name : LinkName) (o : Option L) (n : Log) (w v : World L) → Live n w → is_name name ≡ true → w.link name ≡ o → Misses talk name o w v → Over v w.held n
  missed name None n w v f named is m = absurd m
  missed name (Some k) n w v f named is (l, inl (grew, same)) = (
    n,
    went-none a script n n refl,
    gone_none talk d0 a0 D v n (same.arrived ∙ f.2) (called_use name k l (Gave link_wait (Err NoMemory)) (Some l) w v n named is grew refl refl (λ z g p s. s) same f.1),
    wrote_none w.held v.held n same.held,
  )
  missed name (Some k) n w v f named is (l, inr (given, last, grew, same)) = (
    n,
    went-none a script n n refl,
    gone_none talk d0 a0 D v n (same.arrived ∙ f.2) (called_use name k l (Gave link_wait given) None w v n named is grew (last_gives given last) refl (λ z g p s. let_go talk z l g p s) same f.1),
    wrote_none w.held v.held n same.held,
  )

  -- It stopped at what a link gave.
  heard : (name : LinkName) (k l : L) (given : Result Incoming LinkFault) (e : NodeEvent) (n : Log) (w x v : World L) → Hearing (GoesAsDefined a) talk a Is (log_steps a) t below ⊤ name k n w n
      → Uses talk d0 a0 D w n → w.arrived ≡ None → WasGiven given → Grows (talk k) (talk l) (Gave link_wait given ∷ []) → Some e ≡ told_of name given → Same x (left_by name l given w)
      → GiveStops (GoesAsDefined a) talk t e n x v → Over v w.held n
  heard name k l (Ok (Message o)) e n w x v h u none ok grew told same s =
      let here : given_by name (came (at t (Came name o))) ≡ o ∷ [] = rw (same_link-self name) refl in
      subst (λ (h : Option (List ℕ)). Over v h n) same.held
      (give_stops (Came name o) n x v (ready_heard (GoesAsDefined a) talk a Is (log_steps a) t below ⊤ name k l (Ok (Message o)) (Came name o) n w x n h tt refl same) tt refl
      (plain_agrees a talk d0 a0 D x n t (Came name o) refl (event_keeps x n (at t (Came name o)) (λ other. refl)
      (agrees-same x (with_link name (Some l) w) n same (hears_keeps name k l w n h.named h.is h.held.0.agrees))))
      (hears_use a talk d0 a0 D t below name k l (Gave link_wait (Ok (Message o))) (Some l) w x n (came (at t (Came name o))) h.named h.is grew
      (λ z g p s. s) same.link same.dialled same.arrived (λ other. refl) (λ other ne. rw ne refl) here (λ other. refl) refl (λ h. h) (λ h. ap option_to_list h) (λ c e. tt) u)
      (same.arrived ∙ none) (subst (λ (d : NodeEvent). GiveStops (GoesAsDefined a) talk t d n x v) (same_Some e (Came name o) told) s))
  heard name k l (Ok Text) e n w x v h u none ok grew told same s =
      subst (λ (h : Option (List ℕ)). Over v h n) same.held
      (give_stops (CameText name) n x v (ready_heard (GoesAsDefined a) talk a Is (log_steps a) t below ⊤ name k l (Ok Text) (CameText name) n w x n h tt refl same) tt refl
      (plain_agrees a talk d0 a0 D x n t (CameText name) refl (event_keeps x n (at t (CameText name)) (λ other. refl)
      (agrees-same x (with_link name (Some l) w) n same (hears_keeps name k l w n h.named h.is h.held.0.agrees))))
      (hears_use a talk d0 a0 D t below name k l (Gave link_wait (Ok Text)) (Some l) w x n (came (at t (CameText name))) h.named h.is grew (λ z g p s. s) same.link same.dialled same.arrived
      (λ other. refl) (λ other ne. refl) refl (λ other. refl) refl (λ h. h) (λ h. ap option_to_list h) (λ c e. tt) u)
      (same.arrived ∙ none) (subst (λ (d : NodeEvent). GiveStops (GoesAsDefined a) talk t d n x v) (same_Some e (CameText name) told) s))
  heard name k l (Ok Quiet) e n w x v h u none ok grew told same s = absurd (none-some e (sym told))
  heard name k l (Ok Closed) e n w x v h u none ok grew told same s =
      subst (λ (h : Option (List ℕ)). Over v h n) same.held
      (give_stops (Lost name) n x v (ready_heard (GoesAsDefined a) talk a Is (log_steps a) t below ⊤ name k l (Ok Closed) (Lost name) n w x n h tt refl same) tt refl
      (plain_agrees a talk d0 a0 D x n t (Lost name) refl (agrees-same x (ends name l w) (with_event n (at t (Lost name))) same
      (lost_keeps name l w n (at t (Lost name)) refl h.named h.none h.up h.held.0.agrees)))
      (hears_use a talk d0 a0 D t below name k l (Gave link_wait (Ok Closed)) None w x n (came (at t (Lost name))) h.named h.is grew
      (λ z g p s. let_go talk z l g p s) same.link same.dialled same.arrived (λ other. refl) (λ other ne. refl) refl (λ other. refl) refl (λ h. h) (λ h. ap option_to_list h) (λ c e. tt) u)
      (same.arrived ∙ none) (subst (λ (d : NodeEvent). GiveStops (GoesAsDefined a) talk t d n x v) (same_Some e (Lost name) told) s))
  heard name k l (Err Failed) e n w x v h u none ok grew told same s =
      subst (λ (h : Option (List ℕ)). Over v h n) same.held
      (give_stops (Lost name) n x v (ready_heard (GoesAsDefined a) talk a Is (log_steps a) t below ⊤ name k l (Err Failed) (Lost name) n w x n h tt refl same) tt refl
      (plain_agrees a talk d0 a0 D x n t (Lost name) refl (agrees-same x (ends name l w) (with_event n (at t (Lost name))) same
      (lost_keeps name l w n (at t (Lost name)) refl h.named h.none h.up h.held.0.agrees)))
      (hears_use a talk d0 a0 D t below name k l (Gave link_wait (Err Failed)) None w x n (came (at t (Lost name))) h.named h.is grew
      (λ z g p s. let_go talk z l g p s) same.link same.dialled same.arrived (λ other. refl) (λ other ne. refl) refl (λ other. refl) refl (λ h. h) (λ h. ap option_to_list h) (λ c e. tt) u)
      (same.arrived ∙ none) (subst (λ (d : NodeEvent). GiveStops (GoesAsDefined a) talk t d n x v) (same_Some e (Lost name) told) s))
  heard name k l (Err NoMemory) e n w x v h u none ok grew told same s = absurd ok

  received_stops : (name : LinkName) (e : NodeEvent) (o : Option L) (n : Log) (w x v : World L) → Live n w → is_name name ≡ true → w.due ≡ [] → is_open name w ≡ true → w.link name ≡ o
      → Received talk name o (Some e) w x → GiveStops (GoesAsDefined a) talk t e n x v → Over v w.held n
  received_stops name e None n w x v f named none up is r s = absurd (none-some e (sym r))
  received_stops name e (Some k) n w x v f named none up is (l, given, ok, grew, told, same) s =
      heard name k l given e n w x v (record { held = f.0; named = named; none = none; up = up; is = is }) f.1 f.2 ok grew told same s

  hear_stops : (name : LinkName) (n : Log) (w v : World L) → Live n w → is_name name ≡ true → w.due ≡ [] → HearStops (GoesAsDefined a) talk t name n w v → Over v w.held n
  hear_stops name n w v f named none (up, inl m) = missed name (w.link name) n w v f named refl m
  hear_stops name n w v f named none (up, inr (e, x, r, s)) = received_stops name e (w.link name) n w x v f named none up refl r s

  each_stop : (links : List LinkName) (n : Log) (w v : World L) → list_all is_name links ≡ true → Live n w → w.due ≡ [] → EachStop (GoesAsDefined a) talk t links n w v → Over v w.held n
  each_stop [] n w v named f none s = absurd s
  each_stop (name ∷ links) n w v named f none (inl s) = hear_stops name n w v f (and_left (is_name name) (list_all is_name links) named) none s
  each_stop (name ∷ links) n w v named f none (inr (p, x, g, k)) =
      let q : Live p x × (x.due ≡ []) = hears_if a talk d0 a0 D t below name (is_open name w) n p w x f (and_left (is_name name) (list_all is_name links) named) none refl g in
      onward v w x n p (hears-between a talk t name (is_open name w) n w p x g) (Events.hears_if a talk script t name (is_open name w) n w p x g)
      (each_stop links p x v (and_right (is_name name) (list_all is_name links) named) q.0 q.1 k)

-- ---- a turn, from each of its parts on

module _ {L : Type 0} (a : Made) (talk : L → Option (List Said)) (d0 : Dialling L) (a0 : Admitting L) (script : List Due) (t : ℕ) (below : t < 2 ^ 62) where
  abbrev LiveAt : Admitting L → Log → World L → Type 0
  LiveAt D n w = Fine a talk d0 a0 D t below n w

  abbrev OverAt : Admitting L → World L → Option (List ℕ) → Log → Type 0
  OverAt D v h n = Ends a talk d0 a0 script D v h n

  admit_stops : (listens : Bool) (n : Log) (w v : World L) (door door' : Admitting L) → LiveAt door n w
      → AdmitStops (GoesAsDefined a) talk t listens (moment n w door) (in_hands v door') → OverAt door' v w.held n
  admit_stops false n w v door door' f s = absurd s
  admit_stops true n w v door door' f (waits, inl (fault, same, answered)) = (
    n,
    went-none a script n n refl,
    subst (λ (e : Dialling L). Gone talk d0 a0 door' e None n) (sym same.dialled)
        (gone_none talk d0 a0 door' w n f.2 (redoor talk d0 a0 door door' w n (λ K h. none_came a0 door door' w.arrived n K (none_answered door door' fault answered) h) f.1)),
    wrote_none w.held v.held n same.held,
  )
  admit_stops true n w v door door' f (waits, inr (l, answered, s)) =
      let y : World L = record w { arrived = Some l } in
      let r : Ready a Is t ⊤ talk n y n Arrived = ready_arrived (GoesAsDefined a) talk a Is (log_steps a) t below ⊤ n w l n f.0 in
      let u : Uses talk d0 a0 door' y n = one_came talk d0 a0 door door' w n l f.2 answered f.1 in
      arrival_stops a talk d0 a0 door' script t below n l y v refl r (event_use a talk d0 a0 door' y y n t Arrived refl refl refl (λ name. refl) u) s

  from_links : (listens : Bool) (n : Log) (w v : World L) (door door' : Admitting L) → LiveAt door n w → w.due ≡ []
      → StopsFromLinks (GoesAsDefined a) talk t listens (moment n w door) (in_hands v door') → OverAt door' v w.held n
  from_links listens n w v door door' f none (inl (s, same)) =
      subst (λ (D : Admitting L). OverAt D v w.held n) (sym same) (each_stop a talk d0 a0 door script t below names n w v refl f none s)
  from_links listens n w v door door' f none (inr (p, x, g, k)) =
      let q : LiveAt door p x × (x.due ≡ []) = hears_each a talk d0 a0 door t below names n p w x refl f none g in
      later a talk d0 a0 script door' v w x n p (each-between a talk t names n w p x g) (Events.hears_each a talk script t names n w p x g) (admit_stops listens p x v door door' q.0 k)

  from_lines : (passed : ℕ) (whole : List Due) (listens : Bool) (n : Log) (w v : World L) (door door' : Admitting L) → AreIn script whole → list_all asks whole ≡ true → LiveAt door n w → w.due ≡ []
      → StopsFromLines (GoesAsDefined a) talk t passed whole listens (moment n w door) (in_hands v door') → OverAt door' v w.held n
  from_lines passed whole listens n w v door door' within asked f none (lines, rest, parts, due, inl (s, same)) =
      subst (λ (D : Admitting L). OverAt D v w.held n) (sym same)
      (lines_stop a talk d0 a0 door script t below passed lines (in-left script whole lines rest parts within)
      (and_left (list_all asks lines) (list_all asks rest) (sym (ap (list_all asks) parts ∙ list_all-append asks lines rest) ∙ asked)) due n w v f s)
  from_lines passed whole listens n w v door door' within asked f none (lines, rest, parts, due, inr (p, x, next, g, k)) =
      let q : LiveAt door p x × (x.due ≡ []) =
      lines_given a talk d0 a0 door t below passed lines
      (and_left (list_all asks lines) (list_all asks rest) (sym (ap (list_all asks) parts ∙ list_all-append asks lines rest) ∙ asked)) due n p w x f none g in
      later a talk d0 a0 script door' v w x n p (lines-between a talk t lines n w p x g) (Events.lines_go a talk script t lines (in-left script whole lines rest parts within) n w p x g)
      (from_links listens p x v door door' q.0 q.1 k)

  from_news : (passed : ℕ) (whole : List Due) (listens : Bool) (n : Log) (w v : World L) (door door' : Admitting L) → AreIn script whole → list_all asks whole ≡ true → LiveAt door n w
      → StopsFromNews (GoesAsDefined a) talk t passed whole listens (moment n w door) (in_hands v door') → OverAt door' v w.held n
  from_news passed whole listens n w v door door' within asked f (news, inl (s, same)) =
      subst (λ (D : Admitting L). OverAt D v w.held n) (sym same) (news_stop a talk d0 a0 door script t below news n w v f s)
  from_news passed whole listens n w v door door' within asked f (news, inr (p, x, g, k)) =
      let q : LiveAt door p x × (x.due ≡ []) = news_use a talk d0 a0 door t below news n p w x f g in
      later a talk d0 a0 script door' v w x n p (news-between a talk t news n w p x g) (Events.news_go a talk script t news n w p x g)
      (from_lines passed whole listens p x v door door' within asked q.0 q.1 k)

  from_tick : (passed : ℕ) (whole : List Due) (listens : Bool) (n : Log) (w v : World L) (door door' : Admitting L) → AreIn script whole → list_all asks whole ≡ true → LiveAt door n w
      → StopsFromTick (GoesAsDefined a) talk t passed whole listens (moment n w door) (in_hands v door') → OverAt door' v w.held n
  from_tick passed whole listens n w v door door' within asked f (inl (s, same)) =
      subst (λ (D : Admitting L). OverAt D v w.held n) (sym same)
      (give_stops a talk d0 a0 door script t below Tick n w v (ready_tick (GoesAsDefined a) talk a Is (log_steps a) t below ⊤ n w n f.0) tt refl
      (plain_agrees a talk d0 a0 door w n t Tick refl (event_keeps w n (at t Tick) (λ name. refl) f.0.0.agrees))
      (event_use a talk d0 a0 door w w n t Tick refl refl refl (λ name. refl) f.1) f.2 s)
  from_tick passed whole listens n w v door door' within asked f (inr (p, x, g, k)) =
      let q : LiveAt door p x =
      given_plainly a talk d0 a0 door t below n p w x Tick (ready_tick (GoesAsDefined a) talk a Is (log_steps a) t below ⊤ n w n f.0) refl
      (plain_agrees a talk d0 a0 door w n t Tick refl (event_keeps w n (at t Tick) (λ name. refl) f.0.0.agrees))
      (event_use a talk d0 a0 door w w n t Tick refl refl refl (λ name. refl) f.1) f.2 g in
      later a talk d0 a0 script door' v w x n p (gives-between a talk t Tick n w p x g) (Events.gives a talk script t Tick n w p x tt g)
      (from_news passed whole listens p x v door door' within asked q k)

  -- A turn that stopped, where its start did, or went through.
  turn_stops : (start : Option ℕ) (whole : List Due) (listens : Bool) (n : Log) (w v : World L) (door door' : Admitting L)
      → ((p : Log) (x y : World L) → Same x (begun w) → Starts (GoesAsDefined a) talk t start n x p y → LiveAt door p y)
      → ((x y : World L) → Same x (begun w) → StartStops (GoesAsDefined a) talk t start n x y → OverAt door y x.held n)
      → AreIn script whole → list_all asks whole ≡ true
      → TurnStops (GoesAsDefined a) talk t start whole listens (moment n w door) (in_hands v door') → OverAt door' v w.held n
  turn_stops start whole listens n w v door door' first at_once within asked (o, begins, inl (s, same)) =
      subst (λ (D : Admitting L). OverAt D v w.held n) (sym same) (subst (λ (h : Option (List ℕ)). OverAt door v h n) begins.held (at_once o v begins s))
  turn_stops start whole listens n w v door door' first at_once within asked (o, begins, inr (p, x, g, k)) =
      later a talk d0 a0 script door' v w x n p (between-from n w o p x (still-same (begun w) o begins) (starts-between a talk t start n o p x g)) (Events.starts a talk script t start n o p x g)
      (from_tick (passed_by start t) whole listens p x v door door' within asked (first p o x begins g) k)

-- ---- a run

module _ {L : Type 0} (a : Made) (talk : L → Option (List Said)) (d0 : Dialling L) (a0 : Admitting L) (script : List Due) (listens : Bool) where
  later_stops : (first : ℕ) (times : List ℕ) (from : ℕ) (early : from < 2 ^ 62) (whole : List Due) → DontFall from times → AreIn script whole → list_all asks whole ≡ true
      → (n : Log) (w v : World L) (door door' : Admitting L) → Fine a talk d0 a0 door from early n w → w.due ≡ []
      → TurnsStop (GoesAsDefined a) talk listens times (Some first) whole (moment n w door) (in_hands v door') → Ends a talk d0 a0 script door' v w.held n
  later_stops first [] from early whole fall within asked n w v door door' f none s = absurd s
  later_stops first (t ∷ times) from early whole fall within asked n w v door door' f none (going, inl (over, s)) =
      turn_stops a talk d0 a0 script t fall.1 (Some first) whole listens n w v door door'
      (λ o y z same b. later_turn a talk d0 a0 t fall.1 door first n o w y z (fine_later a talk d0 a0 listens door from t early fall.1 n w fall.0 f) none same b)
      (λ x y same b. absurd b) within asked s
  later_stops first (t ∷ times) from early whole fall within asked n w v door door' f none (going, inr (rest, p, x, mid, g, k)) =
      let q : Fine a talk d0 a0 mid t fall.1 p x × (x.due ≡ []) =
      turn_uses a talk d0 a0 t fall.1 (Some first) whole rest listens n p w x door mid
      (λ o y z same b. later_turn a talk d0 a0 t fall.1 door first n o w y z (fine_later a talk d0 a0 listens door from t early fall.1 n w fall.0 f) none same b) asked g in
      later a talk d0 a0 script door' v w x n p (turn-between a talk t (Some first) whole rest listens n w door p x mid g)
      (Events.turn a talk script t (Some first) whole rest within listens n w door p x mid g)
      (later_stops first times t fall.1 rest fall.2 (in-right script whole g.lines rest g.parts within) (asked_rest whole g.lines rest g.parts asked) p x v mid door' q.0 q.1 k)

  -- What a run has in hand as it starts.
  at_start : (door : Admitting L) (text : Option (List ℕ)) (w y : World L) → a0 ≡ door → IsEmpty d0 text w → Same y (begun w) → Uses talk d0 a0 door y [] × (y.arrived ≡ None)
  at_start door text w y from empty same =
      (none_used talk y d0 a0 door (same.dialled ∙ empty.dialled) (sym from) (same.arrived ∙ empty.arrived), same.arrived ∙ empty.arrived)

  start_stops : (t : ℕ) (below : t < 2 ^ 62) (door : Admitting L) (w v : World L) → Agrees w [] → Uses talk d0 a0 door w [] → w.arrived ≡ None
      → StartStops (GoesAsDefined a) talk t None [] w v → Ends a talk d0 a0 script door v w.held []
  start_stops t below door w v A u none s =
      give_stops a talk d0 a0 door script t below Start [] w v (ready_start (GoesAsDefined a) talk a Is (log_steps a) t below ⊤ [] w refl A) tt refl
      (plain_agrees a talk d0 a0 door w [] t Start refl (event_keeps w [] (at t Start) (λ name. refl) A))
      (event_use a talk d0 a0 door w w [] t Start refl refl refl (λ name. refl) u) none s

  pub turns_stop : (times : List ℕ) → DontFall 0 times → list_all asks script ≡ true → (text : Option (List ℕ)) (w v : World L) (door door' : Admitting L)
      → a0 ≡ door → IsEmpty d0 text w → TurnsStop (GoesAsDefined a) talk listens times None script (moment [] w door) (in_hands v door') → Ends a talk d0 a0 script door' v w.held []
  turns_stop [] fall asked text w v door door' from empty s = absurd s
  turns_stop (t ∷ times) fall asked text w v door door' from empty (going, inl (over, s)) =
      turn_stops a talk d0 a0 script t fall.1 None script listens [] w v door door'
      (λ o y z same b. first_turn a talk d0 a0 t fall.1 door [] o y z refl (at_first d0 text w empty y same) (at_start door text w y from empty same).0 (at_start door text w y from empty same).1 b)
      (λ y z same b. start_stops t fall.1 door y z (at_first d0 text w empty y same) (at_start door text w y from empty same).0 (at_start door text w y from empty same).1 b)
      (in-all script) asked s
  turns_stop (t ∷ times) fall asked text w v door door' from empty (going, inr (rest, p, x, mid, g, k)) =
      let q : Fine a talk d0 a0 mid t fall.1 p x × (x.due ≡ []) =
      turn_uses a talk d0 a0 t fall.1 None script rest listens [] p w x door mid
      (λ o y z same b. first_turn a talk d0 a0 t fall.1 door [] o y z refl (at_first d0 text w empty y same) (at_start door text w y from empty same).0
      (at_start door text w y from empty same).1 b) asked g in
      later a talk d0 a0 script door' v w x [] p (turn-between a talk t None script rest listens [] w door p x mid g)
      (Events.turn a talk script t None script rest (in-all script) listens [] w door p x mid g)
      (later_stops t times t fall.1 rest fall.2 (in-right script script g.lines rest g.parts (in-all script)) (asked_rest script g.lines rest g.parts asked) p x v mid door' q.0 q.1 k)

-- ---- the log

module _ {L : Type 0} (talk : L → Option (List Said)) (o p : Outside L) where
  links_of : (M : Log) → Gone talk o.dialled o.door p.door p.dialled None M → LinksAreUsedFirst talk o p M
  links_of M (K, long, dials, arrived, taken, each) = record {
    links = K;
    each = long;
    dialled = dials;
    arrived = subst (HasGiven o.door p.door) (append-nil (by_lines arrived_by M K)) arrived;
    taken = taken;
    used = λ x begun. by x (slice_get K x.began) (list_any (begins x.name) (lines_since M x)) (each x begun);
  }
    where
      by : (x : LinkLife) (z : Option (Option L)) (b : Bool) → StandsBy talk z b None (given_over M x) (put_over M x) → IsGone talk z (given_over M x) (put_over M x)
      by x z true s = s
      by x z false s = s

  -- nothing was done
  none_gone : p.dialled ≡ o.dialled → p.door ≡ o.door → Gone talk o.dialled o.door p.door p.dialled None []
  none_gone dials door = gone_none talk o.dialled o.door p.door w [] refl (none_used talk w o.dialled o.door p.door dials door refl)
    where
      w : World L
      w = record { link = λ name. None; arrived = None; over = []; due = []; waiting = []; finished = false; dialled = p.dialled; held = None }

pub run_stopped : {L : Type 0} (a : Made) (talk : L → Option (List Said)) (listens : Bool) (turns : ℕ) (script : List Due) → list_all asks script ≡ true → (o p : Outside L)
    → RunFails (GoesAsDefined a) talk listens turns script (run_moment [] o.dialled o.written o.door o.readings) (outside p.dialled p.written p.door p.readings) → (M : Log)
    × HasStopped talk a script o p M
run_stopped {L} a talk listens turns script asked o p (inl same) = (
  [],
  record {
    events = [];
    is = refl;
    might = tt;
    links = links_of talk o p [] (none_gone talk o p (ap (λ (x : Moments.Outside L). x.dialled) same) (ap (λ (x : Moments.Outside L). x.door) same));
    written = prefix_none o.written p.written [] (ap (λ (x : Moments.Outside L). x.written) same);
  },
)
run_stopped {L} a talk listens turns script asked o p (inr r) = by (turns_stop a talk o.dialled o.door script listens r.times r.rise asked o.written r.first r.last o.door p.door refl r.empty r.went)
  where
    by : Ends a talk o.dialled o.door script p.door r.last r.first.held [] → (M : Log) × HasStopped talk a script o p M
    by (N, went, gone, (lines, is, wrote)) = (
      N,
      record {
        events = went.events;
        is = went.is;
        might = went.might;
        links = links_of talk o p N (subst (λ (e : Dialling L). Gone talk o.dialled o.door p.door e None N) r.dials gone);
        written = subst (λ (K : Log). PutsPrefix o.written p.written (text_of K)) (sym is)
            (subst (λ (k : Option (List ℕ)). PutsPrefix o.written k (text_of lines)) r.holds (subst (λ (h : Option (List ℕ)). PutsPrefix h r.last.held (text_of lines)) r.empty.held wrote));
      },
    )

pub stopped_runs_have_logs : {L : Type 0} (talk : L → Option (List Said)) → StoppedRunsHaveLogs talk
stopped_runs_have_logs talk a terms o p asked r = run_stopped a talk terms.listens terms.turns terms.script.now asked o p r

pub stopped_scripts_have_logs : {L W : Type 0} (talk : L → Option (List Said)) (drawn : NodeEvent → W → W → Type 0) → StoppedScriptsHaveLogs talk drawn
stopped_scripts_have_logs {L} {W} talk drawn a text lines reads listens turns u o p r =
    run_stopped a talk listens turns lines (asked_of text lines reads) o p
    (fails_map (GoesDrawing (GoesAsDefined a) drawn) (GoesAsDefined a) (λ (d : Drawing Log W). d.node) (log_alone drawn a) talk listens turns lines
    (at_rest [] u) o.dialled p.dialled o.written p.written o.door p.door o.readings p.readings r)
