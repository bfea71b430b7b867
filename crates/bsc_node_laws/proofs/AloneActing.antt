-- A node to which no link comes, between its steps: no link is in hand, and all that is new is that dials failed.
-- It serves bsc_node_command.
use Rattle.std.proofs.Common.{◌≡◌, ℕ, Bool, true, false, not, cond, ◌&&◌, ◌||◌, List, [], ◌∷◌, ◌++◌, fold, Option, Some, None, is_some, refl, ap, sym, ◌∙◌, subst, append_assoc}
use Rattle.std.specs.Prelude.{IsTrue, map, filter_map}
use Rattle.std.specs.List.{list_all}
use Rattle.std.proofs.lemmas.List.{append_cancel_left, map-append}
use Rattle.bsc_edge.specs.declared.dialled.Dialled.{Dialled}
use Rattle.bsc_edge.specs.declared.said.Said.{Said}
use Rattle.bsc_edge.specs.Told.{Grows}
use Rattle.bsc_accept.specs.declared.closing.Closing.{Closing}
use Rattle.bsc_node.specs.declared.link_name.LinkName.{LinkName}
use Rattle.bsc_node.specs.declared.node_event.NodeEvent.{NodeEvent}
use Rattle.bsc_node.specs.declared.node_event.NodeEvent.TheVariants.{Opened, Came, Send}
use Rattle.bsc_node.specs.declared.timed_event.TimedEvent.{TimedEvent}
use Rattle.bsc_node.specs.declared.action.Action.{Action}
use Rattle.bsc_node.specs.declared.action.Action.TheVariants.{Dial, Take, Refuse, Put, Close, Deliver, Tell, Draw}
use Rattle.bsc_node.specs.Logs.{Made, Line, did, Log, action_of}
use Rattle.bsc_node.specs.Links.{same_link, was_taken}
use Rattle.bsc_node.specs.Events.{follows}
use Rattle.bsc_node.specs.Node.{goes_on, actions_at}
use Rattle.bsc_node.specs.Conditions.{may_come}
use Rattle.bsc_node.specs.Laws.{with_event}
use Rattle.bsc_node.proofs.Quiet.{is_quiet_action}
use Rattle.bsc_node.proofs.Heard.{LetsQuiet}
use Rattle.bsc_node.proofs.Following.{is_came, pass-follows, opened-dialled, goes_on-is}
use Rattle.bsc_node.proofs.Lasting.{LetsMessages, pass-sends}
use Rattle.bsc_node_laws.proofs.There.{same_link-symmetric}
use Rattle.bsc_node_run.specs.declared.news.Change.TheVariants.{DialFailed as DidntOpen}
use Rattle.bsc_node_run.specs.declared.news.News.{News}
use Rattle.bsc_node_run.specs.Worlds.{Dialling, World, Same, without, forgets}
use Rattle.bsc_node_run.specs.Performing.{Takes, Refuses, Puts, Closes, Does, Carries, is_draw, after_dial}
use Rattle.bsc_node_run.specs.Turning.{GivesWord, Gives, draws}
use Rattle.bsc_node_laws.specs.Courses.{GoesAsDefined}
use Rattle.bsc_node_laws.specs.Alone.{Alone, all_but, after_action, told}
use Rattle.bsc_node_laws.proofs.AloneBack.{LeadsTo, carries_back}
use Rattle.bsc_lemmas.proofs.Booleans.{and_left, and_right, not_true}

-- ---- no word is drawn

abbrev draws_none : Line → Bool
draws_none (did action) = not (is_draw action)
draws_none m = true

quiet_draws_none_by : (action : Action) → is_quiet_action action ≡ true → not (is_draw action) ≡ true
quiet_draws_none_by Draw h = h
quiet_draws_none_by action h = refl

quiet_draws_none : LetsQuiet draws_none
quiet_draws_none (did action) h = quiet_draws_none_by action h
quiet_draws_none m h = refl

messages : LetsMessages draws_none
messages = record { quiet = quiet_draws_none; put = λ name o. refl; deliver = λ d. refl }

none_drawn_by : (m : Line) (lines : List Line) → draws_none m ≡ true → draws (filter_map action_of lines) ≡ false → draws (filter_map action_of (m ∷ lines)) ≡ false
none_drawn_by (did action) lines h rest = ap (λ (b : Bool). b || draws (filter_map action_of lines)) (not_true (is_draw action) h) ∙ rest
none_drawn_by m lines h rest = rest

none_drawn : (lines : List Line) → list_all draws_none lines ≡ true → draws (filter_map action_of lines) ≡ false
none_drawn [] h = refl
none_drawn (m ∷ lines) h = none_drawn_by m lines (and_left (draws_none m) (list_all draws_none lines) h) (none_drawn lines (and_right (draws_none m) (list_all draws_none lines) h))

none_follows : (a : Made) (M : Log) (ev : NodeEvent) → is_came ev ≡ false → ((name : LinkName) → ev ≡ Opened name → was_taken name M ≡ false) → list_all draws_none (follows a ev M) ≡ true
none_follows a M (Came name octets) s o = cc
none_follows a M (Send dest npdu) s o = pass-sends draws_none messages dest npdu M
none_follows a M ev s o = pass-follows draws_none quiet_draws_none a M ev refl refl (record { dialled = o; next = λ name k is named uri. refl; dial = λ k free uri. refl; take = λ k free. refl })

-- At an event that brings no message no word is drawn.
draws_no_word : (a : Made) (L : Log) (e : TimedEvent) → IsTrue (may_come L e) → is_came e.event ≡ false → draws (actions_at a L e) ≡ false
draws_no_word a L e h s =
    ap (λ lines. draws (filter_map action_of lines)) (goes_on-is a L e)
    ∙ none_drawn (follows a e.event (with_event L e)) (none_follows a (with_event L e) e.event s (λ name is. opened-dialled L e name is h))

-- ---- the calls

abbrev pub came_not : Dialled → Bool
came_not d = not d.came

-- What was dialled at a moment is told, and of all that was dialled the rest gave no link.
abbrev pub NoneComes : List Dialled → Option (List Dialled) → Type 0
NoneComes all None = ⊥
NoneComes all (Some before) = (calls : List Dialled) × (all ≡ before ++ calls) × (list_all came_not calls ≡ true)

-- The next call is the first of that rest.
none_comes : (all : List Dialled) (o p : Option (List Dialled)) (call : Dialled) → NoneComes all o → Grows o p (call ∷ []) → LeadsTo all p → (call.came ≡ false) × NoneComes all p
none_comes all None p call n g l = absurd n
none_comes all (Some b) None call n g (ys, h) = absurd h
none_comes all (Some b) (Some q) call (xs, is, none) g (ys, h) =
    let first : xs ≡ call ∷ ys = append_cancel_left b xs (call ∷ ys) (sym is ∙ h ∙ ap (λ l. l ++ ys) g ∙ append_assoc b (call ∷ []) ys) in
    let both : (came_not call && list_all came_not ys) ≡ true = sym (ap (list_all came_not) first) ∙ none in
    (not_true call.came (and_left (came_not call) (list_all came_not ys) both), (ys, h, and_right (came_not call) (list_all came_not ys) both))

-- ---- what is new

-- that the dial of a link failed
abbrev pub failure : LinkName → News
failure name = record { link = name; change = DidntOpen }

without_failures : (name : LinkName) (names : List LinkName) → without name (map failure names) ≡ map failure (all_but name names)
without_failures name [] = refl
without_failures name (other ∷ names) =
    ap (λ (b : Bool). cond (not b) (failure other ∷ without name (map failure names)) (without name (map failure names))) (same_link-symmetric other name)
    ∙ by (not (same_link name other)) (without_failures name names)
  where
    by : (b : Bool) → without name (map failure names) ≡ map failure (all_but name names)
        → cond b (failure other ∷ without name (map failure names)) (without name (map failure names)) ≡ map failure (cond b (other ∷ all_but name names) (all_but name names))
    by true later = ap (λ (ns : List News). failure other ∷ ns) later
    by false later = later

-- ---- a run's hands

-- All that was dialled in the run is this. At this moment the log of its node is this, and this is the node alone.
pub record Stands {L : Type 0} (all : List Dialled) (n : Log) (w : World L) (s : Alone) : Type 0 where
  pub log : s.log ≡ n
  pub link : (name : LinkName) → w.link name ≡ None
  pub arrived : w.arrived ≡ None
  pub due : w.due ≡ map failure s.failed
  pub waiting : w.waiting ≡ map failure s.dialled
  pub calls : NoneComes all w.dialled.calls

module _ {L : Type 0} (talk : L → Option (List Said)) (all : List Dialled) where
  pub stays : (n m : Log) (w v : World L) (s : Alone) → m ≡ n → Same v w → Stands all n w s → Stands all m v s
  stays n m w v s e same h = record {
    log = h.log ∙ sym e;
    link = λ name. same.link name ∙ h.link name;
    arrived = same.arrived ∙ h.arrived;
    due = same.due ∙ h.due;
    waiting = same.waiting ∙ h.waiting;
    calls = subst (λ (d : Dialling L). NoneComes all d.calls) (sym same.dialled) h.calls;
  }

  -- ---- actions

  -- A dial that gives no link: that it failed is new.
  dials_none : (name : LinkName) (uri : List ℕ) (l : Option L) (n : Log) (w v : World L) (s : Alone) → (is_some l ≡ false) × NoneComes all v.dialled.calls
      → Same v (record (after_dial name l w) { dialled = v.dialled }) → Stands all n w s → Stands all n v (after_action s (Dial name uri))
  dials_none name uri (Some l) n w v s (came, calls) same h = cc
  dials_none name uri None n w v s (came, calls) same h = record {
    log = h.log;
    link = λ other. same.link other ∙ h.link other;
    arrived = same.arrived ∙ h.arrived;
    due = same.due ∙ h.due;
    waiting = same.waiting ∙ ap (λ (ns : List News). ns ++ failure name ∷ []) h.waiting ∙ sym (map-append failure s.dialled (name ∷ []));
    calls = calls;
  }

  -- A close of a link that isn't in hand: that its dial failed isn't told any more.
  closes_none : (name : LinkName) (c : Closing) (n : Log) (w v : World L) (s : Alone) → Same v (forgets name w) → Stands all n w s → Stands all n v (after_action s (Close name c))
  closes_none name c n w v s same h = record {
    log = h.log;
    link = λ other. same.link other ∙ h.link other;
    arrived = same.arrived ∙ h.arrived;
    due = same.due ∙ ap (without name) h.due ∙ without_failures name s.failed;
    waiting = same.waiting ∙ ap (without name) h.waiting ∙ without_failures name s.dialled;
    calls = subst (λ (d : Dialling L). NoneComes all d.calls) (sym same.dialled) h.calls;
  }

  writes_stand : (n : Log) (w v : World L) (s : Alone) (held : Option (List ℕ)) (done : Bool) → Same v (record w { held = held; finished = done }) → Stands all n w s → Stands all n v s
  writes_stand n w v s held done same h = record {
    log = h.log;
    link = λ other. same.link other ∙ h.link other;
    arrived = same.arrived ∙ h.arrived;
    due = same.due ∙ h.due;
    waiting = same.waiting ∙ h.waiting;
    calls = subst (λ (d : Dialling L). NoneComes all d.calls) (sym same.dialled) h.calls;
  }

  -- Of the other actions only what is written shows.
  does_stands : (action : Action) (n : Log) (w v : World L) (s : Alone) → Does talk action w v → LeadsTo all v.dialled.calls → Stands all n w s → Stands all n v (after_action s action)
  does_stands (Dial name uri) n w v s (l, g, answered, same) later h = dials_none name uri l n w v s (none_comes all w.dialled.calls v.dialled.calls _ h.calls g later) same h
  does_stands (Take name) n w v s d later h = stays n n w v s refl (subst (λ (o : Option L). Takes name o w v) h.arrived d) h
  does_stands (Refuse c) n w v s d later h = stays n n w v s refl (subst (λ (o : Option L). Refuses talk c o w v) h.arrived d) h
  does_stands (Put name o) n w v s d later h = stays n n w v s refl (subst (λ (l : Option L). Puts talk name o l w v) (h.link name) d) h
  does_stands (Close name c) n w v s d later h = closes_none name c n w v s (subst (λ (l : Option L). Closes talk name c l w v) (h.link name) d) h
  does_stands (Deliver d) n w v s (g, same) later h = writes_stand n w v s v.held w.finished same h
  does_stands (Tell note) n w v s (g, same) later h = writes_stand n w v s v.held _ same h
  does_stands Draw n w v s same later h = stays n n w v s refl same h

  carries_stands : (actions : List Action) (n : Log) (w v : World L) (s : Alone) → Carries talk actions w v → LeadsTo all v.dialled.calls → Stands all n w s
      → Stands all n v (fold after_action s actions)
  carries_stands [] n w v s same later h = stays n n w v s refl same h
  carries_stands (action ∷ actions) n w v s (x, d, c) later h =
      carries_stands actions n x v (after_action s action) c later (does_stands action n w x s d (carries_back talk all actions x v c later) h)

  -- ---- one event

  answers_none : (b : Bool) (a : Made) (now : ℕ) (n m : Log) (w v : World L) → b ≡ false → GivesWord (GoesAsDefined a) talk now b n w m v → (m ≡ n) × Same v w
  answers_none true a now n m w v e g = cc
  answers_none false a now n m w v e g = g

  -- The node is told what brings no message.
  pub gives_stands : (a : Made) (now : ℕ) (e : NodeEvent) (n m : Log) (w v : World L) (s : Alone) → is_came e ≡ false → Gives (GoesAsDefined a) talk now e n w m v → LeadsTo all v.dialled.calls
      → Stands all n w s → Stands all m v (told a now s e)
  gives_stands a now e n m w v s quiet (actions, p, x, (may, is, on), c, answers) later h =
      let at : TimedEvent = record { now = now; event = e } in
      let acts : actions ≡ actions_at a s.log at = is ∙ ap (λ (M : Log). actions_at a M at) (sym h.log) in
      let last : (m ≡ p) × Same v x = answers_none (draws actions) a now p m x v (ap draws is ∙ draws_no_word a n at may quiet) answers in
      let reached : Stands all p w (record s { log = s.log ++ goes_on a at s.log }) = record {
        log = ap (λ (M : Log). M ++ goes_on a at M) h.log ∙ sym on;
        link = h.link;
        arrived = h.arrived;
        due = h.due;
        waiting = h.waiting;
        calls = h.calls;
      } in
      stays p m x v (told a now s e) last.0 last.1
      (carries_stands (actions_at a s.log at) p w x (record s { log = s.log ++ goes_on a at s.log }) (subst (λ (done : List Action). Carries talk done w x) acts c)
      (subst (λ (d : Dialling L). LeadsTo all d.calls) last.1.dialled later) reached)
