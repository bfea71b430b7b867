-- The links of a run, told event by event: each has the use that the log says.
-- It serves clauses of functions of `laws`.
use Rattle.std.proofs.Common.{◌≡◌, ◌≤◌, ◌<◌, inl, inr, ℕ, Bool, true, false, List, [], ◌∷◌, ◌++◌, Option, Some, None, Result, Ok, Err, refl, ap, sym, subst, ◌∙◌, arith, append-nil, append_assoc}
use Rattle.std.specs.Prelude.{◌^◌, filter_map, IsTrue, option_to_list, slice_get, ⊤}
use Rattle.std.specs.List.{list_all, list_any}
use Rattle.std.proofs.lemmas.List.Folds.{list_all-append}
use Rattle.bsc_accept.specs.declared.reason.Reason.TheVariants.{TableFull}
use Rattle.bsc_accept.specs.Steps.{closing}
use Rattle.bsc_direct.specs.declared.call.SlotCall.TheVariants.{Claim}
use Rattle.bsc_edge.specs.declared.fault.LinkFault.{LinkFault}
use Rattle.bsc_edge.specs.declared.fault.LinkFault.TheVariants.{Failed, NoMemory}
use Rattle.bsc_edge.specs.declared.incoming.Incoming.{Incoming}
use Rattle.bsc_edge.specs.declared.incoming.Incoming.TheVariants.{Message, Text, Quiet, Closed}
use Rattle.bsc_edge.specs.declared.said.Said.{Said}
use Rattle.bsc_edge.specs.declared.said.Said.TheVariants.{Gave}
use Rattle.bsc_edge.specs.Told.{Grows}
use Rattle.bsc_initiate.specs.declared.event.InitEvent.TheVariants.{Opened as MachineOpened}
use Rattle.bsc_node.specs.declared.link_name.LinkName.{LinkName}
use Rattle.bsc_node.specs.declared.link_name.LinkName.TheVariants.{Direct}
use Rattle.bsc_node.specs.declared.node_event.NodeEvent.{NodeEvent}
use Rattle.bsc_node.specs.declared.node_event.NodeEvent.TheVariants.{Start, Opened, Arrived, Came, CameText, Lost, Tick, Random, NoRandom}
use Rattle.bsc_node.specs.declared.timed_event.TimedEvent.{TimedEvent}
use Rattle.bsc_node.specs.declared.action.Action.{Action}
use Rattle.bsc_node.specs.declared.action.Action.TheVariants.{Take, Refuse}
use Rattle.bsc_node.specs.Logs.{Made, Line, came, initiating, slot, did, Log, action_of, now as now_in, next_id}
use Rattle.bsc_node.specs.Links.{begins, is_over_by_event, same_link}
use Rattle.bsc_node.specs.Node.{goes_on, actions_at}
use Rattle.bsc_node.specs.Conditions.{awaits_word, brings_word}
use Rattle.bsc_node.specs.Laws.{draws as draws_word, with_event}
use Rattle.bsc_node.proofs.Common.{same_link-is}
use Rattle.bsc_node.proofs.Told.{same_link-self}
use Rattle.bsc_node_laws.specs.Courses.{GoesAsDefined}
use Rattle.bsc_node_laws.specs.Links.{Admits as AdmitsIn, Brings, LogGoesOn, opens_at}
use Rattle.bsc_node_laws.proofs.Agreeing.{Agrees}
use Rattle.bsc_node_laws.proofs.Beside.{Both, beside}
use Rattle.bsc_node_laws.proofs.Coming.{draws-same}
use Rattle.bsc_node_laws.proofs.Courses.{asked_rest, at_first}
use Rattle.bsc_node_laws.proofs.Drawn.{draws_at, seam}
use Rattle.bsc_node_laws.proofs.Followed.{is_arrival}
use Rattle.bsc_node_laws.proofs.Lifting.{Holds, Ready, Steps, Stood, after, at, is_plain, ready_word}
use Rattle.bsc_node_laws.proofs.Lifting as Lifting
use Rattle.bsc_node_laws.proofs.Mapping.{Maps, run_map}
use Rattle.bsc_node_laws.proofs.News.{asked-ends, begun_keeps, event_keeps, hears_keeps, lost_keeps, news_keeps}
use Rattle.bsc_node_laws.proofs.Same.{agrees-same, apart-link, link-here}
use Rattle.bsc_node_laws.proofs.Turning.{Hearing, asks, no_true, ready_arrived, ready_heard, ready_line, ready_news, ready_start, ready_tick}
use Rattle.bsc_node_run.specs.declared.due.Due.{Due}
use Rattle.bsc_node_run.specs.declared.news.Change.{Change}
use Rattle.bsc_node_run.specs.declared.news.Change.TheVariants.{Opened as DidOpen, DialFailed as DidntOpen, Lost as WasLost}
use Rattle.bsc_node_run.specs.declared.news.News.{News}
use Rattle.bsc_node_run.specs.declared.run_end.RunEnd.{RunEnd}
use Rattle.bsc_node_run.specs.Drawing.{Drawing, GoesDrawing, at_rest}
use Rattle.bsc_node_run.specs.Moments.{moment, run_moment}
use Rattle.bsc_node_run.specs.Performing.{Carries}
use Rattle.bsc_node_run.specs.Receiving.{link_wait}
use Rattle.bsc_node_run.specs.Requests.{is_asked}
use Rattle.bsc_node_run.specs.Running.{DontFall, IsEmpty, Run, Turns}
use Rattle.bsc_node_run.specs.Turning.{Admits, AreDue, Gives, GivesLines, GivesNews, GivesWord, HearsEach, HearsIf, HearsOf, Starts, Turn, draws, event_of, names, passed_by}
use Rattle.bsc_node_run.specs.Worlds.{Admitting, Dialling, World, Same, begun, ends, is_name, is_open, with_link}
use Rattle.bsc_node_run.proofs.Asked.{asked_of}
use Rattle.bsc_lemmas.proofs.Booleans.{and_left, and_right}
use Rattle.bsc_node_links.specs.Coming.{HasDialled, HasGiven, IsTakenBy, arrived_by, by_lines}
use Rattle.bsc_node_links.specs.Lives.{LinkLife, given_by, given_over, lines_since, put_by, put_over}
use Rattle.bsc_node_links.specs.Talks.{given_by as said_given, put_by as said_put}
use Rattle.bsc_node_links.specs.Using.{LinksAreUsed, Outside, RunsUseLinks, ScriptRunsUseLinks}
use Rattle.bsc_node_links.proofs.Using.{Admitted, Calls, HasArrived, IsGone, IsUncalled, StandsBy, StandsSo, Uses, carries_none, given_none, let_go, lines_use, none_came, one_came}
use Rattle.bsc_node_links.proofs.Using.{quiet, redoor, refused_none, same_self, says, so, stays, taken_none, takes_uses, touch, uncalled, used, uses_alike}

-- A log as its own node.
abbrev pub Is : Log → Log → Type 0
Is n M = n ≡ M

pub log_steps : (a : Made) → Steps (GoesAsDefined a) a Is
log_steps a n m M t e actions is may goes = subst (λ (K : Log). (actions ≡ actions_at a K (at t e)) × (m ≡ K ++ goes_on a (at t e) K)) is (goes.1, goes.2)

pub opens_do_nothing : (e : NodeEvent) (L : Log) (lines : List Line) → filter_map action_of (opens_at e L ++ lines) ≡ filter_map action_of lines
opens_do_nothing (Opened name) L lines = refl
opens_do_nothing e L lines = refl

plain_opens : (e : NodeEvent) (L : Log) → is_plain e ≡ true → opens_at e L ≡ []
plain_opens (Opened name) L h = cc
plain_opens e L h = refl

pub brought_of : (a : Made) (M : Log) (t : ℕ) (e : NodeEvent) → is_arrival e ≡ false → Brings a M (at t e) e → LogGoesOn a M (at t e)
brought_of a M t Arrived h b = cc
brought_of a M t e h b = b

pub word_ends : (e : NodeEvent) → IsTrue (brings_word e) → (name : LinkName) → is_over_by_event name e ≡ false
word_ends (Random w) h name = refl
word_ends NoRandom h name = refl
word_ends e h name = cc

pub word_plain : (e : NodeEvent) → IsTrue (brings_word e) → is_plain e ≡ true
word_plain (Random w) h = refl
word_plain NoRandom h = refl
word_plain e h = cc

pub asked_plain : (e : NodeEvent) → is_asked e ≡ true → is_plain e ≡ true
asked_plain (Opened name) h = cc
asked_plain Arrived h = cc
asked_plain e h = refl

pub plain_no_arrival : (e : NodeEvent) → is_plain e ≡ true → is_arrival e ≡ false
plain_no_arrival Arrived h = cc
plain_no_arrival e h = refl

-- whether an event brings a message
abbrev brings_message : NodeEvent → Bool
brings_message (Came name o) = true
brings_message e = false

no_message : (t : ℕ) (e : NodeEvent) → brings_message e ≡ false → (name : LinkName) → given_by name (came (at t e)) ≡ []
no_message t (Came other o) h name = cc
no_message t e h name = refl

pub word_message : (e : NodeEvent) → IsTrue (brings_word e) → brings_message e ≡ false
word_message (Random w) h = refl
word_message NoRandom h = refl
word_message e h = cc

pub asked_message : (e : NodeEvent) → is_asked e ≡ true → brings_message e ≡ false
asked_message (Came name o) h = cc
asked_message e h = refl

pub news_message : (name : LinkName) (change : Change) → brings_message (event_of (record { link = name; change = change })) ≡ false
news_message name DidOpen = refl
news_message name DidntOpen = refl
news_message name WasLost = refl

pub news_no_arrival : (name : LinkName) (change : Change) → is_arrival (event_of (record { link = name; change = change })) ≡ false
news_no_arrival name DidOpen = refl
news_no_arrival name DidntOpen = refl
news_no_arrival name WasLost = refl

module _ {L : Type 0} (a : Made) (talk : L → Option (List Said)) (d0 : Dialling L) (a0 D : Admitting L) where
  -- An event by which nothing is given.
  pub event_use : (w v : World L) (M : Log) (t : ℕ) (e : NodeEvent) → brings_message e ≡ false → v.dialled ≡ w.dialled → v.arrived ≡ w.arrived → ((name : LinkName) → v.link name ≡ w.link name)
      → Uses talk d0 a0 D w M → Uses talk d0 a0 D v (with_event M (at t e))
  event_use w v M t e none dials arr same = quiet talk d0 a0 D w v M (came (at t e)) None (uncalled w.dialled v.dialled dials) (ap option_to_list arr) tt same (λ name. refl)
      (no_message t e none) (λ name. refl)

  pub opened_use : (w : World L) (M : Log) (e : NodeEvent) → Uses talk d0 a0 D w M → Uses talk d0 a0 D w (M ++ opens_at e M)
  opened_use w M (Opened name) u = quiet talk d0 a0 D w w M (initiating name (MachineOpened (now_in M) (next_id M))) None (uncalled w.dialled w.dialled refl) refl tt (λ other. refl)
      (λ other. refl) (λ other. refl) (λ other. refl) u
  opened_use w M e u = subst (Uses talk d0 a0 D w) (sym (append-nil M)) u

  pub plain_agrees : (w : World L) (M : Log) (t : ℕ) (e : NodeEvent) → is_plain e ≡ true → Agrees w (with_event M (at t e)) → Agrees w (with_event M (at t e) ++ opens_at e (with_event M (at t e)))
  plain_agrees w M t e plain A = subst (Agrees w) (sym (ap (λ lines. with_event M (at t e) ++ lines) (plain_opens e (with_event M (at t e)) plain) ∙ append-nil (with_event M (at t e)))) A

  -- ---- what follows from an event

  -- from any but that a link arrives
  pub goes_use : (M : Log) (e : TimedEvent) (w v : World L) → LogGoesOn a M e → Agrees w (with_event M e ++ opens_at e.event (with_event M e)) → Uses talk d0 a0 D w (with_event M e)
      → Carries talk (actions_at a M e) w v → Uses talk d0 a0 D v (M ++ goes_on a e M)
  goes_use M e w v g A u c =
      subst (Uses talk d0 a0 D v) (sym (ap (λ lines. M ++ lines) g.is ∙ seam M (came e) (opens_at e.event (with_event M e)) g.lines))
      (lines_use talk d0 a0 D g.lines w v (with_event M e ++ opens_at e.event (with_event M e)) g.may
      (subst (λ actions. Carries talk actions w v) (ap (filter_map action_of) g.is ∙ opens_do_nothing e.event (with_event M e) g.lines) c) A (opened_use w (with_event M e) e.event u))

  -- from that
  arrival_use : (M : Log) (t : ℕ) (l : L) (w v : World L) → w.arrived ≡ Some l → AdmitsIn a M (at t Arrived) → Agrees w (with_event M (at t Arrived))
      → Uses talk d0 a0 D w (with_event M (at t Arrived))
      → Carries talk (actions_at a M (at t Arrived)) w v → Uses talk d0 a0 D v (M ++ goes_on a (at t Arrived) M)
  arrival_use M t l w v here (inl (k, goes, gone, named)) A u c =
      let e : TimedEvent = at t Arrived in
      subst (Uses talk d0 a0 D v) (sym (ap (λ lines. M ++ lines) goes ∙ seam M (came e) (slot (Claim k None) ∷ []) (did (Take (Direct k)) ∷ [])))
      (takes_uses talk d0 a0 D k l w v (with_event M e ++ slot (Claim k None) ∷ []) here named (subst (λ actions. Carries talk actions w v) (ap (filter_map action_of) goes) c)
      (quiet talk d0 a0 D w w (with_event M e) (slot (Claim k None)) None (uncalled w.dialled w.dialled refl) refl tt (λ name. refl) (λ name. refl) (λ name. refl) (λ name. refl) u))
  arrival_use M t l w v here (inr goes) A u c =
      let e : TimedEvent = at t Arrived in
      subst (Uses talk d0 a0 D v) (sym (ap (λ lines. M ++ lines) goes ∙ sym (append_assoc M (came e ∷ []) (did (Refuse (closing 1008 TableFull)) ∷ []))))
      (lines_use talk d0 a0 D (did (Refuse (closing 1008 TableFull)) ∷ []) w v (with_event M e) (tt, tt) (subst (λ actions. Carries talk actions w v) (ap (filter_map action_of) goes) c) A u)

-- After that one that arrived is taken or refused, none has.
arrival_none : {L : Type 0} (a : Made) (talk : L → Option (List Said)) (M : Log) (t : ℕ) (w v : World L) → AdmitsIn a M (at t Arrived) → Carries talk (actions_at a M (at t Arrived)) w v
    → v.arrived ≡ None
arrival_none a talk M t w v (inl (k, goes, gone, named)) c = taken_none talk k w v (subst (λ actions. Carries talk actions w v) (ap (filter_map action_of) goes) c)
arrival_none a talk M t w v (inr goes) c = refused_none talk (closing 1008 TableFull) w v (subst (λ actions. Carries talk actions w v) (ap (filter_map action_of) goes) c)

-- ---- a turn

module _ {L : Type 0} (a : Made) (talk : L → Option (List Said)) (d0 : Dialling L) (a0 D : Admitting L) (t : ℕ) (below : t < 2 ^ 62) where
  -- What holds between two events of the turn.
  abbrev Held : Log → World L → Log → Type 0
  Held n w M = Holds a Is t ⊤ n w M

  abbrev pub Fine : Log → World L → Type 0
  Fine M w = Holds a Is t ⊤ M w M × Uses talk d0 a0 D w M × (w.arrived ≡ None)

  held_at : (m : Log) (v : World L) (K : Log) → Held m v K → Held m v m
  held_at m v K h = subst (λ (N : Log). Held m v N) (sym h.0.stands) h

  pub fine_same : (n m : Log) (w v : World L) → m ≡ n → Same v w → Fine n w → Fine m v
  fine_same n m w v is same f = subst (λ (N : Log). Fine N v) (sym is) (
    (Lifting.stood_same a Is t ⊤ n n w v n refl same f.0.0, f.0.1),
    uses_alike talk d0 a0 D w v n same.dialled same.arrived same.link f.1,
    same.arrived ∙ f.2,
  )

  -- The word that was drawn.
  word_use : (b : Bool) (p m : Log) (x v : World L) → Stood a Is t ⊤ p x p → awaits_word p ≡ b → Uses talk d0 a0 D x p → GivesWord (GoesAsDefined a) talk t b p x m v → Uses talk d0 a0 D v m
  word_use false p m x v s aw u (is, same) = subst (Uses talk d0 a0 D v) (sym is) (uses_alike talk d0 a0 D x v p same.dialled same.arrived same.link u)
  word_use true p m x v s aw u (word, actions, brings, (may, are, on), c) =
      let r : Ready a Is t ⊤ talk p x p word = ready_word (GoesAsDefined a) talk a Is (log_steps a) t below ⊤ p x p word s aw brings in
      let e : TimedEvent = at t word in
      subst (Uses talk d0 a0 D v) (sym on)
      (goes_use a talk d0 a0 D p e x v (brought_of a p t word (plain_no_arrival word (word_plain word brings)) r.brings)
      (plain_agrees a talk d0 a0 D x p t word (word_plain word brings) (event_keeps x p e (word_ends word brings) s.agrees))
      (event_use a talk d0 a0 D x x p t word (word_message word brings) refl refl (λ name. refl) u) (subst (λ (xs : List Action). Carries talk xs x v) are c))

  -- An event that is ready is given, and what it draws.
  pub event_given : (n m : Log) (w v : World L) (e : NodeEvent) → Ready a Is t ⊤ talk n w n e
      → ((x : World L) → Carries talk (actions_at a n (at t e)) w x → Uses talk d0 a0 D x (n ++ goes_on a (at t e) n)) → ((x : World L) → Carries talk (actions_at a n (at t e)) w x → x.arrived ≡ None)
      → Gives (GoesAsDefined a) talk t e n w m v → Fine m v
  event_given n m w v e r brought gone g = (held_at m v q.0 q.2, by g, none g)
    where
      q : (K : Log) × Gives (Both (GoesAsDefined a) a) talk t e (beside n n) w (beside m K) v × Held m v K
      q = Lifting.gives (GoesAsDefined a) talk a Is (log_steps a) t below ⊤ n m w v n e r g

      word_none : (b : Bool) (p m : Log) (x v : World L) → x.arrived ≡ None → GivesWord (GoesAsDefined a) talk t b p x m v → v.arrived ≡ None
      word_none false p m x v none (is, same) = same.arrived ∙ none
      word_none true p m x v none (word, actions, brings, goes, c) = carries_none talk actions x v c none

      none : Gives (GoesAsDefined a) talk t e n w m v → v.arrived ≡ None
      none (actions, p, x, (may, are, on), c, h) = word_none (draws actions) p m x v (gone x (subst (λ (xs : List Action). Carries talk xs w x) are c)) h

      by : Gives (GoesAsDefined a) talk t e n w m v → Uses talk d0 a0 D v m
      by (actions, p, x, (may, are, on), c, h) =
          let k = after (GoesAsDefined a) talk a Is (log_steps a) t below ⊤ n p w x n e actions r (may, are, on) c in
          let aw : awaits_word p ≡ draws actions = ap awaits_word on ∙ draws_at a n (at t e) r.may ∙ sym (ap (list_any draws_word) k.0) ∙ draws-same actions in
          word_use (draws actions) p m x v (subst (λ (N : Log). Stood a Is t ⊤ p x N) (sym on) k.1) aw
          (subst (Uses talk d0 a0 D x) (sym on) (brought x (subst (λ (xs : List Action). Carries talk xs w x) are c))) h

  -- Any but that a link arrives.
  pub given_plainly : (n m : Log) (w v : World L) (e : NodeEvent) → Ready a Is t ⊤ talk n w n e → is_arrival e ≡ false
      → Agrees w (with_event n (at t e) ++ opens_at e (with_event n (at t e))) → Uses talk d0 a0 D w (with_event n (at t e)) → w.arrived ≡ None → Gives (GoesAsDefined a) talk t e n w m v → Fine m v
  given_plainly n m w v e r none A u gone g = event_given n m w v e r (λ x c. goes_use a talk d0 a0 D n (at t e) w x (brought_of a n t e none r.brings) A u c)
      (λ x c. carries_none talk (actions_at a n (at t e)) w x c gone) g

  -- ---- the parts of a turn

  pub news_use : (news : List News) (n m : Log) (w v : World L) → Fine n w → GivesNews (GoesAsDefined a) talk t news n w m v → Fine m v × (v.due ≡ [])
  news_use [] n m w v f (due, is, same) = (fine_same n m w v is same f, same.due ∙ due)
  news_use (news ∷ more) n m w v f (rest, p, x, is, g, k) =
      let y : World L = record w { due = rest } in
      let e : TimedEvent = at t (event_of news) in
      news_use more p m x v
      (given_plainly n p y x (event_of news) (ready_news (GoesAsDefined a) talk a Is (log_steps a) t below ⊤ news rest n w n f.0 is) (news_no_arrival news.link news.change)
      (news_keeps news rest w n e refl is f.0.0.agrees)
      (event_use a talk d0 a0 D w y n t (event_of news) (news_message news.link news.change) refl refl (λ name. refl) f.1) f.2 g) k

  pub lines_given : (passed : ℕ) (lines : List Due) → list_all asks lines ≡ true → AreDue passed lines → (n m : Log) (w v : World L) → Fine n w → w.due ≡ []
      → GivesLines (GoesAsDefined a) talk t lines n w m v → Fine m v × (v.due ≡ [])
  lines_given passed [] asked due n m w v f none (is, same) = (fine_same n m w v is same f, same.due ∙ none)
  lines_given passed (d ∷ lines) asked due n m w v f none (p, x, g, k) =
      let here : is_asked d.event ≡ true = and_left (is_asked d.event) (list_all asks lines) asked in
      let e : TimedEvent = at t d.event in
      lines_given passed lines (and_right (is_asked d.event) (list_all asks lines) asked) due.1 p m x v
      (given_plainly n p w x d.event (ready_line (GoesAsDefined a) talk a Is (log_steps a) t below ⊤ passed d here due.0 (λ finish over. tt) n w n f.0)
      (plain_no_arrival d.event (asked_plain d.event here)) (plain_agrees a talk d0 a0 D w n t d.event (asked_plain d.event here) (event_keeps w n e (asked-ends d.event here) f.0.0.agrees))
      (event_use a talk d0 a0 D w w n t d.event (asked_message d.event here) refl refl (λ name. refl) f.1) f.2 g)
      (Lifting.gives_due (GoesAsDefined a) talk t d.event n p w x g none) k

  -- ---- what a link gave

  -- It is in hand as it was left by it.
  pub hears_use : (name : LinkName) (k l : L) (s : Said) (o : Option L) (w v : World L) (M : Log) (m : Line) → is_name name ≡ true → w.link name ≡ Some k
      → Grows (talk k) (talk l) (s ∷ []) → ((z : Option (Option L)) (g p : List (List ℕ)) → StandsSo talk z (Some l) g p → StandsSo talk z o g p)
      → ((other : LinkName) → v.link other ≡ (with_link name o w).link other) → v.dialled ≡ w.dialled → v.arrived ≡ w.arrived
      → ((other : LinkName) → begins other m ≡ false) → ((other : LinkName) → same_link name other ≡ false → given_by other m ≡ []) → given_by name m ≡ said_given s
      → ((other : LinkName) → put_by other m ≡ []) → said_put s ≡ [] → (IsUncalled w.dialled v.dialled → Calls m None w.dialled v.dialled)
      → (v.arrived ≡ w.arrived → Admitted m None w.arrived v.arrived) → ((c : Option L) → c ≡ None → IsTakenBy m c) → Uses talk d0 a0 D w M → Uses talk d0 a0 D v (M ++ m ∷ [])
  hears_use name k l s o w v M m named is grew left same dials arr none apart gave put puts calls admitted taken =
      touch talk d0 a0 D name w v M m None (calls (uncalled w.dialled v.dialled dials)) (admitted arr) (taken None refl) (λ other ne. same other ∙ (apart-link name o w).link other ne)
      (λ other ne. none other) apart (λ other ne. put other)
      (λ z g p b h. so talk z o (v.link name) (g ++ said_given s) (g ++ given_by name m) (p ++ said_put s) (p ++ put_by name m)
      (sym (same name ∙ link-here name o w named)) (ap (λ (x : List (List ℕ)). g ++ x) (sym gave)) (ap (λ (x : List (List ℕ)). p ++ x) (puts ∙ sym (put name)))
      (left z (g ++ said_given s) (p ++ said_put s) (says talk z k l s g p grew (so talk z (w.link name) (Some k) g g p p is refl refl h))))
      (λ b. no_true (StandsSo talk (Some None) (v.link name) [] []) (begins name m) (none name) b)

  -- Where nothing came, no line is written.
  still_use : (name : LinkName) (k l : L) (w v : World L) (M : Log) → is_name name ≡ true → w.link name ≡ Some k
      → Grows (talk k) (talk l) (Gave link_wait (Ok Quiet) ∷ []) → Same v (with_link name (Some l) w) → Uses talk d0 a0 D w M → Uses talk d0 a0 D v M
  still_use name k l w v M named is grew same u = stays talk d0 a0 D w v M same.dialled same.arrived (λ other z g p h. by other z g p (same_link name other) refl h) u
    where
      by : (other : LinkName) (z : Option (Option L)) (g p : List (List ℕ)) (b : Bool) → same_link name other ≡ b → StandsSo talk z (w.link other) g p → StandsSo talk z (v.link other) g p
      by other z g p true here h =
          subst (λ (n : LinkName). StandsSo talk z (w.link n) g p → StandsSo talk z (v.link n) g p) (same_link-is name other here)
          (λ s. so talk z (Some l) (v.link name) (g ++ []) g (p ++ []) p (sym (same.link name ∙ link-here name (Some l) w named)) (append-nil g) (append-nil p)
          (says talk z k l (Gave link_wait (Ok Quiet)) g p grew (so talk z (w.link name) (Some k) g g p p is refl refl s))) h
      by other z g p false ne h = so talk z (w.link other) (v.link other) g g p p (sym (same.link other ∙ (apart-link name (Some l) w).link other ne)) refl refl h

  -- Any event of what a link gave.
  hears_of : (name : LinkName) (k l : L) (given : Result Incoming LinkFault) (n m : Log) (w v : World L) → Hearing (GoesAsDefined a) talk a Is (log_steps a) t below ⊤ name k n w n
      → Uses talk d0 a0 D w n → w.arrived ≡ None
      → Grows (talk k) (talk l) (Gave link_wait given ∷ []) → HearsOf (GoesAsDefined a) talk t name l given n w m v → Fine m v × (v.due ≡ [])
  hears_of name k l (Ok (Message o)) n m w v h u gone grew (x, same, g) =
      let e : TimedEvent = at t (Came name o) in
      let here : given_by name (came e) ≡ o ∷ [] = rw (same_link-self name) refl in (
        given_plainly n m x v (Came name o) (ready_heard (GoesAsDefined a) talk a Is (log_steps a) t below ⊤ name k l (Ok (Message o)) (Came name o) n w x n h tt refl same) refl
            (plain_agrees a talk d0 a0 D x n t (Came name o) refl (event_keeps x n e (λ other. refl)
            (agrees-same x (with_link name (Some l) w) n same (hears_keeps name k l w n h.named h.is h.held.0.agrees))))
            (hears_use name k l (Gave link_wait (Ok (Message o))) (Some l) w x n (came e) h.named h.is grew (λ z g p s. s) same.link same.dialled same.arrived (λ other. refl)
            (λ other ne. rw ne refl) here (λ other. refl) refl (λ h. h) (λ h. ap option_to_list h) (λ c e. tt) u) (same.arrived ∙ gone) g,
        Lifting.gives_due (GoesAsDefined a) talk t (Came name o) n m x v g (same.due ∙ h.none),
      )
  hears_of name k l (Ok Text) n m w v h u gone grew (x, same, g) =
      let e : TimedEvent = at t (CameText name) in (
        given_plainly n m x v (CameText name) (ready_heard (GoesAsDefined a) talk a Is (log_steps a) t below ⊤ name k l (Ok Text) (CameText name) n w x n h tt refl same) refl
            (plain_agrees a talk d0 a0 D x n t (CameText name) refl (event_keeps x n e (λ other. refl)
            (agrees-same x (with_link name (Some l) w) n same (hears_keeps name k l w n h.named h.is h.held.0.agrees))))
            (hears_use name k l (Gave link_wait (Ok Text)) (Some l) w x n (came e) h.named h.is grew (λ z g p s. s) same.link same.dialled same.arrived (λ other. refl)
            (λ other ne. refl) refl (λ other. refl) refl (λ h. h) (λ h. ap option_to_list h) (λ c e. tt) u) (same.arrived ∙ gone) g,
        Lifting.gives_due (GoesAsDefined a) talk t (CameText name) n m x v g (same.due ∙ h.none),
      )
  hears_of name k l (Ok Quiet) n m w v h u gone grew (is, same) = (
    fine_same n m v v is (same_self v) (
      (
        record {
          stands = refl;
          agrees = agrees-same v (with_link name (Some l) w) n same (hears_keeps name k l w n h.named h.is h.held.0.agrees);
          between = h.held.0.between;
          time = h.held.0.time;
          by = h.held.0.by;
        },
        h.held.1,
      ),
      still_use name k l w v n h.named h.is grew same u,
      same.arrived ∙ gone,
    ),
    same.due ∙ h.none,
  )
  hears_of name k l (Ok Closed) n m w v h u gone grew (x, same, g) =
      let e : TimedEvent = at t (Lost name) in (
        given_plainly n m x v (Lost name) (ready_heard (GoesAsDefined a) talk a Is (log_steps a) t below ⊤ name k l (Ok Closed) (Lost name) n w x n h tt refl same) refl
            (plain_agrees a talk d0 a0 D x n t (Lost name) refl (agrees-same x (ends name l w) (with_event n e) same (lost_keeps name l w n e refl h.named h.none h.up h.held.0.agrees)))
            (hears_use name k l (Gave link_wait (Ok Closed)) None w x n (came e) h.named h.is grew (λ z g p s. let_go talk z l g p s) same.link same.dialled same.arrived (λ other. refl)
            (λ other ne. refl) refl (λ other. refl) refl (λ h. h) (λ h. ap option_to_list h) (λ c e. tt) u) (same.arrived ∙ gone) g,
        Lifting.gives_due (GoesAsDefined a) talk t (Lost name) n m x v g (same.due ∙ h.none),
      )
  hears_of name k l (Err Failed) n m w v h u gone grew (x, same, g) =
      let e : TimedEvent = at t (Lost name) in (
        given_plainly n m x v (Lost name) (ready_heard (GoesAsDefined a) talk a Is (log_steps a) t below ⊤ name k l (Err Failed) (Lost name) n w x n h tt refl same) refl
            (plain_agrees a talk d0 a0 D x n t (Lost name) refl (agrees-same x (ends name l w) (with_event n e) same (lost_keeps name l w n e refl h.named h.none h.up h.held.0.agrees)))
            (hears_use name k l (Gave link_wait (Err Failed)) None w x n (came e) h.named h.is grew (λ z g p s. let_go talk z l g p s) same.link same.dialled same.arrived (λ other. refl)
            (λ other ne. refl) refl (λ other. refl) refl (λ h. h) (λ h. ap option_to_list h) (λ c e. tt) u) (same.arrived ∙ gone) g,
        Lifting.gives_due (GoesAsDefined a) talk t (Lost name) n m x v g (same.due ∙ h.none),
      )
  hears_of name k l (Err NoMemory) n m w v h u gone grew g = absurd g

  pub hears_if : (name : LinkName) (b : Bool) (n m : Log) (w v : World L) → Fine n w → is_name name ≡ true → w.due ≡ [] → is_open name w ≡ b
      → HearsIf (GoesAsDefined a) talk t name b n w m v → Fine m v × (v.due ≡ [])
  hears_if name false n m w v f named none up (is, same) = (fine_same n m w v is same f, same.due ∙ none)
  hears_if name true n m w v f named none up (k, l, given, is, grew, g) =
      hears_of name k l given n m w v (record { held = f.0; named = named; none = none; up = up; is = is }) f.1 f.2 grew g

  pub hears_each : (links : List LinkName) (n m : Log) (w v : World L) → list_all is_name links ≡ true → Fine n w → w.due ≡ []
      → HearsEach (GoesAsDefined a) talk t links n w m v → Fine m v × (v.due ≡ [])
  hears_each [] n m w v named f none (is, same) = (fine_same n m w v is same f, same.due ∙ none)
  hears_each (name ∷ links) n m w v named f none (p, x, g, k) =
      let q : Fine p x × (x.due ≡ []) = hears_if name (is_open name w) n p w x f (and_left (is_name name) (list_all is_name links) named) none refl g in
      hears_each links p m x v (and_right (is_name name) (list_all is_name links) named) q.0 q.1 k

-- ---- a link that arrives, and a whole turn

module _ {L : Type 0} (a : Made) (talk : L → Option (List Said)) (d0 : Dialling L) (a0 : Admitting L) (t : ℕ) (below : t < 2 ^ 62) where
  abbrev pub FineAt : Admitting L → Log → World L → Type 0
  FineAt D M w = Fine a talk d0 a0 D t below M w

  pub admits_use : (listens : Bool) (n m : Log) (w v : World L) (door door' : Admitting L) → FineAt door n w → w.due ≡ []
      → Admits (GoesAsDefined a) talk t listens (moment n w door) (moment m v door') → FineAt door' m v × (v.due ≡ [])
  admits_use false n m w v door door' f none (is, same, e) = (
    fine_same a talk d0 a0 door' t below n m w v is same (f.0, redoor talk d0 a0 door door' w n (λ K h. subst (λ (x : Admitting L). HasArrived a0 x w.arrived n K) (sym e) h) f.1, f.2),
    same.due ∙ none,
  )
  admits_use true n m w v door door' f none (waits, inl (is, same, leaves)) =
      (fine_same a talk d0 a0 door' t below n m w v is same (f.0, redoor talk d0 a0 door door' w n (λ K h. none_came a0 door door' w.arrived n K leaves h) f.1, f.2), same.due ∙ none)
  admits_use true n m w v door door' f none (waits, inr (l, leaves, g)) =
      let D : Admitting L = door' in
      let y : World L = record w { arrived = Some l } in
      let A : Agrees y n = record { links = f.0.0.agrees.links; others = f.0.0.agrees.others; named = f.0.0.agrees.named; finished = f.0.0.agrees.finished } in
      let r : Ready a Is t ⊤ talk n y n Arrived = ready_arrived (GoesAsDefined a) talk a Is (log_steps a) t below ⊤ n w l n f.0 in
      let u : Uses talk d0 a0 D y n = one_came talk d0 a0 door D w n l f.2 leaves f.1 in (
        event_given a talk d0 a0 D t below n m y v Arrived r
            (λ x c. arrival_use a talk d0 a0 D n t l y x refl r.brings (event_keeps y n (at t Arrived) (λ name. refl) A) (event_use a talk d0 a0 D y y n t Arrived refl refl refl (λ name. refl) u) c)
            (λ x c. arrival_none a talk n t y x r.brings c) g,
        Lifting.gives_due (GoesAsDefined a) talk t Arrived n m y v g none,
      )

  -- ---- a turn

  pub first_turn : (D : Admitting L) (n m : Log) (w v : World L) → n ≡ [] → Agrees w [] → Uses talk d0 a0 D w [] → w.arrived ≡ None → Starts (GoesAsDefined a) talk t None n w m v → FineAt D m v
  first_turn D n m w v is A u gone g =
      let r : Ready a Is t ⊤ talk [] w [] Start = ready_start (GoesAsDefined a) talk a Is (log_steps a) t below ⊤ [] w refl A in
      given_plainly a talk d0 a0 D t below [] m w v Start r refl (plain_agrees a talk d0 a0 D w [] t Start refl (event_keeps w [] (at t Start) (λ name. refl) A))
      (event_use a talk d0 a0 D w w [] t Start refl refl refl (λ name. refl) u) gone (subst (λ (N : Log). Starts (GoesAsDefined a) talk t None N w m v) is g)

  pub turn_uses : (start : Option ℕ) (script rest : List Due) (listens : Bool) (n m : Log) (w v : World L) (door door' : Admitting L)
      → ((p : Log) (x y : World L) → Same x (begun w) → Starts (GoesAsDefined a) talk t start n x p y → FineAt door p y) → list_all asks script ≡ true
      → Turn (GoesAsDefined a) talk t start script rest listens (moment n w door) (moment m v door') → FineAt door' m v × (v.due ≡ [])
  turn_uses start script rest listens n m w v door door' first asked g =
      let D : Admitting L = door in
      let q1 : FineAt D g.node_started g.world_started = first g.node_started g.world_begun g.world_started g.begins g.starts in
      let q2 : FineAt D g.node_ticked g.world_ticked =
      given_plainly a talk d0 a0 D t below g.node_started g.node_ticked g.world_started g.world_ticked Tick
      (ready_tick (GoesAsDefined a) talk a Is (log_steps a) t below ⊤ g.node_started g.world_started g.node_started q1.0) refl
      (plain_agrees a talk d0 a0 D g.world_started g.node_started t Tick refl (event_keeps g.world_started g.node_started (at t Tick) (λ name. refl) q1.0.0.agrees))
      (event_use a talk d0 a0 D g.world_started g.world_started g.node_started t Tick refl refl refl (λ name. refl) q1.1) q1.2 g.ticks in
      let q3 : FineAt D g.node_told g.world_told × (g.world_told.due ≡ []) = news_use a talk d0 a0 D t below g.news g.node_ticked g.node_told g.world_ticked g.world_told q2 g.told in
      let q4 : FineAt D g.node_given g.world_given × (g.world_given.due ≡ []) =
      lines_given a talk d0 a0 D t below (passed_by start t) g.lines
      (and_left (list_all asks g.lines) (list_all asks rest) (sym (ap (list_all asks) g.parts ∙ list_all-append asks g.lines rest) ∙ asked)) g.due
      g.node_told g.node_given g.world_told g.world_given q3.0 q3.1 g.given in
      let q5 : FineAt D g.node_heard g.world_heard × (g.world_heard.due ≡ []) = hears_each a talk d0 a0 D t below names g.node_given g.node_heard g.world_given g.world_heard refl q4.0 q4.1 g.heard in
      admits_use listens g.node_heard m g.world_heard v door door' q5.0 q5.1 g.admits

  pub later_turn : (D : Admitting L) (start : ℕ) (n p : Log) (w x y : World L) → FineAt D n w → w.due ≡ [] → Same x (begun w) → Starts (GoesAsDefined a) talk t (Some start) n x p y → FineAt D p y
  later_turn D start n p w x y f none same (is, stays) =
      fine_same a talk d0 a0 D t below n p x y is stays (
        (
          record {
            stands = refl;
            agrees = agrees-same x (begun w) n same (begun_keeps w n none f.0.0.agrees);
            between = f.0.0.between;
            time = f.0.0.time;
            by = f.0.0.by;
          },
          f.0.1,
        ),
        uses_alike talk d0 a0 D w x n same.dialled same.arrived same.link f.1,
        same.arrived ∙ f.2,
      )

-- ---- a run

no_line : {A : Type 0} (M : Log) (i : ℕ) (line : Line) → M ≡ [] → slice_get M i ≡ Some line → A
no_line [] i line e h = cc
no_line (m ∷ M) i line e h = cc

pub none_used : {L : Type 0} (talk : L → Option (List Said)) (w : World L) (d0 : Dialling L) (a0 D : Admitting L) → w.dialled ≡ d0 → D ≡ a0 → w.arrived ≡ None → Uses talk d0 a0 D w []
none_used {L} talk w d0 a0 D same door none = (
  [],
  refl,
  record { calls = (uncalled d0 w.dialled same).0; left = (uncalled d0 w.dialled same).1; came = (uncalled d0 w.dialled same).2 },
  subst (λ (o : Option L). HasArrived a0 D o [] []) (sym none) (subst (λ (x : Admitting L). HasGiven a0 x []) (sym door) (given_none a0)),
  tt,
  λ x begun. no_line [] x.began begun.line refl begun.at,
)

module _ {L : Type 0} (a : Made) (talk : L → Option (List Said)) (d0 : Dialling L) (a0 : Admitting L) (listens : Bool) where
  -- The time goes on.
  pub fine_later : (D : Admitting L) (from t : ℕ) (early : from < 2 ^ 62) (below : t < 2 ^ 62) (n : Log) (w : World L) → from ≤ t → Fine a talk d0 a0 D from early n w → Fine a talk d0 a0 D t below n w
  fine_later D from t early below n w later (h, u, gone) = (
    (
      record {
        stands = h.0.stands;
        agrees = h.0.agrees;
        between = h.0.between;
        time = omega (arith, h.0.time);
        by = h.0.by;
      },
      h.1,
    ),
    u,
    gone,
  )

  later_turns : (first : ℕ) (times : List ℕ) (from : ℕ) (early : from < 2 ^ 62) (script : List Due) → DontFall from times → list_all asks script ≡ true
      → (n m : Log) (w v : World L) (door door' : Admitting L) → Fine a talk d0 a0 door from early n w → w.due ≡ []
      → Turns (GoesAsDefined a) talk listens times (Some first) script (moment n w door) (moment m v door') → Uses talk d0 a0 door' v m × (v.arrived ≡ None)
  later_turns first [] from early script fall asked n m w v door door' f none (is, same, e) =
      let q : Fine a talk d0 a0 door from early m v = fine_same a talk d0 a0 door from early n m w v is same f in
      (subst (λ (x : Admitting L). Uses talk d0 a0 x v m) (sym e) q.1, q.2)
  later_turns first (t ∷ times) from early script fall asked n m w v door door' f none (rest, p, x, mid, going, g, k) =
      let q : Fine a talk d0 a0 mid t fall.1 p x × (x.due ≡ []) =
      turn_uses a talk d0 a0 t fall.1 (Some first) script rest listens n p w x door mid
      (λ o y z same s. later_turn a talk d0 a0 t fall.1 door first n o w y z (fine_later door from t early fall.1 n w fall.0 f) none same s) asked g in
      later_turns first times t fall.1 rest fall.2 (asked_rest script g.lines rest g.parts asked) p m x v mid door' q.0 q.1 k

  pub turns_use : (times : List ℕ) (script : List Due) → DontFall 0 times → list_all asks script ≡ true → (text : Option (List ℕ)) (m : Log) (w v : World L) (door door' : Admitting L)
      → a0 ≡ door → IsEmpty d0 text w → Turns (GoesAsDefined a) talk listens times None script (moment [] w door) (moment m v door') → Uses talk d0 a0 door' v m × (v.arrived ≡ None)
  turns_use [] script fall asked text m w v door door' from empty (is, same, e) =
      (subst (Uses talk d0 a0 door' v) (sym is) (none_used talk v d0 a0 door' (same.dialled ∙ empty.dialled) (e ∙ sym from) (same.arrived ∙ empty.arrived)), same.arrived ∙ empty.arrived)
  turns_use (t ∷ times) script fall asked text m w v door door' from empty (rest, p, x, mid, going, g, k) =
      later_turns t times t fall.1 rest fall.2 (asked_rest script g.lines rest g.parts asked) p m x v mid door' q.0 q.1 k
    where
      q : Fine a talk d0 a0 mid t fall.1 p x × (x.due ≡ [])
      q = turn_uses a talk d0 a0 t fall.1 None script rest listens [] p w x door mid
          (λ o y z same b. first_turn a talk d0 a0 t fall.1 door [] o y z refl (at_first d0 text w empty y same)
          (none_used talk y d0 a0 door (same.dialled ∙ empty.dialled) (sym from) (same.arrived ∙ empty.arrived)) (same.arrived ∙ empty.arrived) b) asked g

-- The links of a run are used as its log says.
pub run_uses : {L : Type 0} (a : Made) (talk : L → Option (List Said)) (listens : Bool) (end : RunEnd) (turns : ℕ) (script : List Due) → list_all asks script ≡ true
    → (o p : Outside L) (M : Log)
    → Run (GoesAsDefined a) talk listens end turns script (run_moment [] o.dialled o.written o.door o.readings) (run_moment M p.dialled p.written p.door p.readings) → LinksAreUsed talk o p M
run_uses {L} a talk listens end turns script asked o p M r = by (turns_use a talk o.dialled o.door listens r.times script r.rise asked o.written M r.first r.last o.door p.door refl r.empty r.went)
  where
    all_used : (z : Option (Option L)) (n : Bool) (x : LinkLife) → StandsBy talk z n (r.last.link x.name) (given_over M x) (put_over M x) → IsGone talk z (given_over M x) (put_over M x)
    all_used z true x s = s
    all_used z false x s = used talk z (r.last.link x.name) (given_over M x) (put_over M x) s

    by : Uses talk o.dialled o.door p.door r.last M × (r.last.arrived ≡ None) → LinksAreUsed talk o p M
    by ((K, long, dialled, arrived, taken, each), none) = record {
      links = K;
      each = long;
      dialled = subst (λ (e : Dialling L). HasDialled o.dialled e M K) r.dials dialled;
      arrived = subst (HasGiven o.door p.door) (ap (λ (x : Option L). by_lines arrived_by M K ++ option_to_list x) none ∙ append-nil (by_lines arrived_by M K)) arrived;
      taken = taken;
      used = λ x begun. all_used (slice_get K x.began) (list_any (begins x.name) (lines_since M x)) x (each x begun);
    }

pub runs_use_links : {L : Type 0} (talk : L → Option (List Said)) → RunsUseLinks talk
runs_use_links talk a terms end o p M asked r = run_uses a talk terms.listens end terms.turns terms.script.now asked o p M r

-- A node that draws its words is a log alone.
pub log_alone : {W : Type 0} (drawn : NodeEvent → W → W → Type 0) (a : Made) → Maps (GoesDrawing (GoesAsDefined a) drawn) (GoesAsDefined a) (λ (d : Drawing Log W). d.node)
log_alone drawn a n m t e actions g = g.0

pub script_runs_use_links : {L W : Type 0} (talk : L → Option (List Said)) (drawn : NodeEvent → W → W → Type 0) → ScriptRunsUseLinks talk drawn
script_runs_use_links {L} {W} talk drawn a text lines reads listens end turns u u' o p M run =
    run_uses a talk listens end turns lines (asked_of text lines reads) o p M
    (run_map (GoesDrawing (GoesAsDefined a) drawn) (GoesAsDefined a) (λ (d : Drawing Log W). d.node) (log_alone drawn a) talk listens end turns lines
    (at_rest [] u) (at_rest M u') o.dialled p.dialled o.written p.written o.door p.door o.readings p.readings run)
