-- A turn of a node to which no link comes.
-- It serves bsc_node_command.
use Rattle.std.proofs.Common.{◌≡◌, ◌≤◌, ℕ, zero, suc, Bool, true, false, ◌&&◌, inl, inr, List, [], ◌∷◌, ◌++◌, length, fold, Option, Some, None, Ok, is_some, refl, ap, sym, ◌∙◌}
use Rattle.std.proofs.Common.{subst, arith, one-add, le-leb}
use borrow.Author.Tests.{lt-leb}
use Rattle.std.specs.Prelude.{map, not}
use Rattle.std.specs.List.{list_all, list_any}
use Rattle.std.proofs.lemmas.List.{length-map}
use Rattle.std.proofs.lemmas.List.Folds.{list_all-append}
use Rattle.std.proofs.lemmas.Option.{same_Some}
use Rattle.bsc_edge.specs.declared.arrived.Arrived.TheVariants.{Link, Quiet as NoLink}
use Rattle.bsc_edge.specs.declared.dialled.Dialled.{Dialled}
use Rattle.bsc_edge.specs.declared.said.Said.{Said}
use Rattle.bsc_edge.specs.Told.{Leaves}
use Rattle.bsc_node.specs.declared.link_name.LinkName.{LinkName}
use Rattle.bsc_node.specs.declared.node_event.NodeEvent.{NodeEvent}
use Rattle.bsc_node.specs.declared.node_event.NodeEvent.TheVariants.{Start, Tick, DialFailed, Came}
use Rattle.bsc_node.specs.declared.timed_event.TimedEvent.{TimedEvent}
use Rattle.bsc_node.specs.declared.action.Action.{Action}
use Rattle.bsc_node.specs.declared.action.Action.TheVariants.{Close}
use Rattle.bsc_node.specs.Logs.{Made, Log}
use Rattle.bsc_node.specs.Node.{goes_on, actions_at}
use Rattle.bsc_node.proofs.Following.{is_came}
use Rattle.bsc_node_run.specs.declared.due.Due.{Due}
use Rattle.bsc_node_run.specs.declared.news.News.{News}
use Rattle.bsc_node_run.specs.Requests.{is_asked}
use Rattle.bsc_node_run.specs.Worlds.{Admitting, Dialling, World, Same, is_of, is_open, begun}
use Rattle.bsc_node_run.specs.Turning.{Gives, GivesNews, GivesLines, HearsIf, HearsEach, Admits, Starts, Turn, AreDue, IsNotDue, event_of, names as all_names, passed_by}
use Rattle.bsc_node_run.specs.Moments.{moment}
use Rattle.bsc_node_laws.specs.Courses.{GoesAsDefined}
use Rattle.bsc_node_laws.specs.Alone.{Alone, after_action, told, told_oldest, told_failed, turn, due_by, not_due_by}
use Rattle.bsc_node_laws.proofs.AloneBack.{LeadsTo, StillLeft, gives_back, news_back, lines_back, each_back, admits_back}
use Rattle.bsc_node_laws.proofs.AloneActing.{NoneComes, failure, Stands, stays, gives_stands}
use Rattle.bsc_lemmas.proofs.Booleans.{and_left, and_right}
use Rattle.bsc_lemmas.proofs.Lists.{filter_le}

-- what comes first in a turn
abbrev pub first_events : Option ℕ → List NodeEvent
first_events None = Start ∷ Tick ∷ []
first_events (Some start) = Tick ∷ []

-- a script may ask for each of these
abbrev pub all_asked : List Due → Bool
all_asked lines = list_all (λ (d : Due). is_asked d.event) lines

-- ---- lines that are due

-- The lines that are due come first, and are the first that are.
pub due_first : (passed : ℕ) (lines rest : List Due) → AreDue passed lines → IsNotDue passed rest → due_by passed (lines ++ rest) ≡ lines
due_first passed [] [] due next = refl
due_first passed [] (d ∷ rest) due next = rw (lt-leb d.at passed next) refl
due_first passed (d ∷ lines) rest (first, due) next = rw (le-leb d.at passed first) (rw one-add (ap (λ ds. d ∷ ds) (due_first passed lines rest due next)))

pub not_due_rest : (passed : ℕ) (lines rest : List Due) → AreDue passed lines → IsNotDue passed rest → not_due_by passed (lines ++ rest) ≡ rest
not_due_rest passed [] [] due next = refl
not_due_rest passed [] (d ∷ rest) due next = rw (lt-leb d.at passed next) refl
not_due_rest passed (d ∷ lines) rest (first, due) next = rw (le-leb d.at passed first) (not_due_rest passed lines rest due next)

-- ---- dials that failed

-- A close only shortens them.
action_fewer : (s : Alone) (action : Action) → length (after_action s action).failed ≤ length s.failed
action_fewer s (Close name closing) = filter_le _ s.failed
action_fewer s action = omega arith

actions_fewer : (actions : List Action) (s : Alone) → length (fold after_action s actions).failed ≤ length s.failed
actions_fewer [] s = omega arith
actions_fewer (action ∷ actions) s = (let x = action_fewer s action in let y = actions_fewer actions (after_action s action) in omega (arith, x, y))

told_fewer : (a : Made) (now : ℕ) (s : Alone) (e : NodeEvent) → length (told a now s e).failed ≤ length s.failed
told_fewer a now s e =
    let at : TimedEvent = record { now = now; event = e } in
    actions_fewer (actions_at a s.log at) (record s { log = s.log ++ goes_on a at s.log })

-- Where none is left, nothing is told.
oldest_none : (a : Made) (now : ℕ) (s : Alone) → s.failed ≡ [] → told_oldest a now s ≡ s
oldest_none a now s e = rw e refl

none_told : (a : Made) (now k : ℕ) (s : Alone) → s.failed ≡ [] → told_failed a now k s ≡ s
none_told a now zero s e = refl
none_told a now (suc k) s e = subst (λ (t : Alone). told_failed a now k t ≡ s) (sym (oldest_none a now s e)) (none_told a now k s e)

-- Where there is one, it is told, and those behind it are left.
oldest_some : (a : Made) (now : ℕ) (s : Alone) (name : LinkName) (names : List LinkName) → s.failed ≡ name ∷ names
    → told_oldest a now s ≡ told a now (record s { failed = names }) (DialFailed name)
oldest_some a now s name names e = rw e refl

oldest_fewer : (a : Made) (now k : ℕ) (s : Alone) → length s.failed ≤ suc k → length (told_oldest a now s).failed ≤ k
oldest_fewer a now k s few = by s.failed refl
  where
    by : (names : List LinkName) → s.failed ≡ names → length (told_oldest a now s).failed ≤ k
    by [] is = (let none : length (told_oldest a now s).failed ≡ 0 = ap (λ (t : Alone). length t.failed) (oldest_none a now s is) ∙ ap length is in omega (arith, none))
    by (name ∷ names) is =
        let one : length s.failed ≡ length (name ∷ names) = ap length is in
        let kept = told_fewer a now (record s { failed = names }) (DialFailed name) in
        subst (λ (t : Alone). length t.failed ≤ k) (sym (oldest_some a now s name names is)) (omega (arith, one, kept, few))

module _ {L : Type 0} (a : Made) (talk : L → Option (List Said)) (all : List Dialled) (now : ℕ) where
  -- ---- what is new

  no_news : (names : List LinkName) → map failure names ≡ [] → names ≡ []
  no_news [] e = refl
  no_news (name ∷ names) e = cc

  -- What is new first is that the oldest of those dials failed.
  oldest_stands : (one : News) (rest : List News) (n p : Log) (w x : World L) (s : Alone) → w.due ≡ one ∷ rest → Gives (GoesAsDefined a) talk now (event_of one) n (record w { due = rest }) p x
      → LeadsTo all x.dialled.calls → Stands all n w s → Stands all p x (told_oldest a now s)
  oldest_stands one rest n p w x s due g later h = by s.failed refl
    where
      by : (names : List LinkName) → s.failed ≡ names → Stands all p x (told_oldest a now s)
      by [] is = (let none : one ∷ rest ≡ [] = sym due ∙ h.due ∙ ap (map failure) is in cc)
      by (name ∷ names) is =
          let new : one ∷ rest ≡ failure name ∷ map failure names = sym due ∙ h.due ∙ ap (map failure) is in
          let first : one ≡ failure name = cc new in
          let others : rest ≡ map failure names = cc new in
          subst (λ (t : Alone). Stands all p x t) (sym (oldest_some a now s name names is))
          (gives_stands talk all a now (DialFailed name) n p (record w { due = rest }) x (record s { failed = names }) refl
          (subst (λ (e : NodeEvent). Gives (GoesAsDefined a) talk now e n (record w { due = rest }) p x) (ap event_of first) g) later
          (record { log = h.log; link = h.link; arrived = h.arrived; due = others; waiting = h.waiting; calls = h.calls }))

  -- All that is new is that those dials failed.
  news_stands : (news : List News) (k : ℕ) (n m : Log) (w v : World L) (s : Alone) → length s.failed ≤ k → GivesNews (GoesAsDefined a) talk now news n w m v → LeadsTo all v.dialled.calls
      → Stands all n w s → Stands all m v (told_failed a now k s)
  news_stands [] k n m w v s few (none, e, same) later h =
      subst (λ (t : Alone). Stands all m v t) (sym (none_told a now k s (no_news s.failed (sym h.due ∙ none)))) (stays talk all n m w v s e same h)
  news_stands (one ∷ more) zero n m w v s few (rest, p, x, due, g, further) later h =
      let some : length s.failed ≡ length (one ∷ rest) = sym (length-map s.failed failure) ∙ ap length (sym h.due ∙ due) in
      absurd (omega (arith, some, few))
  news_stands (one ∷ more) (suc k) n m w v s few (rest, p, x, due, g, further) later h =
      news_stands more k p m x v (told_oldest a now s) (oldest_fewer a now k s few) further later
      (oldest_stands one rest n p w x s due g (news_back (GoesAsDefined a) talk all now more p m x v further later) h)

  -- ---- the script

  asked_quiet : (e : NodeEvent) → is_asked e ≡ true → is_came e ≡ false
  asked_quiet (Came name o) h = cc
  asked_quiet e h = refl

  lines_stand : (lines : List Due) (n m : Log) (w v : World L) (s : Alone) → all_asked lines ≡ true → GivesLines (GoesAsDefined a) talk now lines n w m v
      → LeadsTo all v.dialled.calls → Stands all n w s → Stands all m v (fold (told a now) s (map (λ (d : Due). d.event) lines))
  lines_stand [] n m w v s asked (e, same) later h = stays talk all n m w v s e same h
  lines_stand (d ∷ lines) n m w v s asked (p, x, g, k) later h =
      lines_stand lines p m x v (told a now s d.event) (and_right (is_asked d.event) (all_asked lines) asked) k later
      (gives_stands talk all a now d.event n p w x s (asked_quiet d.event (and_left (is_asked d.event) (all_asked lines) asked)) g
      (lines_back (GoesAsDefined a) talk all now lines p m x v k later) h)

  -- ---- what comes

  hears_none : (name : LinkName) (b : Bool) (n m : Log) (w v : World L) → b ≡ false → HearsIf (GoesAsDefined a) talk now name b n w m v → (m ≡ n) × Same v w
  hears_none name true n m w v e g = cc
  hears_none name false n m w v e g = g

  none_open : (name : LinkName) (w : World L) → w.link name ≡ None → is_open name w ≡ false
  none_open name w e = ap (λ (o : Option L). is_some o && not (list_any (is_of name) w.waiting)) e

  each_stands : (names : List LinkName) (n m : Log) (w v : World L) (s : Alone) → HearsEach (GoesAsDefined a) talk now names n w m v → Stands all n w s → Stands all m v s
  each_stands [] n m w v s (e, same) h = stays talk all n m w v s e same h
  each_stands (name ∷ names) n m w v s (p, x, g, k) h =
      let quiet : (p ≡ n) × Same x w = hears_none name (is_open name w) n p w x (none_open name w (h.link name)) g in
      each_stands names p m x v s k (stays talk all n p w x s quiet.0 quiet.1 h)

  -- No link arrives where as many are left at last as before.
  none_arrived : (links : List L) (left left' : Option (List L)) → Leaves left left' (Ok NoLink) → left ≡ Some links → StillLeft links left' → left' ≡ Some links
  none_arrived links left None k is (ls, some, few) = cc
  none_arrived links None (Some new) k is (ls, some, few) = absurd k
  none_arrived links (Some old) (Some new) k is (ls, some, few) = ap Some k ∙ is

  one_arrived : (links : List L) (l : L) (left left' : Option (List L)) → Leaves left left' (Ok (Link l)) → left ≡ Some links → StillLeft links left' → ⊥
  one_arrived links l left None k is (ls, some, few) = cc
  one_arrived links l None (Some new) k is (ls, some, few) = absurd k
  one_arrived links l (Some old) (Some new) k is (ls, some, few) =
      let more : length links ≡ length (l ∷ new) = ap length (sym (same_Some old links is) ∙ k) in
      let same : length new ≡ length ls = ap length (same_Some new ls some) in
      absurd (omega (arith, more, same, few))

  admits_stands : (links : List L) (b : Bool) (n m : Log) (w v : World L) (door door' : Admitting L) (s : Alone) → Admits (GoesAsDefined a) talk now b (moment n w door) (moment m v door')
      → door.left ≡ Some links
      → StillLeft links door'.left → Stands all n w s → Stands all m v s × (door'.left ≡ Some links)
  admits_stands links false n m w v door door' s (e, same, k) is still h = (stays talk all n m w v s e same h, ap (λ (d : Admitting L). d.left) k ∙ is)
  admits_stands links true n m w v door door' s (waits, inl (e, same, k)) is still h = (stays talk all n m w v s e same h, none_arrived links door.left door'.left k.0 is still)
  admits_stands links true n m w v door door' s (waits, inr (l, k, g)) is still h = absurd (one_arrived links l door.left door'.left k.0 is still)

  -- ---- a turn

  begins_stands : (n : Log) (w v : World L) (s : Alone) → Same v (begun w) → Stands all n w s → Stands all n v (record s { failed = s.dialled; dialled = [] })
  begins_stands n w v s same h = record {
    log = h.log;
    link = λ name. same.link name ∙ h.link name;
    arrived = same.arrived ∙ h.arrived;
    due = same.due ∙ h.waiting;
    waiting = same.waiting;
    calls = subst (λ (d : Dialling L). NoneComes all d.calls) (sym same.dialled) h.calls;
  }

  -- After a turn it is the node alone, at the same time and with the same lines.
  pub record Turned (start : Option ℕ) (script rest : List Due) (links : List L) (m : Log) (v : World L) (door' : Admitting L) (s : Alone) : Type 0 where
    pub stands : Stands all m v (turn a now (first_events start) (due_by (passed_by start now) script) s)
    pub left : door'.left ≡ Some links
    pub goes_on : rest ≡ not_due_by (passed_by start now) script
    pub asked : all_asked rest ≡ true

  -- The node starts, in the first turn, and time has passed.
  ticks_stand : (start : Option ℕ) (n n1 m : Log) (w w1 v : World L) (s : Alone) → Starts (GoesAsDefined a) talk now start n w n1 w1 → Gives (GoesAsDefined a) talk now Tick n1 w1 m v
      → LeadsTo all v.dialled.calls
      → Stands all n w s → Stands all m v (fold (told a now) s (first_events start))
  ticks_stand None n n1 m w w1 v s g t later h =
      gives_stands talk all a now Tick n1 m w1 v (told a now s Start) refl t later
      (gives_stands talk all a now Start n n1 w w1 s refl g (gives_back (GoesAsDefined a) talk all now Tick n1 m w1 v t later) h)
  ticks_stand (Some start) n n1 m w w1 v s (e, same) t later h = gives_stands talk all a now Tick n1 m w1 v s refl t later (stays talk all n n1 w w1 s e same h)

  pub turn_stands : (start : Option ℕ) (script rest : List Due) (listens : Bool) (n m : Log) (w v : World L) (door door' : Admitting L) (links : List L) (s : Alone)
      → all_asked script ≡ true → Turn (GoesAsDefined a) talk now start script rest listens (moment n w door) (moment m v door') → LeadsTo all v.dialled.calls
      → door.left ≡ Some links → StillLeft links door'.left → Stands all n w s → Turned start script rest links m v door' s
  turn_stands start script rest listens n m w v door door' links s asked t later is still h =
      let before5 = admits_back (GoesAsDefined a) talk all now listens t.node_heard m t.world_heard v door door' t.admits later in
      let before4 = each_back (GoesAsDefined a) talk all now all_names t.node_given t.node_heard t.world_given t.world_heard t.heard before5 in
      let before3 = lines_back (GoesAsDefined a) talk all now t.lines t.node_told t.node_given t.world_told t.world_given t.given before4 in
      let before2 = news_back (GoesAsDefined a) talk all now t.news t.node_ticked t.node_told t.world_ticked t.world_told t.told before3 in
      let begun_s : Alone = record s { failed = s.dialled; dialled = [] } in
      let ticked : Alone = fold (told a now) begun_s (first_events start) in
      let failed : Alone = told_failed a now (length ticked.failed) ticked in
      let both_asked : (all_asked t.lines && all_asked rest) ≡ true =
      sym (list_all-append (λ (d : Due). is_asked d.event) t.lines rest) ∙ ap all_asked (sym t.parts) ∙ asked in
      let at2 : Stands all t.node_ticked t.world_ticked ticked =
      ticks_stand start n t.node_started t.node_ticked t.world_begun t.world_started t.world_ticked begun_s t.starts t.ticks before2 (begins_stands n w t.world_begun s t.begins h) in
      let at3 : Stands all t.node_told t.world_told failed = news_stands t.news (length ticked.failed) t.node_ticked t.node_told t.world_ticked t.world_told ticked (omega arith) t.told before3 at2 in
      let at4 : Stands all t.node_given t.world_given (fold (told a now) failed (map (λ (d : Due). d.event) t.lines)) =
      lines_stand t.lines t.node_told t.node_given t.world_told t.world_given failed (and_left (all_asked t.lines) (all_asked rest) both_asked) t.given before4 at3 in
      let at5 = each_stands all_names t.node_given t.node_heard t.world_given t.world_heard (fold (told a now) failed (map (λ (d : Due). d.event) t.lines)) t.heard at4 in
      let last = admits_stands links listens t.node_heard m t.world_heard v door door' (fold (told a now) failed (map (λ (d : Due). d.event) t.lines)) t.admits is still at5 in
      let passed : ℕ = passed_by start now in
      record {
        stands = subst (λ (lines : List Due). Stands all m v (turn a now (first_events start) lines s)) (sym (ap (due_by passed) t.parts ∙ due_first passed t.lines rest t.due t.next)) last.0;
        left = last.1;
        goes_on = sym (ap (not_due_by passed) t.parts ∙ not_due_rest passed t.lines rest t.due t.next);
        asked = and_right (all_asked t.lines) (all_asked rest) both_asked;
      }
