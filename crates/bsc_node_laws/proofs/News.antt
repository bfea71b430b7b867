-- What a node is told keeps a run's hands in agreement with the log, and may be told.
-- It serves bsc_application, bsc_node_command and bsc_node_links.
use Rattle.std.proofs.Common.{◌≡◌, ◌⊎◌, inl, inr, ℕ, Bool, true, false, not, ◌||◌, ◌&&◌, List, [], ◌∷◌, ◌++◌, Option, Some, None, is_some, refl, ap, sym, ◌∙◌, subst}
use Rattle.std.specs.List.{list_any}
use Rattle.std.proofs.lemmas.List.{append-nil}
use Rattle.bsc_initiate.specs.declared.event.InitEvent.TheVariants.{Opened as MachineOpened}
use Rattle.bsc_node.specs.declared.link_name.LinkName.{LinkName}
use Rattle.bsc_node.specs.declared.node_event.NodeEvent.{NodeEvent}
use Rattle.bsc_node.specs.declared.node_event.NodeEvent.TheVariants.{DialFailed, Lost}
use Rattle.bsc_node.specs.declared.timed_event.TimedEvent.{TimedEvent}
use Rattle.bsc_node.specs.Logs.{Line, came, initiating, Log, now, next_id}
use Rattle.bsc_node.specs.Links.{same_link, is_over_by_event, is_there, was_taken}
use Rattle.bsc_node.specs.Conditions.{has_opened, fits, is_open as is_open_in}
use Rattle.bsc_node.specs.Laws.{with_event}
use Rattle.bsc_node.proofs.Told.{same_link-self}
use Rattle.bsc_node_laws.specs.Links.{opens_at}
use Rattle.bsc_node_laws.proofs.There.{opened-other, opened-now}
use Rattle.bsc_node_run.specs.declared.news.Change.{Change}
use Rattle.bsc_node_run.specs.declared.news.Change.TheVariants.{Opened as DidOpen, DialFailed as DidntOpen, Lost as WasLost}
use Rattle.bsc_node_run.specs.declared.news.News.{News}
use Rattle.bsc_node_run.specs.Requests.{is_asked}
use Rattle.bsc_node_run.specs.Running.{IsEmpty}
use Rattle.bsc_node_run.specs.Turning.{event_of}
use Rattle.bsc_node_run.specs.Worlds.{Dialling, World, is_name, is_of, with_link, begun, ends, is_open}
use Rattle.bsc_node_laws.proofs.Agreeing.{changes_of, news_in, AgreesBy, Agrees}
use Rattle.bsc_node_laws.proofs.Same.{changes-here, changes-other, changes-none, named, stands_open, agrees_as, agrees_like}
use Rattle.bsc_node_laws.proofs.Same.{ApartIn, line-apart, agrees-alike, agrees-quiet, Apart, touches, link-here, apart-link}
use Rattle.bsc_node_laws.proofs.Carrying.{in_hand, replaces}
use Rattle.bsc_lemmas.proofs.Booleans.{and_left, and_right, not_true, or_true}
use Rattle.bsc_lemmas.proofs.Options.{found_some}
use Rattle.bsc_node.proofs.There.{there-other, there-over}

-- ---- which events end a link

-- No event for which a script may ask ends a link, and none that brings a word does.
pub asked-ends : (e : NodeEvent) → is_asked e ≡ true → (name : LinkName) → is_over_by_event name e ≡ false
asked-ends (DialFailed other) h name = cc
asked-ends (Lost other) h name = cc
asked-ends e h name = refl

-- An event that ends this link alone.
ends-apart : (name : LinkName) (M : Log) (e : TimedEvent) → ((other : LinkName) → is_over_by_event other e.event ≡ same_link name other) → ApartIn name M (M ++ came e ∷ [])
ends-apart name M e over = line-apart name M (came e) (λ other ne. refl) (λ other ne. over other ∙ ne) (λ other ne. opened-other other M (came e) refl refl)

-- That a link opens is told of it alone.
opens-apart : (name : LinkName) (M : Log) (t id : ℕ) → ApartIn name M (M ++ initiating name (MachineOpened t id) ∷ [])
opens-apart name M t id =
    let m : Line = initiating name (MachineOpened t id) in
    line-apart name M m (λ other ne. refl) (λ other ne. refl) (λ other ne. opened-other other M m refl (rw ne refl))

-- ---- one link

module _ {L : Type 0} where
  -- Of a link that isn't open yet, and of no other, it is new that it opened: then it is open.
  opens_on : (t o : Bool) (l : Option L) (cs : List Change) → AgreesBy t o l (DidOpen ∷ cs) → (t ≡ true) × AgreesBy true true l cs
  opens_on false o l cs h = cc
  opens_on true true (Some l) cs h = cc
  opens_on true true None cs h = cc
  opens_on true false (Some l) cs h = (refl, cc)
  opens_on true false None cs (inl h) = cc
  opens_on true false None cs (inr h) = (refl, cc)

  -- Where it is new that a link didn't open, or was lost, it isn't in hand, and nothing else is new of it.
  fails_on : (t o : Bool) (l : Option L) (cs : List Change) → AgreesBy t o l (DidntOpen ∷ cs) → (l ≡ None) × (cs ≡ [])
  fails_on false o l cs h = cc
  fails_on true true (Some l) cs h = cc
  fails_on true true None cs h = cc
  fails_on true false (Some l) cs h = cc
  fails_on true false None cs (inl h) = (refl, cc)
  fails_on true false None cs (inr h) = cc

  loses_on : (t o : Bool) (l : Option L) (cs : List Change) → AgreesBy t o l (WasLost ∷ cs) → (l ≡ None) × (cs ≡ [])
  loses_on false o l cs h = cc
  loses_on true true (Some l) cs h = cc
  loses_on true true None cs h = (refl, cc)
  loses_on true false (Some l) cs h = cc
  loses_on true false None cs (inl h) = cc
  loses_on true false None cs (inr h) = cc

  -- what of a link may be new: that it opened or didn't, where it is under way; that it was lost, where it is there
  dialling_on : (t k o : Bool) (l : Option L) (c : Change) (cs : List Change) → (c ≡ DidOpen) ⊎ (c ≡ DidntOpen) → AgreesBy t (k || o) l (c ∷ cs) → (t && not k && not o) ≡ true
  dialling_on false k o l c cs n h = cc
  dialling_on true true o (Some l) c cs n h = cc
  dialling_on true true o None c cs (inl n) h = cc
  dialling_on true true o None c cs (inr n) h = cc
  dialling_on true false true (Some l) c cs n h = cc
  dialling_on true false true None c cs (inl n) h = cc
  dialling_on true false true None c cs (inr n) h = cc
  dialling_on true false false l c cs n h = refl

  there_on : (t o : Bool) (l : Option L) (c : Change) (cs : List Change) → AgreesBy t o l (c ∷ cs) → t ≡ true
  there_on false o l c cs h = cc
  there_on true o l c cs h = refl

  -- A link that is in hand and of which nothing is new is open.
  open_on : (t o : Bool) (l : L) → AgreesBy t o (Some l) [] → ((t && o) ≡ true) × (t ≡ true)
  open_on false o l h = cc
  open_on true true l h = (refl, refl)
  open_on true false l h = cc

  -- ---- a turn begins

  -- What is new by now is told in it.
  pub begun_keeps : (w : World L) (M : Log) → w.due ≡ [] → Agrees w M → Agrees (begun w) M
  begun_keeps w M none A = record {
    links = λ name is. agrees_like w (begun w) M M name refl refl refl (ap (changes_of name) same) (A.links name is);
    others = A.others;
    named = ap named same ∙ A.named;
    finished = A.finished;
  }
    where
      same : w.waiting ++ [] ≡ w.due ++ w.waiting
      same = append-nil w.waiting ∙ sym (ap (λ (xs : List News). xs ++ w.waiting) none)

  -- ---- what is new

  -- of the link of the news that is told next, this is new first
  told_first : (news : News) (rest : List News) (w : World L) → w.due ≡ news ∷ rest → changes_of news.link (news_in w) ≡ news.change ∷ changes_of news.link (rest ++ w.waiting)
  told_first news rest w e = ap (λ (xs : List News). changes_of news.link (xs ++ w.waiting)) e ∙ changes-here news.link news (rest ++ w.waiting) (same_link-self news.link)

  told_named : (news : News) (rest : List News) (w : World L) (M : Log) → w.due ≡ news ∷ rest → Agrees w M → is_name news.link ≡ true
  told_named news rest w M e A = and_left (is_name news.link) (named (rest ++ w.waiting)) (sym (ap (λ (xs : List News). named (xs ++ w.waiting)) e) ∙ A.named)

  -- how the link of the news that is told next agrees, where this is new of it
  abbrev AgreesFirst : News → List News → World L → Log → Change → Type 0
  AgreesFirst news rest w M c = AgreesBy (is_there news.link M) (stands_open news.link M) (w.link news.link) (c ∷ changes_of news.link (rest ++ w.waiting))

  told_agrees : (news : News) (rest : List News) (w : World L) (M : Log) → w.due ≡ news ∷ rest → Agrees w M → AgreesFirst news rest w M news.change
  told_agrees news rest w M e A =
      subst (λ (cs : List Change). AgreesBy (is_there news.link M) (stands_open news.link M) (w.link news.link) cs)
      (told_first news rest w e) (A.links news.link (told_named news rest w M e A))

  -- What is new may be told.
  pub news_may : (news : News) (rest : List News) (w : World L) (M : Log) → w.due ≡ news ∷ rest → Agrees w M → fits M (event_of news) ≡ true
  news_may news rest w M e A = by news.change (told_agrees news rest w M e A)
    where
      by : (c : Change) → AgreesFirst news rest w M c → fits M (event_of (record { link = news.link; change = c })) ≡ true
      by DidOpen h = dialling_on (is_there news.link M) (was_taken news.link M) (has_opened news.link M) (w.link news.link) DidOpen (changes_of news.link (rest ++ w.waiting)) (inl refl) h
      by DidntOpen h = dialling_on (is_there news.link M) (was_taken news.link M) (has_opened news.link M) (w.link news.link) DidntOpen (changes_of news.link (rest ++ w.waiting)) (inr refl) h
      by WasLost h = there_on (is_there news.link M) (stands_open news.link M) (w.link news.link) WasLost (changes_of news.link (rest ++ w.waiting)) h

  apart-told : (news : News) (rest : List News) (w : World L) → w.due ≡ news ∷ rest → Apart news.link w (record w { due = rest })
  apart-told news rest w e = record {
    link = λ other ne. refl;
    nameless = λ other isnt. refl;
    changes = λ other ne. sym (ap (λ (xs : List News). changes_of other (xs ++ w.waiting)) e ∙ changes-other other news (rest ++ w.waiting) ne);
    all_named = λ h. and_right (is_name news.link) (named (rest ++ w.waiting)) (sym (ap (λ (xs : List News). named (xs ++ w.waiting)) e) ∙ h);
    finished = refl;
  }

  -- An event that ends no link leaves each as it was.
  pub event_keeps : (w : World L) (M : Log) (e : TimedEvent) → ((name : LinkName) → is_over_by_event name e.event ≡ false) → Agrees w M → Agrees w (M ++ came e ∷ [])
  event_keeps w M e over A = agrees-quiet w M (came e) (λ name. refl) over (λ name. opened-other name M (came e) refl refl) A

  -- A link of whose end the node is told isn't there any more.
  over_keeps : (name : LinkName) (w v : World L) (M : Log) (e : TimedEvent) → Apart name w v → ((other : LinkName) → is_over_by_event other e.event ≡ same_link name other)
      → (is_name name ≡ true → v.link name ≡ None) → changes_of name (news_in v) ≡ [] → Agrees w M → Agrees v (M ++ came e ∷ [])
  over_keeps name w v M e h over none quiet A =
      let N : Log = M ++ came e ∷ [] in
      touches name w v M N h (ends-apart name M e over)
      (λ is. agrees_as false (stands_open name N) None [] v N name (there-over name M (came e) refl (over name ∙ same_link-self name)) refl (none is) quiet (refl, refl)) A

  opened_keeps : (name : LinkName) (w v : World L) (M : Log) (t id : ℕ) → Apart name w v → is_there name M ≡ true → AgreesBy true true (v.link name) (changes_of name (news_in v))
      → Agrees w M → Agrees v (M ++ initiating name (MachineOpened t id) ∷ [])
  opened_keeps name w v M t id h there so A =
      let m : Line = initiating name (MachineOpened t id) in
      touches name w v M (M ++ m ∷ []) h (opens-apart name M t id)
      (λ is. agrees_as true true (v.link name) (changes_of name (news_in v)) v (M ++ m ∷ []) name (there-other name M m refl refl ∙ there)
      (ap (λ (p : Bool). was_taken name (M ++ m ∷ []) || p) (opened-now name M t id) ∙ or_true (was_taken name (M ++ m ∷ []))) refl refl so) A

  -- What is new is told, and so it isn't new any more.
  pub news_keeps : (news : News) (rest : List News) (w : World L) (M : Log) (e : TimedEvent) → e.event ≡ event_of news → w.due ≡ news ∷ rest → Agrees w M
      → Agrees (record w { due = rest }) (with_event M e ++ opens_at e.event (with_event M e))
  news_keeps news rest w M e is d A =
      subst (λ (x : NodeEvent). Agrees (record w { due = rest }) (with_event M e ++ opens_at x (with_event M e))) (sym is) (by news.change is (told_agrees news rest w M d A))
    where
      -- a link of which nothing is there any more
      over : (x : NodeEvent) → e.event ≡ x → ((other : LinkName) → is_over_by_event other x ≡ same_link news.link other)
          → (w.link news.link ≡ None) × (changes_of news.link (rest ++ w.waiting) ≡ []) → Agrees (record w { due = rest }) (with_event M e ++ [])
      over x f ends none = subst (λ (N : Log). Agrees (record w { due = rest }) N) (sym (append-nil (with_event M e)))
          (over_keeps news.link w (record w { due = rest }) M e (apart-told news rest w d) (λ other. ap (is_over_by_event other) f ∙ ends other) (λ so. none.0) none.1 A)

      by : (c : Change) → e.event ≡ event_of (record { link = news.link; change = c }) → AgreesFirst news rest w M c
          → Agrees (record w { due = rest }) (with_event M e ++ opens_at (event_of (record { link = news.link; change = c })) (with_event M e))
      by DidOpen f h =
          let cs : List Change = changes_of news.link (rest ++ w.waiting) in
          let so : (is_there news.link M ≡ true) × AgreesBy true true (w.link news.link) cs = opens_on (is_there news.link M) (stands_open news.link M) (w.link news.link) cs h in
          opened_keeps news.link w (record w { due = rest }) (with_event M e) (now (with_event M e)) (next_id (with_event M e)) (apart-told news rest w d)
          (there-other news.link M (came e) refl (ap (is_over_by_event news.link) f) ∙ so.0) so.1 (event_keeps w M e (λ name. ap (is_over_by_event name) f) A)
      by DidntOpen f h = over (DialFailed news.link) f (λ other. refl) (fails_on (is_there news.link M) (stands_open news.link M) (w.link news.link) (changes_of news.link (rest ++ w.waiting)) h)
      by WasLost f h = over (Lost news.link) f (λ other. refl) (loses_on (is_there news.link M) (stands_open news.link M) (w.link news.link) (changes_of news.link (rest ++ w.waiting)) h)

  -- ---- what comes of a link

  -- Of a link that is open nothing is new.
  open_quiet : (name : LinkName) (w : World L) → w.due ≡ [] → is_open name w ≡ true → changes_of name (news_in w) ≡ []
  open_quiet name w none h =
      ap (λ (xs : List News). changes_of name (xs ++ w.waiting)) none
      ∙ changes-none name w.waiting (not_true (list_any (is_of name) w.waiting) (and_right (is_some (w.link name)) (not (list_any (is_of name) w.waiting)) h))

  -- A link that is open in hand is open in the log.
  pub hears_may : (name : LinkName) (w : World L) (M : Log) → is_name name ≡ true → w.due ≡ [] → is_open name w ≡ true → Agrees w M
      → (is_open_in name M ≡ true) × (is_there name M ≡ true)
  hears_may name w M is none h A = by (found_some (w.link name) (and_left (is_some (w.link name)) (not (list_any (is_of name) w.waiting)) h))
    where
      by : (l : L) × (w.link name ≡ Some l) → (is_open_in name M ≡ true) × (is_there name M ≡ true)
      by (l, e) = open_on (is_there name M) (stands_open name M) l
          (subst (λ (cs : List Change). AgreesBy (is_there name M) (stands_open name M) (Some l) cs) (open_quiet name w none h) (in_hand name l w M is e A))

  -- What a link gave leaves all in agreement.
  pub hears_keeps : (name : LinkName) (k l : L) (w : World L) (M : Log) → is_name name ≡ true → w.link name ≡ Some k → Agrees w M → Agrees (with_link name (Some l) w) M
  hears_keeps name k l w M is e A = replaces name k l w M e A

  -- A link that is open may be lost.
  pub lost_keeps : (name : LinkName) (l : L) (w : World L) (M : Log) (e : TimedEvent) → e.event ≡ Lost name → is_name name ≡ true → w.due ≡ [] → is_open name w ≡ true → Agrees w M
      → Agrees (ends name l w) (M ++ came e ∷ [])
  lost_keeps name l w M e f is none h A =
      let x : World L = with_link name None w in
      agrees-alike (ends name l w) x (M ++ came e ∷ []) (record { link = λ other. refl; due = refl; waiting = refl; finished = refl })
      (over_keeps name w x M e (apart-link name None w) (λ other. ap (is_over_by_event other) f) (λ so. link-here name None w so) (open_quiet name w none h) A)

  -- ---- the first world

  pub empty_agrees : (calls : Dialling L) (text : Option (List ℕ)) (w : World L) → IsEmpty calls text w → Agrees w []
  empty_agrees calls text w E = record {
    links = λ name is. agrees_as false (stands_open name []) None [] w [] name refl refl (E.link name) (ap (changes_of name) quiet) (refl, refl);
    others = λ name isnt. E.link name;
    named = ap named quiet;
    finished = λ f. cc;
  }
    where
      quiet : w.due ++ w.waiting ≡ []
      quiet = ap (λ (xs : List News). xs ++ w.waiting) E.due ∙ E.waiting
