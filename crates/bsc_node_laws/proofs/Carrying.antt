-- Carrying out actions keeps a run's hands in agreement with the log.
-- It serves bsc_application, bsc_node_command and bsc_node_links.
use Rattle.std.proofs.Common.{◌≡◌, inl, inr, ℕ, Bool, true, false, not, ◌||◌, List, [], ◌∷◌, ◌++◌, Option, Some, None, refl, ap, sym, ◌∙◌, subst}
use Rattle.std.specs.Prelude.{filter_map}
use Rattle.std.proofs.lemmas.List.{append_assoc, append-nil}
use Rattle.std.proofs.lemmas.List.Elements.{filter-append}
use Rattle.bsc_edge.specs.declared.said.Said.{Said}
use Rattle.bsc_accept.specs.declared.closing.Closing.{Closing}
use Rattle.bsc_initiate.specs.declared.event.InitEvent.{InitEvent}
use Rattle.bsc_initiate.specs.declared.event.InitEvent.TheVariants.{Opened as MachineOpened}
use Rattle.bsc_initiate.specs.Past.{request_at}
use Rattle.bsc_node.specs.declared.link_name.LinkName.{LinkName}
use Rattle.bsc_node.specs.declared.link_name.LinkName.TheVariants.{Hub, Direct}
use Rattle.bsc_node.specs.declared.note.Note.TheVariants.{Finished}
use Rattle.bsc_node.specs.declared.action.Action.{Action}
use Rattle.bsc_node.specs.declared.action.Action.TheVariants.{Dial, Take, Refuse, Put, Close, Deliver, Tell, Draw}
use Rattle.bsc_node.specs.Logs.{Line, came, initiating, did, Log, action_of, is_finishing}
use Rattle.bsc_node.specs.Links.{same_link, begins, is_over_by, is_there, was_taken, is_in_slots, begins_in_slots}
use Rattle.bsc_node.specs.Conditions.{has_opened}
use Rattle.bsc_node.proofs.Told.{same_link-self}
use Rattle.bsc_node_laws.specs.Links.{MayStand, EachMay}
use Rattle.bsc_node_laws.proofs.There.{begins-dial, begins-take, there-begun, taken-begun, opened-begun, opened-other, opened-told}
use Rattle.bsc_node_run.specs.declared.news.Change.{Change}
use Rattle.bsc_node_run.specs.declared.news.Change.TheVariants.{Opened, DialFailed, Lost}
use Rattle.bsc_node_run.specs.declared.news.News.{News}
use Rattle.bsc_node_run.specs.Performing.{after_dial, Takes, Refuses, Puts, Closes, Does, Carries}
use Rattle.bsc_node_run.specs.Worlds.{World, Same, is_name, is_of, without, with_link, with_news, forgets}
use Rattle.bsc_node_laws.proofs.Agreeing.{changes_of, news_in, AgreesBy, Agrees}
use Rattle.bsc_node_laws.proofs.Same.{in_slots_named, changes-last_here, changes-without, stands_open, agrees_as, or_same, ApartIn, line-apart, same-log}
use Rattle.bsc_node_laws.proofs.Same.{Alike, agrees-alike, agrees-same, agrees-quiet, Apart, touches, apart-then, link-here, apart-link, apart-news, apart-forgets}
use Rattle.bsc_node.proofs.Common.{same_link-is as same_link-true}
use Rattle.bsc_node.proofs.There.{closed-gone}

-- ---- lines

dial_named : (name : LinkName) (uri : List ℕ) → begins_in_slots (did (Dial name uri)) ≡ true → is_name name ≡ true
dial_named (Hub s) uri h = refl
dial_named (Direct k) uri h = in_slots_named k h

-- What touches the link of a name alone: a line that dials it, takes it or closes it.
dial-apart : (name : LinkName) (uri : List ℕ) (M : Log) → ApartIn name M (M ++ did (Dial name uri) ∷ [])
dial-apart name uri M =
    let b : (other : LinkName) → same_link name other ≡ false → begins other (did (Dial name uri)) ≡ false = λ other ne. begins-dial other name uri ∙ ne in
    line-apart name M (did (Dial name uri)) b (λ other ne. refl) (λ other ne. opened-other other M (did (Dial name uri)) (b other ne) refl)

take-apart : (name : LinkName) (M : Log) → ApartIn name M (M ++ did (Take name) ∷ [])
take-apart name M =
    let b : (other : LinkName) → same_link name other ≡ false → begins other (did (Take name)) ≡ false = λ other ne. begins-take other name ∙ ne in
    line-apart name M (did (Take name)) b (λ other ne. refl) (λ other ne. opened-other other M (did (Take name)) (b other ne) refl)

close-apart : (name : LinkName) (c : Closing) (M : Log) → ApartIn name M (M ++ did (Close name c) ∷ [])
close-apart name c M = line-apart name M (did (Close name c)) (λ other ne. refl) (λ other ne. ne) (λ other ne. opened-other other M (did (Close name c)) refl refl)

-- A link that is dialled is there, and isn't open.
dialled_there : (name : LinkName) (uri : List ℕ) (M : Log) → is_there name (M ++ did (Dial name uri) ∷ []) ≡ true
dialled_there name uri M = there-begun name M (did (Dial name uri)) (begins-dial name name uri ∙ same_link-self name) refl

dialled_open : (name : LinkName) (uri : List ℕ) (M : Log) → stands_open name (M ++ did (Dial name uri) ∷ []) ≡ false
dialled_open name uri M = or_same (was_taken name (M ++ did (Dial name uri) ∷ [])) (has_opened name (M ++ did (Dial name uri) ∷ [])) false false
    (taken-begun name M (did (Dial name uri)) false (rw (same_link-self name) refl)) (opened-begun name M (did (Dial name uri)) (begins-dial name name uri ∙ same_link-self name))

told_none : (M : Log) (name : LinkName) (e : InitEvent) → MayStand M (initiating name e) → request_at e ≡ None
told_none M name (MachineOpened now id) may = absurd may
told_none M name e may = refl

-- ---- one link

module _ {L : Type 0} where
  -- A link of which nothing is there isn't in hand, and nothing is new of it.
  gone_on : (o : Bool) (l : Option L) (cs : List Change) (t : Bool) → t ≡ false → AgreesBy t o l cs → (l ≡ None) × (cs ≡ [])
  gone_on o l cs t e h = rw e at h

  -- A link may be replaced by another.
  replaced_on : (t o : Bool) (k l : L) (cs : List Change) → AgreesBy t o (Some k) cs → AgreesBy t o (Some l) cs
  replaced_on false o k l cs h = cc
  replaced_on true true k l cs h = h
  replaced_on true false k l cs h = h

  -- A link that is in hand may be lost, also one that is under way.
  lost_on : (t o : Bool) (l : L) (cs : List Change) → AgreesBy t o (Some l) cs → AgreesBy {L = L} t o None (cs ++ Lost ∷ [])
  lost_on false o l cs h = cc
  lost_on true true l cs h = ap (λ (xs : List Change). xs ++ Lost ∷ []) h
  lost_on true false l cs h = inr (ap (λ (xs : List Change). xs ++ Lost ∷ []) h)

  gone : (name : LinkName) (w : World L) (M : Log) → is_name name ≡ true → is_there name M ≡ false → Agrees w M → (w.link name ≡ None) × (changes_of name (news_in w) ≡ [])
  gone name w M is out A = gone_on (stands_open name M) (w.link name) (changes_of name (news_in w)) (is_there name M) out (A.links name is)

  -- the name of a link that is in hand
  pub in_hand_named : (name : LinkName) (l : L) (w : World L) (M : Log) → w.link name ≡ Some l → Agrees w M → is_name name ≡ true
  in_hand_named name l w M e A = by (is_name name) refl
    where
      by : (b : Bool) → is_name name ≡ b → b ≡ true
      by true is = refl
      by false isnt = cc (A.others name isnt)

  -- how a link that is in hand agrees
  pub in_hand : (name : LinkName) (l : L) (w : World L) (M : Log) → is_name name ≡ true → w.link name ≡ Some l → Agrees w M
      → AgreesBy (is_there name M) (stands_open name M) (Some l) (changes_of name (news_in w))
  in_hand name l w M is e A = subst (λ (x : Option L). AgreesBy (is_there name M) (stands_open name M) x (changes_of name (news_in w))) e (A.links name is)

  -- A link that is in hand is replaced by another.
  pub replaces : (name : LinkName) (k l : L) (w : World L) (M : Log) → w.link name ≡ Some k → Agrees w M → Agrees (with_link name (Some l) w) M
  replaces name k l w M e A =
      let x : World L = with_link name (Some l) w in
      let t : Bool = is_there name M in
      let o : Bool = stands_open name M in
      let cs : List Change = changes_of name (news_in w) in
      touches name w x M M (apart-link name (Some l) w) (same-log name M)
      (λ is. agrees_as t o (Some l) cs x M name refl refl (link-here name (Some l) w is) refl (replaced_on t o k l cs (in_hand name k w M is e A))) A

  -- ---- lines of what is done

  -- What is done with no beginning and no end of a link leaves each link as it was.
  pub agrees-did : (action : Action) (w : World L) (M : Log) → ((name : LinkName) → begins name (did action) ≡ false)
      → ((name : LinkName) → is_over_by name (did action) ≡ false) → Agrees w M → Agrees w (M ++ did action ∷ [])
  agrees-did action w M b o A = agrees-quiet w M (did action) b o (λ name. opened-other name M (did action) (b name) refl) A

  -- ---- a dial

  -- Where nothing was new of a link, this is new alone.
  new_alone : (name : LinkName) (change : Change) (w : World L) → changes_of name (news_in w) ≡ [] → changes_of name (news_in (with_news name change w)) ≡ change ∷ []
  new_alone name change w none =
      changes-last_here name (record { link = name; change = change }) w.due w.waiting (same_link-self name) ∙ ap (λ (cs : List Change). cs ++ change ∷ []) none

  dial_keeps : (name : LinkName) (uri : List ℕ) (w v : World L) (M : Log) → is_there name M ≡ false → is_name name ≡ true → (l : Option L)
      → Same v (record (after_dial name l w) { dialled = v.dialled }) → Agrees w M → Agrees v (M ++ did (Dial name uri) ∷ [])
  dial_keeps name uri w v M out is (Some l) s A =
      let x : World L = with_link name (Some l) w in
      let y : World L = with_news name Opened x in
      let N : Log = M ++ did (Dial name uri) ∷ [] in
      let new : changes_of name (news_in y) ≡ Opened ∷ [] = new_alone name Opened x (gone name w M is out A).1 in
      agrees-alike v y N (record { link = s.link; due = s.due; waiting = s.waiting; finished = s.finished })
      (touches name w y M N (apart-then name w x y (apart-link name (Some l) w) (apart-news name Opened x is)) (dial-apart name uri M)
      (λ so. agrees_as true false (Some l) (Opened ∷ []) y N name (dialled_there name uri M) (dialled_open name uri M) (link-here name (Some l) w is) new refl) A)
  dial_keeps name uri w v M out is None s A =
      let y : World L = with_news name DialFailed w in
      let N : Log = M ++ did (Dial name uri) ∷ [] in
      let before : (w.link name ≡ None) × (changes_of name (news_in w) ≡ []) = gone name w M is out A in
      agrees-alike v y N (record { link = s.link; due = s.due; waiting = s.waiting; finished = s.finished })
      (touches name w y M N (apart-news name DialFailed w is) (dial-apart name uri M)
      (λ so. agrees_as true false None (DialFailed ∷ []) y N name (dialled_there name uri M) (dialled_open name uri M) before.0 (new_alone name DialFailed w before.1) (inl refl)) A)

  -- ---- a close

  forgotten : (name : LinkName) (w : World L) → changes_of name (news_in (forgets name w)) ≡ []
  forgotten name w = ap (changes_of name) (sym (filter-append (λ (n : News). not (is_of name n)) w.due w.waiting)) ∙ changes-without name (w.due ++ w.waiting)

  -- A link that was closed isn't there, isn't in hand, and nothing is new of it.
  closed : (name : LinkName) (c : Closing) (w x : World L) (M : Log) → Apart name w x → (is_name name ≡ true → x.link name ≡ None) → changes_of name (news_in x) ≡ []
      → Agrees w M → Agrees x (M ++ did (Close name c) ∷ [])
  closed name c w x M h none quiet A =
      let N : Log = M ++ did (Close name c) ∷ [] in
      touches name w x M N h (close-apart name c M)
      (λ is. agrees_as false (stands_open name N) None [] x N name (closed-gone name M c) refl (none is) quiet (refl, refl)) A

  -- ---- what is told

  tell_finished : (w v : World L) (M : Log) → is_finishing M ≡ true → Alike v (record w { finished = true }) → Agrees w M → Agrees v (M ++ did (Tell Finished) ∷ [])
  tell_finished w v M end s A =
      let x : World L = record w { finished = true } in
      agrees-alike v x (M ++ did (Tell Finished) ∷ []) s (agrees-did (Tell Finished) x M (λ name. refl) (λ name. refl)
      (record { links = A.links; others = A.others; named = A.named; finished = λ f. end }))

module _ {L : Type 0} (talk : L → Option (List Said)) where
  refuses_alike : (c : Closing) (k : Option L) (w v : World L) → Refuses talk c k w v → Alike v w
  refuses_alike c None w v s = record { link = s.link; due = s.due; waiting = s.waiting; finished = s.finished }
  refuses_alike c (Some l) w v (m, g, s) = record { link = s.link; due = s.due; waiting = s.waiting; finished = s.finished }

  -- ---- a put

  put_line : (name : LinkName) (o : List ℕ) (w : World L) (M : Log) → Agrees w M → Agrees w (M ++ did (Put name o) ∷ [])
  put_line name o w M A = agrees-did (Put name o) w M (λ other. refl) (λ other. refl) A

  -- A link on which a put fails is lost: it isn't in hand, and that waits to be told behind what was new of it.
  loses : (name : LinkName) (l : L) (w : World L) (M : Log) → w.link name ≡ Some l → Agrees w M → Agrees (with_news name Lost (with_link name None w)) M
  loses name l w M e A =
      let x : World L = with_link name None w in
      let y : World L = with_news name Lost x in
      let t : Bool = is_there name M in
      let o : Bool = stands_open name M in
      let cs : List Change = changes_of name (news_in w) in
      let new : changes_of name (news_in y) ≡ cs ++ Lost ∷ [] = changes-last_here name (record { link = name; change = Lost }) w.due w.waiting (same_link-self name) in
      touches name w y M M (apart-then name w x y (apart-link name None w) (apart-news name Lost x (in_hand_named name l w M e A))) (same-log name M)
      (λ is. agrees_as t o None (cs ++ Lost ∷ []) y M name refl refl (link-here name None w is) new (lost_on t o l cs (in_hand name l w M is e A))) A

  puts_keeps : (name : LinkName) (o : List ℕ) (w v : World L) (M : Log) (k : Option L) → w.link name ≡ k → Puts talk name o k w v → Agrees w M → Agrees v (M ++ did (Put name o) ∷ [])
  puts_keeps name o w v M None e s A = agrees-same v w (M ++ did (Put name o) ∷ []) s (put_line name o w M A)
  puts_keeps name o w v M (Some l) e (m, inl p) A =
      let N : Log = M ++ did (Put name o) ∷ [] in
      agrees-same v (with_link name (Some m) w) N p.1 (replaces name l m w N e (put_line name o w M A))
  puts_keeps name o w v M (Some l) e (m, inr p) A =
      let N : Log = M ++ did (Put name o) ∷ [] in
      agrees-alike v (with_news name Lost (with_link name None w)) N (record { link = p.1.link; due = p.1.due; waiting = p.1.waiting; finished = p.1.finished })
      (loses name l w N e (put_line name o w M A))

  closes_keeps : (name : LinkName) (c : Closing) (w v : World L) (M : Log) (k : Option L) → w.link name ≡ k → Closes talk name c k w v
      → Agrees w M → Agrees v (M ++ did (Close name c) ∷ [])
  closes_keeps name c w v M None e s A =
      agrees-same v (forgets name w) (M ++ did (Close name c) ∷ []) s (closed name c w (forgets name w) M (apart-forgets name w) (λ is. e) (forgotten name w) A)
  closes_keeps name c w v M (Some l) e (m, g, s) A =
      let x : World L = forgets name w in
      agrees-alike v (with_link name None x) (M ++ did (Close name c) ∷ []) (record { link = s.link; due = s.due; waiting = s.waiting; finished = s.finished })
      (closed name c w (with_link name None x) M (apart-then name w x (with_link name None x) (apart-forgets name w) (apart-link name None x)) (λ is. link-here name None x is) (forgotten name w) A)

  -- ---- one action

  -- An action that may stand in the log keeps all links in agreement.
  pub does_keeps : (action : Action) (w v : World L) (M : Log) → MayStand M (did action) → Does talk action w v → Agrees w M → Agrees v (M ++ did action ∷ [])
  does_keeps (Dial name uri) w v M may d A = dial_keeps name uri w v M may.0 (dial_named name uri may.1) d.0 d.3 A
  does_keeps (Take name) w v M may d A = absurd may
  does_keeps (Refuse c) w v M may d A = agrees-alike v w (M ++ did (Refuse c) ∷ []) (refuses_alike c w.arrived w v d) (agrees-did (Refuse c) w M (λ name. refl) (λ name. refl) A)
  does_keeps (Put name o) w v M may d A = puts_keeps name o w v M (w.link name) refl d A
  does_keeps (Close name c) w v M may d A = closes_keeps name c w v M (w.link name) refl d A
  does_keeps (Deliver x) w v M may d A =
      agrees-alike v w (M ++ did (Deliver x) ∷ []) (record { link = d.1.link; due = d.1.due; waiting = d.1.waiting; finished = d.1.finished })
      (agrees-did (Deliver x) w M (λ name. refl) (λ name. refl) A)
  does_keeps (Tell Finished) w v M may d A = tell_finished w v M may (record { link = d.1.link; due = d.1.due; waiting = d.1.waiting; finished = d.1.finished }) A
  does_keeps (Tell note) w v M may d A =
      agrees-alike v w (M ++ did (Tell note) ∷ []) (record { link = d.1.link; due = d.1.due; waiting = d.1.waiting; finished = d.1.finished })
      (agrees-did (Tell note) w M (λ name. refl) (λ name. refl) A)
  does_keeps Draw w v M may d A = agrees-same v w (M ++ did Draw ∷ []) d (agrees-did Draw w M (λ name. refl) (λ name. refl) A)

  -- ---- lines

  -- What a machine is told leaves each link as it was, but for that its link has opened.
  initiating_keeps : (name : LinkName) (e : InitEvent) (w : World L) (M : Log) → MayStand M (initiating name e) → Agrees w M → Agrees w (M ++ initiating name e ∷ [])
  initiating_keeps name e w M may A = agrees-quiet w M (initiating name e) (λ other. refl) (λ other. refl) (λ other. by other (same_link name other) refl) A
    where
      by : (other : LinkName) (b : Bool) → same_link name other ≡ b → has_opened other (M ++ initiating name e ∷ []) ≡ has_opened other M
      by other true h = subst (λ (x : LinkName). has_opened x (M ++ initiating name e ∷ []) ≡ has_opened x M) (same_link-true name other h) (opened-told name M e (told_none M name e may))
      by other false h = opened-other other M (initiating name e) refl (rw h refl)

  on_line : (m : Line) (w : World L) (M : Log) → MayStand M m → action_of m ≡ None → Agrees w M → Agrees w (M ++ m ∷ [])
  on_line (came e) w M may none A = absurd may
  on_line (initiating name e) w M may none A = initiating_keeps name e w M may A
  on_line (did action) w M may none A = cc
  on_line m w M may none A = agrees-quiet w M m (λ name. refl) (λ name. refl) (λ name. opened-other name M m refl refl) A

  -- Lines each of which may stand where it stands: what of them is done keeps all links in agreement.
  pub carries_keeps : (lines : List Line) (w v : World L) (M : Log) → EachMay M lines → Carries talk (filter_map action_of lines) w v → Agrees w M → Agrees v (M ++ lines)
  carries_keeps [] w v M may c A = subst (λ (N : Log). Agrees v N) (sym (append-nil M)) (agrees-same v w M c A)
  carries_keeps (did action ∷ lines) w v M may c A =
      subst (λ (N : Log). Agrees v N) (append_assoc M (did action ∷ []) lines) (carries_keeps lines c.0 v (M ++ did action ∷ []) may.1 c.2 (does_keeps action w c.0 M may.0 c.1 A))
  carries_keeps (m ∷ lines) w v M may c A =
      subst (λ (N : Log). Agrees v N) (append_assoc M (m ∷ []) lines) (carries_keeps lines w v (M ++ m ∷ []) may.1 c (on_line m w M may.0 refl A))

  -- ---- what is told in a turn

  dials_due : (name : LinkName) (l : Option L) (w v : World L) → Same v (record (after_dial name l w) { dialled = v.dialled }) → v.due ≡ w.due
  dials_due name None w v s = s.due
  dials_due name (Some l) w v s = s.due

  takes_due : (name : LinkName) (k : Option L) (w v : World L) → Takes name k w v → v.due ≡ w.due
  takes_due name None w v s = s.due
  takes_due name (Some l) w v s = s.due

  puts_due : (name : LinkName) (o : List ℕ) (k : Option L) (w v : World L) → Puts talk name o k w v → v.due ≡ w.due
  puts_due name o None w v s = s.due
  puts_due name o (Some l) w v (m, inl p) = p.1.due
  puts_due name o (Some l) w v (m, inr p) = p.1.due

  closes_due : (name : LinkName) (c : Closing) (k : Option L) (w v : World L) → Closes talk name c k w v → v.due ≡ without name w.due
  closes_due name c None w v s = s.due
  closes_due name c (Some l) w v (m, g, s) = s.due

  does_due : (action : Action) (w v : World L) → Does talk action w v → w.due ≡ [] → v.due ≡ []
  does_due (Dial name uri) w v d h = dials_due name d.0 w v d.3 ∙ h
  does_due (Take name) w v d h = takes_due name w.arrived w v d ∙ h
  does_due (Refuse c) w v d h = (refuses_alike c w.arrived w v d).due ∙ h
  does_due (Put name o) w v d h = puts_due name o (w.link name) w v d ∙ h
  does_due (Close name c) w v d h = closes_due name c (w.link name) w v d ∙ ap (without name) h
  does_due (Deliver x) w v d h = d.1.due ∙ h
  does_due (Tell note) w v d h = d.1.due ∙ h
  does_due Draw w v d h = d.due ∙ h

  -- Where nothing waits to be told in this turn, nothing does after any actions.
  pub carries_due : (actions : List Action) (w v : World L) → Carries talk actions w v → w.due ≡ [] → v.due ≡ []
  carries_due [] w v c h = c.due ∙ h
  carries_due (action ∷ actions) w v c h = carries_due actions c.0 v c.2 (does_due action w c.0 c.1 h)

  -- ---- the link that arrived

  take_keeps : (name : LinkName) (l : L) (w v : World L) (M : Log) → is_there name M ≡ false → is_name name ≡ true → Takes name (Some l) w v
      → Agrees w M → Agrees v (M ++ did (Take name) ∷ [])
  take_keeps name l w v M out is s A =
      let x : World L = with_link name (Some l) w in
      let m : Line = did (Take name) in
      let N : Log = M ++ m ∷ [] in
      let there : is_there name N ≡ true = there-begun name M m (begins-take name name ∙ same_link-self name) refl in
      let taken : was_taken name N ≡ true = taken-begun name M m true (rw (same_link-self name) refl) in
      agrees-alike v x N (record { link = s.link; due = s.due; waiting = s.waiting; finished = s.finished })
      (touches name w x M N (apart-link name (Some l) w) (take-apart name M)
      (λ so. agrees_as true true (Some l) [] x N name there (ap (λ (b : Bool). b || has_opened name N) taken) (link-here name (Some l) w is) (gone name w M is out A).1 refl) A)

  -- A link that arrived is taken as that of a slot where none is there.
  pub takes_keeps : (k : ℕ) (l : L) (w v : World L) (M : Log) → w.arrived ≡ Some l → is_there (Direct k) M ≡ false → is_in_slots k ≡ true
      → Carries talk (Take (Direct k) ∷ []) w v → Agrees w M → Agrees v (M ++ did (Take (Direct k)) ∷ [])
  takes_keeps k l w v M e out slots c A =
      agrees-same v c.0 (M ++ did (Take (Direct k)) ∷ []) c.2
      (take_keeps (Direct k) l w c.0 M out (in_slots_named k slots) (subst (λ (o : Option L). Takes (Direct k) o w c.0) e c.1) A)
