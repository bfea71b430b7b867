-- What dialer and acceptor tell at the end of a run they told all the time: calls are only added, and links only leave.
-- It serves bsc_node_command.
use Rattle.std.proofs.Common.{◌≡◌, ◌≤◌, ℕ, Bool, true, false, inl, inr, List, [], ◌∷◌, ◌++◌, length, Option, Some, None, Result, Ok, Err, refl, ap, sym, ◌∙◌, subst, append_assoc, arith, unwrap_or}
use Rattle.std.proofs.lemmas.Option.{same_Some}
use Rattle.bsc_edge.specs.declared.dialled.Dialled.{Dialled}
use Rattle.bsc_edge.specs.declared.fault.LinkFault.{LinkFault}
use Rattle.bsc_edge.specs.declared.fault.LinkFault.TheVariants.{Failed, NoMemory}
use Rattle.bsc_edge.specs.declared.incoming.Incoming.{Incoming}
use Rattle.bsc_edge.specs.declared.incoming.Incoming.TheVariants.{Message, Text, Quiet, Closed}
use Rattle.bsc_edge.specs.declared.said.Said.{Said}
use Rattle.bsc_edge.specs.declared.arrived.Arrived.TheVariants.{Link, Quiet as NoLink}
use Rattle.bsc_edge.specs.Told.{Grows, Leaves}
use Rattle.bsc_accept.specs.declared.closing.Closing.{Closing}
use Rattle.bsc_node.specs.declared.link_name.LinkName.{LinkName}
use Rattle.bsc_node.specs.declared.node_event.NodeEvent.{NodeEvent}
use Rattle.bsc_node.specs.declared.node_event.NodeEvent.TheVariants.{Start, Came, CameText, Lost, Tick, Arrived}
use Rattle.bsc_node.specs.declared.action.Action.{Action}
use Rattle.bsc_node.specs.declared.action.Action.TheVariants.{Dial, Take, Refuse, Put, Close, Deliver, Tell, Draw}
use Rattle.bsc_node_run.specs.declared.due.Due.{Due}
use Rattle.bsc_node_run.specs.declared.news.News.{News}
use Rattle.bsc_node_run.specs.Worlds.{Admitting, Dialling, World, is_open, with_link, ends}
use Rattle.bsc_node_run.specs.Performing.{Takes, Refuses, Puts, Closes, Does, Carries}
use Rattle.bsc_node_run.specs.Turning.{GivesWord, Gives, GivesNews, GivesLines, GivesIn, HearsOf, HearsIf, HearsEach, Admits, Starts, Turn, draws, event_of, names as all_names}
use Rattle.bsc_node_run.specs.Running.{Turns}
use Rattle.bsc_node_run.specs.Moments.{moment}

-- What was dialled at a moment is told, and all that was dialled at last begins with it.
abbrev pub LeadsTo : List Dialled → Option (List Dialled) → Type 0
LeadsTo all o = (calls : List Dialled) × Grows o (Some all) calls

leads_back : (all : List Dialled) (o p : Option (List Dialled)) (calls : List Dialled) → Grows o p calls → LeadsTo all p → LeadsTo all o
leads_back all o None calls g (more, h) = absurd h
leads_back all None (Some q) calls g (more, h) = absurd g
leads_back all (Some p) (Some q) calls g (more, h) = (calls ++ more, h ∙ ap (λ l. l ++ more) g ∙ append_assoc p calls more)

-- What is left of the acceptor at a moment is told, and it is at least as many links as these.
abbrev pub StillLeft : {L : Type 0} → List L → Option (List L) → Type 0
StillLeft {L} links o = (left : List L) × (o ≡ Some left) × (length links ≤ length left)

module _ {L : Type 0} (talk : L → Option (List Said)) (all : List Dialled) where
  abbrev Later : World L → Type 0
  Later w = LeadsTo all w.dialled.calls

  as_before : (v w : World L) → v.dialled ≡ w.dialled → Later v → Later w
  as_before v w e h = subst (λ (d : Dialling L). LeadsTo all d.calls) e h

  -- ---- actions

  takes_back : (name : LinkName) (o : Option L) (w v : World L) → Takes name o w v → Later v → Later w
  takes_back name None w v s h = as_before v w s.dialled h
  takes_back name (Some l) w v s h = as_before v w s.dialled h

  refuses_back : (c : Closing) (o : Option L) (w v : World L) → Refuses talk c o w v → Later v → Later w
  refuses_back c None w v s h = as_before v w s.dialled h
  refuses_back c (Some l) w v (m, k, s) h = as_before v w s.dialled h

  puts_back : (name : LinkName) (b : List ℕ) (o : Option L) (w v : World L) → Puts talk name b o w v → Later v → Later w
  puts_back name b None w v s h = as_before v w s.dialled h
  puts_back name b (Some l) w v (m, inl p) h = as_before v w p.1.dialled h
  puts_back name b (Some l) w v (m, inr p) h = as_before v w p.1.dialled h

  closes_back : (name : LinkName) (c : Closing) (o : Option L) (w v : World L) → Closes talk name c o w v → Later v → Later w
  closes_back name c None w v s h = as_before v w s.dialled h
  closes_back name c (Some l) w v (m, k, s) h = as_before v w s.dialled h

  does_back : (action : Action) (w v : World L) → Does talk action w v → Later v → Later w
  does_back (Dial name uri) w v (l, g, came, s) h = leads_back all w.dialled.calls v.dialled.calls _ g h
  does_back (Take name) w v d h = takes_back name w.arrived w v d h
  does_back (Refuse c) w v d h = refuses_back c w.arrived w v d h
  does_back (Put name o) w v d h = puts_back name o (w.link name) w v d h
  does_back (Close name c) w v d h = closes_back name c (w.link name) w v d h
  does_back (Deliver d) w v (g, s) h = as_before v w s.dialled h
  does_back (Tell note) w v (g, s) h = as_before v w s.dialled h
  does_back Draw w v s h = as_before v w s.dialled h

  pub carries_back : (actions : List Action) (w v : World L) → Carries talk actions w v → Later v → Later w
  carries_back [] w v s h = as_before v w s.dialled h
  carries_back (action ∷ actions) w v (x, d, c) h = does_back action w x d (carries_back actions x v c h)

module _ {N L : Type 0} (goes : N → ℕ → NodeEvent → List Action → N → Type 0) (talk : L → Option (List Said)) (all : List Dialled) (now : ℕ) where
  abbrev Later_on : World L → Type 0
  Later_on w = LeadsTo all w.dialled.calls

  -- ---- one event

  answers_back : (b : Bool) (n m : N) (w v : World L) → GivesWord goes talk now b n w m v → Later_on v → Later_on w
  answers_back false n m w v (e, s) h = as_before talk all v w s.dialled h
  answers_back true n m w v (word, actions, b, g, c) h = carries_back talk all actions w v c h

  pub gives_back : (e : NodeEvent) (n m : N) (w v : World L) → Gives goes talk now e n w m v → Later_on v → Later_on w
  gives_back e n m w v (actions, p, x, g, c, answers) h = carries_back talk all actions w x c (answers_back (draws actions) p m x v answers h)

  -- ---- the parts of a turn

  pub news_back : (news : List News) (n m : N) (w v : World L) → GivesNews goes talk now news n w m v → Later_on v → Later_on w
  news_back [] n m w v (none, e, s) h = as_before talk all v w s.dialled h
  news_back (one ∷ more) n m w v (rest, p, x, due, g, k) h = gives_back (event_of one) n p (record w { due = rest }) x g (news_back more p m x v k h)

  pub lines_back : (lines : List Due) (n m : N) (w v : World L) → GivesLines goes talk now lines n w m v → Later_on v → Later_on w
  lines_back [] n m w v (e, s) h = as_before talk all v w s.dialled h
  lines_back (d ∷ lines) n m w v (p, x, g, k) h = gives_back d.event n p w x g (lines_back lines p m x v k h)

  in_back : (e : NodeEvent) (n m : N) (w u v : World L) → u.dialled ≡ w.dialled → GivesIn goes talk now e n u m v → Later_on v → Later_on w
  in_back e n m w u v same (x, s, g) h = as_before talk all x w (s.dialled ∙ same) (gives_back e n m x v g h)

  of_back : (name : LinkName) (l : L) (given : Result Incoming LinkFault) (n m : N) (w v : World L) → HearsOf goes talk now name l given n w m v → Later_on v → Later_on w
  of_back name l (Ok (Message o)) n m w v k h = in_back (Came name o) n m w (with_link name (Some l) w) v refl k h
  of_back name l (Ok Text) n m w v k h = in_back (CameText name) n m w (with_link name (Some l) w) v refl k h
  of_back name l (Ok Quiet) n m w v (e, s) h = as_before talk all v w s.dialled h
  of_back name l (Ok Closed) n m w v k h = in_back (Lost name) n m w (ends name l w) v refl k h
  of_back name l (Err Failed) n m w v k h = in_back (Lost name) n m w (ends name l w) v refl k h
  of_back name l (Err NoMemory) n m w v k h = absurd k

  hears_back : (name : LinkName) (b : Bool) (n m : N) (w v : World L) → HearsIf goes talk now name b n w m v → Later_on v → Later_on w
  hears_back name false n m w v (e, s) h = as_before talk all v w s.dialled h
  hears_back name true n m w v (k, l, given, is, g, heard) h = of_back name l given n m w v heard h

  pub each_back : (names : List LinkName) (n m : N) (w v : World L) → HearsEach goes talk now names n w m v → Later_on v → Later_on w
  each_back [] n m w v (e, s) h = as_before talk all v w s.dialled h
  each_back (name ∷ names) n m w v (p, x, g, k) h = hears_back name (is_open name w) n p w x g (each_back names p m x v k h)

  pub admits_back : (b : Bool) (n m : N) (w v : World L) (door door' : Admitting L) → Admits goes talk now b (moment n w door) (moment m v door') → Later_on v → Later_on w
  admits_back false n m w v door door' (e, s, k) h = as_before talk all v w s.dialled h
  admits_back true n m w v door door' (waits, inl (e, s, k)) h = as_before talk all v w s.dialled h
  admits_back true n m w v door door' (waits, inr (l, k, g)) h = gives_back Arrived n m (record w { arrived = Some l }) v g h

  starts_back : (start : Option ℕ) (n m : N) (w v : World L) → Starts goes talk now start n w m v → Later_on v → Later_on w
  starts_back None n m w v g h = gives_back Start n m w v g h
  starts_back (Some start) n m w v (e, s) h = as_before talk all v w s.dialled h

  -- ---- a turn

  pub turn_back : (start : Option ℕ) (script rest : List Due) (listens : Bool) (n m : N) (w v : World L) (door door' : Admitting L)
      → Turn goes talk now start script rest listens (moment n w door) (moment m v door') → Later_on v → Later_on w
  turn_back start script rest listens n m w v door door' t h =
      as_before talk all t.world_begun w t.begins.dialled
      (starts_back start n t.node_started t.world_begun t.world_started t.starts
      (gives_back Tick t.node_started t.node_ticked t.world_started t.world_ticked t.ticks
      (news_back t.news t.node_ticked t.node_told t.world_ticked t.world_told t.told
      (lines_back t.lines t.node_told t.node_given t.world_told t.world_given t.given
      (each_back all_names t.node_given t.node_heard t.world_given t.world_heard t.heard
      (admits_back listens t.node_heard m t.world_heard v door door' t.admits h))))))

-- ---- what is left of the acceptor

module _ {L : Type 0} (links : List L) where
  none_left : (left left' : Option (List L)) → Leaves left left' (Ok NoLink) → StillLeft links left' → StillLeft links left
  none_left left None k (ls, is, h) = cc
  none_left None (Some new) k (ls, is, h) = absurd k
  none_left (Some old) (Some new) k (ls, is, h) = (ls, sym (ap Some k) ∙ is, h)

  one_left : (l : L) (left left' : Option (List L)) → Leaves left left' (Ok (Link l)) → StillLeft links left' → StillLeft links left
  one_left l left None k (ls, is, h) = cc
  one_left l None (Some new) k (ls, is, h) = absurd k
  one_left l (Some old) (Some new) k (ls, is, h) = (l ∷ ls, ap Some (k ∙ ap (λ (xs : List L). l ∷ xs) (same_Some new ls is)), omega (arith, h))

module _ {N L : Type 0} (goes : N → ℕ → NodeEvent → List Action → N → Type 0) (talk : L → Option (List Said)) where
  pub admits_left : (links : List L) (now : ℕ) (b : Bool) (n m : N) (w v : World L) (door door' : Admitting L)
      → Admits goes talk now b (moment n w door) (moment m v door') → StillLeft links door'.left → StillLeft links door.left
  admits_left links now false n m w v door door' (e, s, k) h = subst (λ (d : Admitting L). StillLeft links d.left) k h
  admits_left links now true n m w v door door' (waits, inl (e, s, k)) h = none_left links door.left door'.left k.0 h
  admits_left links now true n m w v door door' (waits, inr (l, k, g)) h = one_left links l door.left door'.left k.0 h

  -- ---- turns

  pub turns_back : (all : List Dialled) (listens : Bool) (times : List ℕ) (start : Option ℕ) (script : List Due) (n m : N) (w v : World L) (door door' : Admitting L)
      → Turns goes talk listens times start script (moment n w door) (moment m v door') → LeadsTo all v.dialled.calls → LeadsTo all w.dialled.calls
  turns_back all listens [] start script n m w v door door' (e, s, k) h = as_before talk all v w s.dialled h
  turns_back all listens (now ∷ times) start script n m w v door door' (rest, p, x, mid, going, t, k) h =
      turn_back goes talk all now start script rest listens n p w x door mid t (turns_back all listens times (Some (unwrap_or start now)) rest p m x v mid door' k h)

  pub turns_left : (links : List L) (listens : Bool) (times : List ℕ) (start : Option ℕ) (script : List Due) (n m : N) (w v : World L) (door door' : Admitting L)
      → Turns goes talk listens times start script (moment n w door) (moment m v door') → StillLeft links door'.left → StillLeft links door.left
  turns_left links listens [] start script n m w v door door' (e, s, k) h = subst (λ (d : Admitting L). StillLeft links d.left) k h
  turns_left links listens (now ∷ times) start script n m w v door door' (rest, p, x, mid, going, t, k) h =
      admits_left links now listens t.node_heard p t.world_heard x door mid t.admits (turns_left links listens times (Some (unwrap_or start now)) rest p m x v mid door' k h)
