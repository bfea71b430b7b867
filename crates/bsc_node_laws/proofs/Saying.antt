-- What a run has written and dialled is what its node told, delivered and dialled, by its log; and a run that ended since
-- the node told that it has ended has that in its log.
-- It serves bsc_application, bsc_node_command and bsc_node_links.
use Rattle.std.proofs.Common.{◌≡◌, ℕ, Bool, true, false, ◌||◌, inl, inr, List, [], ◌∷◌, ◌++◌, Option, Some, None, Result, Ok, Err, refl, ap, sym, ◌∙◌, subst, unwrap_or}
use Rattle.std.specs.Prelude.{map, filter_map}
use Rattle.std.specs.Io.KnownBytes.{Appends}
use Rattle.std.specs.List.{concat, list_any}
use Rattle.std.proofs.KnownBytes.{Appends-nil, Appends-trans}
use Rattle.std.proofs.lemmas.List.{append_assoc, append-nil, map-append}
use Rattle.std.proofs.lemmas.List.Elements.{filter_map-append}
use Rattle.std.proofs.lemmas.List.Folds.{concat-append, list_any-append}
use Rattle.bsc_edge.specs.declared.dialled.Dialled.{Dialled}
use Rattle.bsc_edge.specs.declared.fault.LinkFault.{LinkFault}
use Rattle.bsc_edge.specs.declared.fault.LinkFault.TheVariants.{Failed, NoMemory}
use Rattle.bsc_edge.specs.declared.incoming.Incoming.{Incoming}
use Rattle.bsc_edge.specs.declared.incoming.Incoming.TheVariants.{Message, Text, Quiet, Closed}
use Rattle.bsc_edge.specs.declared.said.Said.{Said}
use Rattle.bsc_edge.specs.Told.{Grows}
use Rattle.bsc_edge.proofs.Common.{grows_none, grows_then}
use Rattle.bsc_accept.specs.declared.closing.Closing.{Closing}
use Rattle.bsc_node.specs.declared.link_name.LinkName.{LinkName}
use Rattle.bsc_node.specs.declared.node_event.NodeEvent.{NodeEvent}
use Rattle.bsc_node.specs.declared.node_event.NodeEvent.TheVariants.{Start, Arrived, Came, CameText, Lost, Tick}
use Rattle.bsc_node.specs.declared.action.Action.{Action}
use Rattle.bsc_node.specs.declared.action.Action.TheVariants.{Dial, Take, Refuse, Put, Close, Deliver, Tell, Draw}
use Rattle.bsc_node.specs.Logs.{Made, Line, Log, action_of}
use Rattle.bsc_node.specs.Node.{goes_on}
use Rattle.bsc_node_run.specs.declared.due.Due.{Due}
use Rattle.bsc_node_run.specs.declared.news.News.{News}
use Rattle.bsc_node_run.specs.declared.run_end.RunEnd.{RunEnd}
use Rattle.bsc_node_run.specs.declared.run_end.RunEnd.TheVariants.{Finished as HasFinished, Spent}
use Rattle.bsc_node_run.specs.Lines.{delivered_line, note_line}
use Rattle.bsc_node_run.specs.Performing.{Carries, Does, Closes, Puts, Refuses, Takes, after_dial, is_end}
use Rattle.bsc_node_run.specs.Running.{Run, Turns, EndsSo}
use Rattle.bsc_node_run.specs.Turning.{Admits, GivesWord, Gives, GivesIn, GivesLines, GivesNews, HearsEach, HearsIf, HearsOf, Starts, Turn, draws, event_of, names}
use Rattle.bsc_node_run.specs.Worlds.{Admitting, Dialling, World, Same, begun, ends, is_open, with_link}
use Rattle.bsc_node_run.specs.Moments.{moment, run_moment}
use Rattle.bsc_node_laws.specs.Courses.{GoesAsDefined}
use Rattle.bsc_node_laws.specs.Said.{AreDialled, EndsAsTold, IsSaid, done_in, line_by, tells_end, uri_by}
use Rattle.bsc_lemmas.proofs.Booleans.{or_false as or_none}

-- ---- what is written and dialled between two moments

pub none_written : (h k : Option (List ℕ)) → k ≡ h → Appends h k []
none_written h k e = subst (λ (o : Option (List ℕ)). Appends h o []) (sym e) (Appends-nil h)

none_dialled : (c d : Option (List Dialled)) → d ≡ c → AreDialled c d []
none_dialled c d e = ([], subst (λ (o : Option (List Dialled)). Grows c o []) (sym e) (grows_none c), refl)

both_written : (xs ys : List Action) (h k l : Option (List ℕ))
    → Appends h k (concat (map line_by xs)) → Appends k l (concat (map line_by ys)) → Appends h l (concat (map line_by (xs ++ ys)))
both_written xs ys h k l a b =
    subst (Appends h l) (sym (ap concat (map-append line_by xs ys) ∙ concat-append (map line_by xs) (map line_by ys)))
    (Appends-trans h k l (concat (map line_by xs)) (concat (map line_by ys)) a b)

both_dialled : (xs ys : List Action) (c d e : Option (List Dialled))
    → AreDialled c d (filter_map uri_by xs) → AreDialled d e (filter_map uri_by ys) → AreDialled c e (filter_map uri_by (xs ++ ys))
both_dialled xs ys c d e (cs, g, is) (ds, h, are) = (
  cs ++ ds,
  grows_then c d e cs ds g h,
  map-append (λ (x : Dialled). x.uri) cs ds ∙ ap (λ (us : List (List ℕ)). us ++ map (λ (x : Dialled). x.uri) ds) is
      ∙ ap (λ (us : List (List ℕ)). filter_map uri_by xs ++ us) are ∙ sym (filter_map-append uri_by xs ys),
)

or_later : (p q r : Bool) → (q || (p || r)) ≡ ((p || q) || r)
or_later true true r = refl
or_later true false r = refl
or_later false true r = refl
or_later false false r = refl

module _ {L : Type 0} where
  -- What these actions say was written and dialled, and that the node has ended was told by them or before.
  abbrev pub SaysIn : List Action → World L → World L → Type 0
  SaysIn actions w v = Appends w.held v.held (concat (map line_by actions)) × AreDialled w.dialled.calls v.dialled.calls (filter_map uri_by actions)
      × (v.finished ≡ (list_any tells_end actions || w.finished))

  -- The same was written, dialled and told of the end as before.
  abbrev pub Still : World L → World L → Type 0
  Still w v = (v.held ≡ w.held) × (v.dialled ≡ w.dialled) × (v.finished ≡ w.finished)

  pub still-same : (w v : World L) → Same v w → Still w v
  still-same w v s = (s.held, s.dialled, s.finished)

  says-none : (w v : World L) → Still w v → SaysIn [] w v
  says-none w v e = (none_written w.held v.held e.0, none_dialled w.dialled.calls v.dialled.calls (ap (λ (d : Dialling L). d.calls) e.1), e.2)

  says-then : (xs ys : List Action) (w x v : World L) → SaysIn xs w x → SaysIn ys x v → SaysIn (xs ++ ys) w v
  says-then xs ys w x v a b = (
    both_written xs ys w.held x.held v.held a.0 b.0,
    both_dialled xs ys w.dialled.calls x.dialled.calls v.dialled.calls a.1 b.1,
    b.2 ∙ ap (λ (p : Bool). list_any tells_end ys || p) a.2 ∙ or_later (list_any tells_end xs) (list_any tells_end ys) w.finished
        ∙ ap (λ (p : Bool). p || w.finished) (sym (list_any-append tells_end xs ys)),
  )

  -- ---- each action

  dials-still : (name : LinkName) (l : Option L) (w v : World L) → Same v (record (after_dial name l w) { dialled = v.dialled }) → (v.held ≡ w.held) × (v.finished ≡ w.finished)
  dials-still name None w v s = (s.held, s.finished)
  dials-still name (Some l) w v s = (s.held, s.finished)

  takes-still : (name : LinkName) (l : Option L) (w v : World L) → Takes name l w v → Still w v
  takes-still name None w v s = still-same w v s
  takes-still name (Some l) w v s = (s.held, s.dialled, s.finished)

module _ {L : Type 0} (talk : L → Option (List Said)) where
  refuses-still : (c : Closing) (l : Option L) (w v : World L) → Refuses talk c l w v → Still w v
  refuses-still c None w v s = still-same w v s
  refuses-still c (Some l) w v (m, closed, s) = (s.held, s.dialled, s.finished)

  puts-still : (name : LinkName) (o : List ℕ) (l : Option L) (w v : World L) → Puts talk name o l w v → Still w v
  puts-still name o None w v s = still-same w v s
  puts-still name o (Some l) w v (m, inl (g, s)) = (s.held, s.dialled, s.finished)
  puts-still name o (Some l) w v (m, inr (g, s)) = (s.held, s.dialled, s.finished)

  closes-still : (name : LinkName) (c : Closing) (l : Option L) (w v : World L) → Closes talk name c l w v → Still w v
  closes-still name c None w v s = (s.held, s.dialled, s.finished)
  closes-still name c (Some l) w v (m, closed, s) = (s.held, s.dialled, s.finished)

  does-says : (action : Action) (w v : World L) → Does talk action w v → SaysIn (action ∷ []) w v
  does-says (Dial name uri) w v (l, g, came, s) =
      let e = dials-still name l w v s in
      (none_written w.held v.held e.0, (_ ∷ [], g, refl), e.1)
  does-says (Take name) w v d = says-none w v (takes-still name w.arrived w v d)
  does-says (Refuse c) w v d = says-none w v (refuses-still c w.arrived w v d)
  does-says (Put name o) w v d = says-none w v (puts-still name o (w.link name) w v d)
  does-says (Close name c) w v d = says-none w v (closes-still name c (w.link name) w v d)
  does-says (Deliver d) w v (a, s) = (
    subst (Appends w.held v.held) (sym (append-nil (delivered_line d))) a,
    none_dialled w.dialled.calls v.dialled.calls (ap (λ (d : Dialling L). d.calls) s.dialled),
    s.finished,
  )
  does-says (Tell note) w v (a, s) = (
    subst (Appends w.held v.held) (sym (append-nil (note_line note))) a,
    none_dialled w.dialled.calls v.dialled.calls (ap (λ (d : Dialling L). d.calls) s.dialled),
    s.finished
        ∙ ap (λ (p : Bool). p || w.finished) (sym (or_none (is_end note))),
  )
  does-says Draw w v s = says-none w v (still-same w v s)

  -- What is carried out says what its actions say.
  pub carries-says : (actions : List Action) (w v : World L) → Carries talk actions w v → SaysIn actions w v
  carries-says [] w v s = says-none w v (still-same w v s)
  carries-says (x ∷ xs) w v (m, d, c) = says-then (x ∷ []) xs w m v (does-says x w m d) (carries-says xs m v c)

-- ---- between two logs

module _ {L : Type 0} where
  -- The second log is the first and some lines more, and what the actions of these say was written and dialled.
  abbrev pub SaysBetween : Log → World L → Log → World L → Type 0
  SaysBetween M w N v = (lines : List Line) × (N ≡ M ++ lines) × SaysIn (filter_map action_of lines) w v

  pub between-none : (M : Log) (w : World L) (N : Log) (v : World L) → N ≡ M → Still w v → SaysBetween M w N v
  between-none M w N v e s = ([], e ∙ sym (append-nil M), says-none w v s)

  pub between-then : (M : Log) (w : World L) (P : Log) (x : World L) (N : Log) (v : World L) → SaysBetween M w P x → SaysBetween P x N v → SaysBetween M w N v
  between-then M w P x N v (ls, e, a) (ks, f, b) = (
    ls ++ ks,
    f ∙ ap (λ (K : Log). K ++ ks) e ∙ append_assoc M ls ks,
    subst (λ (xs : List Action). SaysIn xs w v) (sym (filter_map-append action_of ls ks)) (says-then (filter_map action_of ls) (filter_map action_of ks) w x v a b),
  )

  -- The world in which it begins may have more links, or others.
  pub between-from : (M : Log) (w x : World L) (N : Log) (v : World L) → Still w x → SaysBetween M x N v → SaysBetween M w N v
  between-from M w x N v s b = between-then M w M x N v (between-none M w M x refl s) b

-- ---- a turn

module _ {L : Type 0} (a : Made) (talk : L → Option (List Said)) (now : ℕ) where
  pub goes-between : (e : NodeEvent) (actions : List Action) (M : Log) (w : World L) (N : Log) (v : World L) → GoesAsDefined a M now e actions N → Carries talk actions w v → SaysBetween M w N v
  goes-between e actions M w N v (may, are, on) c =
      (goes_on a (record { now = now; event = e }) M, on, subst (λ (xs : List Action). SaysIn xs w v) are (carries-says talk actions w v c))

  answers-between : (drawn : Bool) (M : Log) (w : World L) (N : Log) (v : World L) → GivesWord (GoesAsDefined a) talk now drawn M w N v → SaysBetween M w N v
  answers-between false M w N v (e, s) = between-none M w N v e (still-same w v s)
  answers-between true M w N v (word, actions, brings, g, c) = goes-between word actions M w N v g c

  pub gives-between : (e : NodeEvent) (M : Log) (w : World L) (N : Log) (v : World L) → Gives (GoesAsDefined a) talk now e M w N v → SaysBetween M w N v
  gives-between e M w N v (actions, P, x, g, c, answer) =
      between-then M w P x N v (goes-between e actions M w P x g c) (answers-between (draws actions) P x N v answer)

  pub news-between : (news : List News) (M : Log) (w : World L) (N : Log) (v : World L) → GivesNews (GoesAsDefined a) talk now news M w N v → SaysBetween M w N v
  news-between [] M w N v (none, e, s) = between-none M w N v e (still-same w v s)
  news-between (n ∷ news) M w N v (rest, P, x, is, g, later) =
      between-then M w P x N v (gives-between (event_of n) M (record w { due = rest }) P x g) (news-between news P x N v later)

  pub lines-between : (lines : List Due) (M : Log) (w : World L) (N : Log) (v : World L) → GivesLines (GoesAsDefined a) talk now lines M w N v → SaysBetween M w N v
  lines-between [] M w N v (e, s) = between-none M w N v e (still-same w v s)
  lines-between (d ∷ lines) M w N v (P, x, g, later) = between-then M w P x N v (gives-between d.event M w P x g) (lines-between lines P x N v later)

  given-between : (e : NodeEvent) (M : Log) (w : World L) (N : Log) (v : World L) → GivesIn (GoesAsDefined a) talk now e M w N v → SaysBetween M w N v
  given-between e M w N v (x, s, g) = between-from M w x N v (still-same w x s) (gives-between e M x N v g)

  heard-between : (name : LinkName) (l : L) (given : Result Incoming LinkFault) (M : Log) (w : World L) (N : Log) (v : World L)
      → HearsOf (GoesAsDefined a) talk now name l given M w N v → SaysBetween M w N v
  heard-between name l (Ok (Message o)) M w N v g = given-between (Came name o) M (with_link name (Some l) w) N v g
  heard-between name l (Ok Text) M w N v g = given-between (CameText name) M (with_link name (Some l) w) N v g
  heard-between name l (Ok Quiet) M w N v (e, s) = between-none M w N v e (still-same (with_link name (Some l) w) v s)
  heard-between name l (Ok Closed) M w N v g = given-between (Lost name) M (ends name l w) N v g
  heard-between name l (Err Failed) M w N v g = given-between (Lost name) M (ends name l w) N v g
  heard-between name l (Err NoMemory) M w N v g = absurd g

  pub hears-between : (name : LinkName) (opened : Bool) (M : Log) (w : World L) (N : Log) (v : World L) → HearsIf (GoesAsDefined a) talk now name opened M w N v → SaysBetween M w N v
  hears-between name false M w N v (e, s) = between-none M w N v e (still-same w v s)
  hears-between name true M w N v (k, l, given, is, grows, h) = heard-between name l given M w N v h

  pub each-between : (all : List LinkName) (M : Log) (w : World L) (N : Log) (v : World L) → HearsEach (GoesAsDefined a) talk now all M w N v → SaysBetween M w N v
  each-between [] M w N v (e, s) = between-none M w N v e (still-same w v s)
  each-between (name ∷ all) M w N v (P, x, h, later) = between-then M w P x N v (hears-between name (is_open name w) M w P x h) (each-between all P x N v later)

  admits-between : (listens : Bool) (M : Log) (w : World L) (door : Admitting L) (N : Log) (v : World L) (door' : Admitting L)
      → Admits (GoesAsDefined a) talk now listens (moment M w door) (moment N v door') → SaysBetween M w N v
  admits-between false M w door N v door' (e, s, same) = between-none M w N v e (still-same w v s)
  admits-between true M w door N v door' (waits, inl (e, s, none)) = between-none M w N v e (still-same w v s)
  admits-between true M w door N v door' (waits, inr (l, leaves, g)) = gives-between Arrived M (record w { arrived = Some l }) N v g

  pub starts-between : (start : Option ℕ) (M : Log) (w : World L) (N : Log) (v : World L) → Starts (GoesAsDefined a) talk now start M w N v → SaysBetween M w N v
  starts-between None M w N v g = gives-between Start M w N v g
  starts-between (Some start) M w N v (e, s) = between-none M w N v e (still-same w v s)

  pub turn-between : (start : Option ℕ) (script rest : List Due) (listens : Bool) (M : Log) (w : World L) (door : Admitting L) (N : Log) (v : World L) (door' : Admitting L)
      → Turn (GoesAsDefined a) talk now start script rest listens (moment M w door) (moment N v door') → SaysBetween M w N v
  turn-between start script rest listens M w door N v door' t =
      between-from M w t.world_begun N v (still-same (begun w) t.world_begun t.begins)
      (between-then M t.world_begun t.node_started t.world_started N v (starts-between start M t.world_begun t.node_started t.world_started t.starts)
      (between-then t.node_started t.world_started t.node_ticked t.world_ticked N v (gives-between Tick t.node_started t.world_started t.node_ticked t.world_ticked t.ticks)
      (between-then t.node_ticked t.world_ticked t.node_told t.world_told N v (news-between t.news t.node_ticked t.world_ticked t.node_told t.world_told t.told)
      (between-then t.node_told t.world_told t.node_given t.world_given N v (lines-between t.lines t.node_told t.world_told t.node_given t.world_given t.given)
      (between-then t.node_given t.world_given t.node_heard t.world_heard N v (each-between names t.node_given t.world_given t.node_heard t.world_heard t.heard)
      (admits-between listens t.node_heard t.world_heard door N v door' t.admits))))))

-- ---- a run

module _ {L : Type 0} (a : Made) (talk : L → Option (List Said)) (listens : Bool) where
  turns-between : (times : List ℕ) (start : Option ℕ) (script : List Due) (M : Log) (w : World L) (door : Admitting L) (N : Log) (v : World L) (door' : Admitting L)
      → Turns (GoesAsDefined a) talk listens times start script (moment M w door) (moment N v door') → SaysBetween M w N v
  turns-between [] start script M w door N v door' (e, s, same) = between-none M w N v e (still-same w v s)
  turns-between (now ∷ times) start script M w door N v door' (rest, P, x, mid, going, t, later) =
      between-then M w P x N v (turn-between a talk now start script rest listens M w door P x mid t)
      (turns-between times (Some (unwrap_or start now)) rest P x mid N v door' later)

  -- What the whole log of a run says.
  ran : (end : RunEnd) (turns : ℕ) (script : List Due) (c c' : Dialling L) (b b' : Option (List ℕ)) (l l' : Admitting L) (t t' : Option (List ℕ)) (M : Log)
      → (r : Run (GoesAsDefined a) talk listens end turns script (run_moment [] c b l t) (run_moment M c' b' l' t')) → SaysIn (done_in M) r.first r.last
  ran end turns script c c' b b' l l' t t' M r =
      let s = turns-between r.times None script [] r.first l M r.last l' r.went in
      subst (λ (N : Log). SaysIn (done_in N) r.first r.last) (sym s.1) s.2

  -- What a run has written and dialled is what its node told, delivered and dialled, by its log.
  pub said : (end : RunEnd) (turns : ℕ) (script : List Due) (c c' : Dialling L) (b b' : Option (List ℕ)) (l l' : Admitting L) (t t' : Option (List ℕ)) (M : Log)
      → Run (GoesAsDefined a) talk listens end turns script (run_moment [] c b l t) (run_moment M c' b' l' t') → IsSaid M c.calls c'.calls b b'
  said end turns script c c' b b' l l' t t' M r =
      let s = ran end turns script c c' b b' l l' t t' M r in
      record {
        written = rw (← r.empty.held, ← r.holds) s.0;
        calls = rw (← r.empty.dialled, ← r.dials) s.1;
      }

  -- A run is finished where its node told that it has ended, and spent where it didn't.
  pub ends_as_told : (end : RunEnd) (turns : ℕ) (script : List Due) (c c' : Dialling L) (b b' : Option (List ℕ)) (l l' : Admitting L) (t t' : Option (List ℕ)) (M : Log)
      → Run (GoesAsDefined a) talk listens end turns script (run_moment [] c b l t) (run_moment M c' b' l' t') → EndsAsTold end M
  ends_as_told end turns script c c' b b' l l' t t' M r = by end r.ends
    where
      told : list_any tells_end (done_in M) ≡ r.last.finished
      told =
          sym (or_none (list_any tells_end (done_in M))) ∙ ap (λ (p : Bool). list_any tells_end (done_in M) || p) (sym r.empty.finished)
          ∙ sym (ran end turns script c c' b b' l l' t t' M r).2

      by : (e : RunEnd) → EndsSo e turns r.times r.last.finished → EndsAsTold e M
      by HasFinished e = told ∙ e
      by Spent e = told ∙ e.1
