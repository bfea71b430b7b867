-- The links of a run that a fault stopped: all are let go then, and the lines of the log that weren't done let none come.
-- It serves the clauses of `stopped_runs_have_logs` and `stopped_scripts_have_logs`.
use Rattle.std.proofs.Common.{◌≡◌, inl, inr, ℕ, ◌+◌, Bool, true, false, List, [], ◌∷◌, ◌++◌, length, length-append, Option, Some, None, Result, Ok, Err, refl, ap, sym, subst, ◌∙◌}
use Rattle.std.proofs.Common.{append-nil, append_assoc}
use Rattle.std.specs.Prelude.{filter_map, option_to_list, slice_get}
use Rattle.std.specs.List.{list_any}
use Rattle.bsc_accept.specs.declared.closing.Closing.{Closing}
use Rattle.bsc_accept.specs.declared.reason.Reason.TheVariants.{TableFull}
use Rattle.bsc_accept.specs.Steps.{closing}
use Rattle.bsc_direct.specs.declared.call.SlotCall.TheVariants.{Claim}
use Rattle.bsc_edge.specs.declared.dialled.Dialled.{Dialled}
use Rattle.bsc_edge.specs.declared.fault.LinkFault.{LinkFault}
use Rattle.bsc_edge.specs.declared.fault.LinkFault.TheVariants.{NoMemory}
use Rattle.bsc_edge.specs.declared.said.Said.{Said}
use Rattle.bsc_edge.specs.declared.said.Said.TheVariants.{Put as SaidPut}
use Rattle.bsc_edge.specs.Dialling.{dialled, made_in, Takes as LeavesBehind}
use Rattle.bsc_edge.specs.Told.{Grows}
use Rattle.bsc_edge.proofs.Common.{grows_none}
use Rattle.bsc_node.specs.declared.link_name.LinkName.{LinkName}
use Rattle.bsc_node.specs.declared.link_name.LinkName.TheVariants.{Direct}
use Rattle.bsc_node.specs.declared.node_event.NodeEvent.TheVariants.{Arrived}
use Rattle.bsc_node.specs.declared.timed_event.TimedEvent.{TimedEvent}
use Rattle.bsc_node.specs.declared.action.Action.{Action}
use Rattle.bsc_node.specs.declared.action.Action.TheVariants.{Dial, Take, Refuse, Put, Close, Deliver, Tell, Draw}
use Rattle.bsc_node.specs.Links.{begins, is_there}
use Rattle.bsc_node.specs.Laws.{with_event}
use Rattle.bsc_node.specs.Logs.{Made, Line, came, initiating, accepting, connector, slot, resolution, did, Log, action_of}
use Rattle.bsc_node.specs.Node.{goes_on, actions_at}
use Rattle.bsc_node.proofs.Told.{same_link-self}
use Rattle.bsc_node_laws.specs.Links.{Admits as AdmitsIn, EachMay, LogGoesOn, MayStand, opens_at}
use Rattle.bsc_node_laws.proofs.Agreeing.{Agrees}
use Rattle.bsc_node_laws.proofs.Carrying.{carries_keeps, does_keeps, in_hand_named}
use Rattle.bsc_node_laws.proofs.Drawn.{seam}
use Rattle.bsc_node_laws.proofs.Lifting.{at}
use Rattle.bsc_node_laws.proofs.Same.{apart-link, link-here}
use Rattle.bsc_node_laws.proofs.There.{begins-dial}
use Rattle.bsc_node_laws.proofs.Turning.{no_true}
use Rattle.bsc_node_run.specs.declared.news.Change.TheVariants.{Lost}
use Rattle.bsc_node_run.specs.Performing.{kind_of}
use Rattle.bsc_node_run.specs.Stopping.{Breaks, ClosesPart, DoesPart, IsOut, PutsPart, RefusesPart, with_dialled}
use Rattle.bsc_node_run.specs.Worlds.{Admitting, Dialling, World, Same, ends, forgets, is_name, with_news}
use Rattle.bsc_node_links.specs.Coming.{EachTaken, HasDialled, IsTakenBy, LeftBy, by_lines, dialled_by, link_by}
use Rattle.bsc_node_links.specs.Lives.{LinkLife, given_by, given_over, lines_since, put_by, put_over}
use Rattle.bsc_node_links.specs.Stopped.{HasDialledFirst, LinksAreUsedFirst}
use Rattle.bsc_node_links.specs.Using.{HasUse, LinksAreUsed, Outside}
use Rattle.bsc_node_links.proofs.Using.{Admitted, EachStands, HasArrived, StandsBy, StandsSo, Uses, arrived_more, carries_none, closes_uses, dial_named, does_uses, lines_more}
use Rattle.bsc_node_links.proofs.Using.{more_put, new_link, none_in_hand, puts_uses, quiet, same_self, says, so, step_each, still, taken_more, touch, uncalled, used, uses_alike}
use Rattle.bsc_node_links.proofs.Walking.{opened_use, opens_do_nothing}

-- ---- a link that came, and was let go at once

unused : {L : Type 0} (talk : L → Option (List Said)) (l : L) → HasUse talk (Some l) [] []
unused talk l = (l, record { T = []; grows = grows_none (talk l); gave = refl; took = ([], refl) })

-- a dialer that was called at all lines that dial
pub all_called : {L : Type 0} (d e : Dialling L) (M : Log) (K : List (Option L)) → HasDialled d e M K → HasDialledFirst d e M K
all_called d e M K h = record { called = by_lines dialled_by M K; uncalled = []; parts = sym (append-nil (by_lines dialled_by M K)); calls = h.calls; left = h.left; came = h.came }

-- links that were used as the log of a whole run says
pub used_first : {L : Type 0} (talk : L → Option (List Said)) (before after : Outside L) (M : Log) → LinksAreUsed talk before after M → LinksAreUsedFirst talk before after M
used_first talk before after M u = record {
  links = u.links;
  each = u.each;
  dialled = all_called before.dialled after.dialled M u.links u.dialled;
  arrived = u.arrived;
  taken = u.taken;
  used = u.used;
}

module _ {L : Type 0} (talk : L → Option (List Said)) (d : Dialling L) (first door : Admitting L) where
  -- ---- once all are let go

  -- a world in which no link is in hand
  abbrev bare : Dialling L → Option L → World L
  bare e o = record { link = λ name. None; arrived = o; over = []; due = []; waiting = []; finished = false; dialled = e; held = None }

  -- Each link that began, by these links that came, was let go; and the dialer was called at the first lines alone.
  abbrev pub Gone : Dialling L → Option L → Log → Type 0
  Gone e o M = (K : List (Option L)) × (length K ≡ length M) × HasDialledFirst d e M K × HasArrived first door o M K × EachTaken M K × EachStands talk d first door K (bare e o) M

  pub gone_of : (w : World L) (M : Log) → Uses talk d first door w M → Gone w.dialled w.arrived M
  gone_of w M (K, long, dials, arrived, t, u) =
      (K, long, all_called d w.dialled M K dials, arrived, t, λ x begun. by x (slice_get K x.began) (list_any (begins x.name) (lines_since M x)) (u x begun))
    where
      by : (x : LinkLife) (z : Option (Option L)) (b : Bool) → StandsBy talk z b (w.link x.name) (given_over M x) (put_over M x) → StandsBy talk z b None (given_over M x) (put_over M x)
      by x z true s = s
      by x z false s = used talk z (w.link x.name) (given_over M x) (put_over M x) s

  -- Where none has arrived.
  pub gone_none : (w : World L) (M : Log) → w.arrived ≡ None → Uses talk d first door w M → Gone w.dialled None M
  gone_none w M none u = subst (λ (o : Option L). Gone w.dialled o M) none (gone_of w M u)

  -- ---- lines that weren't done

  first_more : (e : Dialling L) (M : Log) (K : List (Option L)) (m : Line) (c : Option L) → length K ≡ length M → link_by m c ≡ [] → HasDialledFirst d e M K
      → HasDialledFirst d e (M ++ m ∷ []) (K ++ c ∷ [])
  first_more e M K m c long none h = record {
    called = h.called;
    uncalled = h.uncalled ++ dialled_by m c;
    parts = sym (lines_more dialled_by M K m c long) ∙ ap (λ (l : List Dialled). l ++ dialled_by m c) h.parts ∙ append_assoc h.called h.uncalled (dialled_by m c);
    calls = h.calls;
    left = subst (LeftBy d.left e.left) same h.left;
    came = subst (Grows d.came e.came) same h.came;
  }
    where
      same : by_lines link_by M K ≡ by_lines link_by (M ++ m ∷ []) (K ++ c ∷ [])
      same = sym (append-nil (by_lines link_by M K)) ∙ ap (λ (l : List L). by_lines link_by M K ++ l) (sym none) ∙ lines_more link_by M K m c long

  -- One line more, by which no link was dialled, and nothing was given.
  pub gone_more : (e : Dialling L) (o p : Option L) (M : Log) (m : Line) (c : Option L) → link_by m c ≡ [] → Admitted m c o p → IsTakenBy m c
      → ((name : LinkName) → given_by name m ≡ []) → ((name : LinkName) → begins name m ≡ true → HasUse talk c [] []) → Gone e o M → Gone e p (M ++ m ∷ [])
  gone_more e o p M m c none admitted taken gave anew (K, long, dials, arrived, t, u) = (
    K ++ c ∷ [],
    length-append K (c ∷ []) ∙ ap (λ (n : ℕ). n + 1) long ∙ sym (length-append M (m ∷ [])),
    first_more e M K m c long none dials,
    arrived_more first door o p M K m c long admitted arrived,
    taken_more M K m c long t taken,
    step_each talk d first door (bare e o) (bare e p) M m c K long old (λ name b. (c, refl, anew name b)) u,
  )
    where
      old : (name : LinkName) (z : Option (Option L)) (g q : List (List ℕ)) → begins name m ≡ false → StandsSo talk z None g q → StandsSo talk z None (g ++ given_by name m) (q ++ put_by name m)
      old name z g q b h =
          so talk z None None g (g ++ given_by name m) (q ++ put_by name m) (q ++ put_by name m) refl
          (sym (ap (λ (x : List (List ℕ)). g ++ x) (gave name) ∙ append-nil g)) refl (more_put talk z g q (put_by name m) h)

  -- A line that may stand in the log, and wasn't done.
  undone_more : (e : Dialling L) (o : Option L) (M : Log) (m : Line) → MayStand M m → Gone e o M → Gone e o (M ++ m ∷ [])
  undone_more e o M (came x) may g = absurd may
  undone_more e o M (did (Dial name uri)) may g = gone_more e o o M (did (Dial name uri)) None refl refl tt (λ n. refl) (λ n b. refl) g
  undone_more e o M (did (Take name)) may g = absurd may
  undone_more e o M (did (Refuse c)) may g = gone_more e o o M (did (Refuse c)) None refl refl tt (λ n. refl) (λ n b. refl) g
  undone_more e o M (did (Put name x)) may g = gone_more e o o M (did (Put name x)) None refl refl tt (λ n. refl) (λ n b. refl) g
  undone_more e o M (did (Close name c)) may g = gone_more e o o M (did (Close name c)) None refl refl tt (λ n. refl) (λ n b. refl) g
  undone_more e o M (did (Deliver x)) may g = gone_more e o o M (did (Deliver x)) None refl refl tt (λ n. refl) (λ n b. refl) g
  undone_more e o M (did (Tell note)) may g = gone_more e o o M (did (Tell note)) None refl refl tt (λ n. refl) (λ n b. refl) g
  undone_more e o M (did Draw) may g = gone_more e o o M (did Draw) None refl refl tt (λ n. refl) (λ n b. refl) g
  undone_more e o M (initiating name i) may g = gone_more e o o M (initiating name i) None refl refl tt (λ n. refl) (λ n b. refl) g
  undone_more e o M (accepting name i) may g = gone_more e o o M (accepting name i) None refl refl tt (λ n. refl) (λ n b. refl) g
  undone_more e o M (connector i) may g = gone_more e o o M (connector i) None refl refl tt (λ n. refl) (λ n b. refl) g
  undone_more e o M (slot call) may g = gone_more e o o M (slot call) None refl refl tt (λ n. refl) (λ n b. refl) g
  undone_more e o M (resolution call) may g = gone_more e o o M (resolution call) None refl refl tt (λ n. refl) (λ n b. refl) g

  pub undone : (e : Dialling L) (o : Option L) (lines : List Line) (M : Log) → EachMay M lines → Gone e o M → Gone e o (M ++ lines)
  undone e o [] M may g = subst (Gone e o) (sym (append-nil M)) g
  undone e o (m ∷ lines) M may g = subst (Gone e o) (append_assoc M (m ∷ []) lines) (undone e o lines (M ++ m ∷ []) may.1 (undone_more e o M m may.0 g))

  -- ---- the action that was done in part

  left_so : (before after : Option (List L)) (given : Result L LinkFault) → LeavesBehind before after given → LeftBy before after (made_in given)
  left_so old None given h = tt
  left_so None (Some n) given h = absurd h
  left_so (Some o) (Some n) (Ok l) h = h
  left_so (Some o) (Some n) (Err fault) h = sym h

  dial_part : (name : LinkName) (uri : List ℕ) (given : Result L LinkFault) (w v : World L) (M : Log) → is_there name M ≡ false → is_name name ≡ true
      → Grows w.dialled.calls v.dialled.calls (dialled uri (kind_of name) given ∷ []) → LeavesBehind w.dialled.left v.dialled.left given → Grows w.dialled.came v.dialled.came (made_in given)
      → Same v (record (with_dialled name given w) { dialled = v.dialled }) → Agrees w M → Uses talk d first door w M → Uses talk d first door v (M ++ did (Dial name uri) ∷ [])
      × (v.arrived ≡ w.arrived)
  dial_part name uri (Ok l) w v M out named grew behind came_so s A u =
      let m : Line = did (Dial name uri) in
      let it : begins name m ≡ true = begins-dial name name uri ∙ same_link-self name in (
        touch talk d first door name w v M m (Some l) (grew, left_so w.dialled.left v.dialled.left (Ok l) behind, came_so) (ap option_to_list s.arrived) tt
            (λ other ne. s.link other ∙ (apart-link name (Some l) w).link other ne) (λ other ne. begins-dial other name uri ∙ ne) (λ other ne. refl) (λ other ne. refl)
            (λ z g p b h. no_true (StandsSo talk z (v.link name) (g ++ []) (p ++ [])) (begins name m) b it)
            (λ b. so talk (Some (Some l)) (Some l) (v.link name) [] [] [] [] (sym (s.link name ∙ link-here name (Some l) w named)) refl refl (new_link talk d first door l)) u,
        s.arrived,
      )
  dial_part name uri (Err fault) w v M out named grew behind came_so s A u =
      let m : Line = did (Dial name uri) in
      let it : begins name m ≡ true = begins-dial name name uri ∙ same_link-self name in (
        touch talk d first door name w v M m None (grew, left_so w.dialled.left v.dialled.left (Err fault) behind, came_so) (ap option_to_list s.arrived) tt (λ other ne. s.link other)
            (λ other ne. begins-dial other name uri ∙ ne) (λ other ne. refl) (λ other ne. refl)
            (λ z g p b h. no_true (StandsSo talk z (v.link name) (g ++ []) (p ++ [])) (begins name m) b it)
            (λ b. so talk (Some None) None (v.link name) [] [] [] [] (sym (s.link name ∙ none_in_hand name w M out A)) refl refl (None, refl, refl)) u,
        s.arrived,
      )

  put_part : (name : LinkName) (o : List ℕ) (w v : World L) (M : Log) (k : Option L) → w.link name ≡ k → PutsPart talk name o k w v → Agrees w M → Uses talk d first door w M
      → Uses talk d first door v (M ++ did (Put name o) ∷ []) × (v.arrived ≡ w.arrived)
  put_part name o w v M None e h A u = absurd h
  put_part name o w v M (Some l) e (m, inl (grew, s)) A u =
      let named : is_name name ≡ true = in_hand_named name l w M e A in
      let now : Some m ≡ v.link name = sym (s.link name ∙ link-here name (Some m) w named) in
      let it : o ∷ [] ≡ put_by name (did (Put name o)) = rw (same_link-self name) refl in (
        touch talk d first door name w v M (did (Put name o)) None (uncalled w.dialled v.dialled s.dialled) (ap option_to_list s.arrived) tt
            (λ other ne. s.link other ∙ (apart-link name (Some m) w).link other ne) (λ other ne. refl) (λ other ne. refl) (λ other ne. rw ne refl)
            (λ z g p b h. so talk z (Some m) (v.link name) (g ++ []) (g ++ []) (p ++ o ∷ []) (p ++ put_by name (did (Put name o))) now refl (ap (λ (x : List (List ℕ)). p ++ x) it)
            (says talk z l m (SaidPut o (Some NoMemory)) g p grew (so talk z (w.link name) (Some l) g g p p e refl refl h)))
            (λ b. cc) u,
        s.arrived,
      )
  put_part name o w v M (Some l) e (m, inr (grew, out)) A u = by out
    where
      lost : World L
      lost = with_news name Lost (ends name m w)

      done : Uses talk d first door lost (M ++ did (Put name o) ∷ [])
      done = puts_uses talk d first door name o w lost M (Some l) e (m, inr (grew, same_self lost)) A u

      by : IsOut name m w v → Uses talk d first door v (M ++ did (Put name o) ∷ []) × (v.arrived ≡ w.arrived)
      by (inl s) = (uses_alike talk d first door lost v (M ++ did (Put name o) ∷ []) s.dialled s.arrived s.link done, s.arrived)
      by (inr s) = (uses_alike talk d first door lost v (M ++ did (Put name o) ∷ []) s.dialled s.arrived s.link done, s.arrived)

  close_part : (name : LinkName) (c : Closing) (w v : World L) (M : Log) (k : Option L) → w.link name ≡ k → ClosesPart talk name c k w v → Agrees w M → Uses talk d first door w M
      → Uses talk d first door v (M ++ did (Close name c) ∷ []) × (v.arrived ≡ w.arrived)
  close_part name c w v M None e h A u = absurd h
  close_part name c w v M (Some l) e (m, grew, s) A u =
      let closed : World L = ends name m (forgets name w) in (
        uses_alike talk d first door closed v (M ++ did (Close name c) ∷ []) s.dialled s.arrived s.link
            (closes_uses talk d first door name c w closed M (Some l) e (m, grew, same_self closed) A u),
        s.arrived,
      )

  -- One action that may stand in the log, and was done in part. No link has arrived.
  part_uses : (action : Action) (w v : World L) (M : Log) → MayStand M (did action) → DoesPart talk action w v → w.arrived ≡ None → Agrees w M → Uses talk d first door w M
      → Uses talk d first door v (M ++ did action ∷ []) × (v.arrived ≡ w.arrived)
  part_uses (Dial name uri) w v M may (given, grew, behind, came_so, held, s) none A u = dial_part name uri given w v M may.0 (dial_named name uri may.1) grew behind came_so s A u
  part_uses (Take name) w v M may h none A u = absurd may
  part_uses (Refuse c) w v M may h none A u = absurd (subst (λ (o : Option L). RefusesPart talk c o w v) none h)
  part_uses (Put name o) w v M may h none A u = put_part name o w v M (w.link name) refl h A u
  part_uses (Close name c) w v M may h none A u = close_part name c w v M (w.link name) refl h A u
  part_uses (Deliver x) w v M may (dials, held, s) none A u =
      (quiet talk d first door w v M (did (Deliver x)) None (uncalled w.dialled v.dialled s.dialled) (ap option_to_list s.arrived) tt s.link (λ name. refl) (λ name. refl) (λ name. refl) u, s.arrived)
  part_uses (Tell note) w v M may (dials, held, s) none A u =
      (quiet talk d first door w v M (did (Tell note)) None (uncalled w.dialled v.dialled s.dialled) (ap option_to_list s.arrived) tt s.link (λ name. refl) (λ name. refl) (λ name. refl) u, s.arrived)
  part_uses Draw w v M may h none A u = absurd h

  -- Lines each of which may stand where it stands, of which the first ones were done, and the next in part.
  pub breaks_gone : (lines : List Line) (w v : World L) (M : Log) → EachMay M lines → Breaks talk (filter_map action_of lines) w v → w.arrived ≡ None → Agrees w M → Uses talk d first door w M
      → Gone v.dialled None (M ++ lines)
  breaks_gone [] w v M may b none A u = absurd b
  breaks_gone (did action ∷ lines) w v M may (inl part) none A u =
      let q : Uses talk d first door v (M ++ did action ∷ []) × (v.arrived ≡ w.arrived) = part_uses action w v M may.0 part none A u in
      subst (Gone v.dialled None) (append_assoc M (did action ∷ []) lines)
      (undone v.dialled None lines (M ++ did action ∷ []) may.1 (gone_none v (M ++ did action ∷ []) (q.1 ∙ none) q.0))
  breaks_gone (did action ∷ lines) w v M may (inr (x, h, b)) none A u =
      subst (Gone v.dialled None) (append_assoc M (did action ∷ []) lines)
      (breaks_gone lines x v (M ++ did action ∷ []) may.1 b (carries_none talk (action ∷ []) w x (x, h, same_self x) none)
      (does_keeps talk action w x M may.0 h A) (does_uses talk d first door action w x M may.0 h A u))
  breaks_gone (m ∷ lines) w v M may b none A u =
      subst (Gone v.dialled None) (append_assoc M (m ∷ []) lines)
      (breaks_gone lines w v (M ++ m ∷ []) may.1 b none (carries_keeps talk (m ∷ []) w w M (may.0, tt) (same_self w) A) (still talk d first door m w M may.0 refl u))

-- ---- what follows from the last event

module _ {L : Type 0} (a : Made) (talk : L → Option (List Said)) (d0 : Dialling L) (a0 D : Admitting L) where
  -- any but that a link arrives: there was no memory for it ..
  pub unmet : (M : Log) (e : TimedEvent) (w : World L) → LogGoesOn a M e → w.arrived ≡ None → Uses talk d0 a0 D w (with_event M e) → Gone talk d0 a0 D w.dialled None (M ++ goes_on a e M)
  unmet M e w g none u =
      let N : Log = with_event M e ++ opens_at e.event (with_event M e) in
      subst (Gone talk d0 a0 D w.dialled None) (sym (ap (λ lines. M ++ lines) g.is ∙ seam M (came e) (opens_at e.event (with_event M e)) g.lines))
      (undone talk d0 a0 D w.dialled None g.lines N g.may (gone_none talk d0 a0 D w N none (opened_use a talk d0 a0 D w (with_event M e) e.event u)))

  -- .. or it was broken off
  pub broken_off : (M : Log) (e : TimedEvent) (w v : World L) → LogGoesOn a M e → w.arrived ≡ None → Agrees w (with_event M e ++ opens_at e.event (with_event M e))
      → Uses talk d0 a0 D w (with_event M e)
      → Breaks talk (actions_at a M e) w v → Gone talk d0 a0 D v.dialled None (M ++ goes_on a e M)
  broken_off M e w v g none A u b =
      subst (Gone talk d0 a0 D v.dialled None) (sym (ap (λ lines. M ++ lines) g.is ∙ seam M (came e) (opens_at e.event (with_event M e)) g.lines))
      (breaks_gone talk d0 a0 D g.lines w v (with_event M e ++ opens_at e.event (with_event M e)) g.may
      (subst (λ actions. Breaks talk actions w v) (ap (filter_map action_of) g.is ∙ opens_do_nothing e.event (with_event M e) g.lines) b) none A
      (opened_use a talk d0 a0 D w (with_event M e) e.event u))

  -- that a link arrives
  pub arrival_unmet : (M : Log) (t : ℕ) (l : L) (w : World L) → w.arrived ≡ Some l → AdmitsIn a M (at t Arrived) → Uses talk d0 a0 D w (with_event M (at t Arrived))
      → Gone talk d0 a0 D w.dialled None (M ++ goes_on a (at t Arrived) M)
  arrival_unmet M t l w here (inl (k, goes, gone, named)) u =
      let e : TimedEvent = at t Arrived in
      let N : Log = with_event M e ++ slot (Claim k None) ∷ [] in
      let claimed : Uses talk d0 a0 D w N =
      quiet talk d0 a0 D w w (with_event M e) (slot (Claim k None)) None (uncalled w.dialled w.dialled refl) refl tt (λ name. refl) (λ name. refl) (λ name. refl) (λ name. refl) u in
      subst (Gone talk d0 a0 D w.dialled None) (sym (ap (λ lines. M ++ lines) goes ∙ seam M (came e) (slot (Claim k None) ∷ []) (did (Take (Direct k)) ∷ [])))
      (gone_more talk d0 a0 D w.dialled (Some l) None N (did (Take (Direct k))) (Some l) refl refl refl (λ name. refl) (λ name b. unused talk l)
      (subst (λ (o : Option L). Gone talk d0 a0 D w.dialled o N) here (gone_of talk d0 a0 D w N claimed)))
  arrival_unmet M t l w here (inr goes) u =
      let e : TimedEvent = at t Arrived in
      let c : Closing = closing 1008 TableFull in
      subst (Gone talk d0 a0 D w.dialled None) (sym (ap (λ lines. M ++ lines) goes ∙ sym (append_assoc M (came e ∷ []) (did (Refuse c) ∷ []))))
      (gone_more talk d0 a0 D w.dialled (Some l) None (with_event M e) (did (Refuse c)) (Some l) refl refl tt (λ name. refl) (λ name b. unused talk l)
      (subst (λ (o : Option L). Gone talk d0 a0 D w.dialled o (with_event M e)) here (gone_of talk d0 a0 D w (with_event M e) u)))

  pub arrival_broken : (M : Log) (t : ℕ) (l : L) (w v : World L) → w.arrived ≡ Some l → AdmitsIn a M (at t Arrived) → Uses talk d0 a0 D w (with_event M (at t Arrived))
      → Breaks talk (actions_at a M (at t Arrived)) w v → Gone talk d0 a0 D v.dialled None (M ++ goes_on a (at t Arrived) M)
  arrival_broken M t l w v here (inl (k, goes, gone, named)) u b = absurd (never (subst (λ actions. Breaks talk actions w v) (ap (filter_map action_of) goes) b))
    where
      never : Breaks talk (Take (Direct k) ∷ []) w v → ⊥
      never (inl part) = absurd part
      never (inr (x, h, more)) = absurd more
  arrival_broken M t l w v here (inr goes) u b =
      subst (λ (e : Dialling L). Gone talk d0 a0 D e None (M ++ goes_on a (at t Arrived) M)) (sym (same (subst (λ actions. Breaks talk actions w v) (ap (filter_map action_of) goes) b)))
      (arrival_unmet M t l w here (inr goes) u)
    where
      c : Closing
      c = closing 1008 TableFull

      refused : (o : Option L) → RefusesPart talk c o w v → v.dialled ≡ w.dialled
      refused None h = absurd h
      refused (Some k) (m, grew, s) = s.dialled

      same : Breaks talk (Refuse c ∷ []) w v → v.dialled ≡ w.dialled
      same (inl part) = refused w.arrived part
      same (inr (x, h, more)) = absurd more
