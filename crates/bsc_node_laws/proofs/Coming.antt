-- What comes about at an event of a run: the event first, and then lines that are no event; and that what is carried out
-- keeps what a run has in hand in agreement with the log.
-- It serves bsc_application, bsc_node_command and bsc_node_links.
use Rattle.std.proofs.Common.{◌≡◌, Bool, true, false, ◌||◌, inl, inr, List, [], ◌∷◌, ◌++◌, Option, Some, None, refl, ap, sym, ◌∙◌, subst}
use Rattle.std.specs.Prelude.{filter_map, unwrap_or}
use Rattle.std.specs.List.{list_all, list_any}
use Rattle.std.specs.Option.{option_map}
use Rattle.std.proofs.lemmas.List.{append_assoc}
use Rattle.std.proofs.lemmas.List.Folds.{list_all-append, list_any-append}
use Rattle.bsc_connector.proofs.BackLemmas.{newest_of-more}
use Rattle.bsc_accept.specs.declared.reason.Reason.TheVariants.{TableFull}
use Rattle.bsc_accept.specs.Steps.{closing}
use Rattle.bsc_direct.specs.declared.call.SlotCall.TheVariants.{Claim}
use Rattle.bsc_edge.specs.declared.said.Said.{Said}
use Rattle.bsc_node.specs.declared.link_name.LinkName.TheVariants.{Direct}
use Rattle.bsc_node.specs.declared.node_event.NodeEvent.{NodeEvent}
use Rattle.bsc_node.specs.declared.node_event.NodeEvent.TheVariants.{Opened, Arrived}
use Rattle.bsc_node.specs.declared.timed_event.TimedEvent.{TimedEvent}
use Rattle.bsc_node.specs.declared.action.Action.{Action}
use Rattle.bsc_node.specs.declared.action.Action.TheVariants.{Take, Refuse, Draw}
use Rattle.bsc_node.specs.Logs.{Made, Line, came, slot, did, Log, event_of, action_of, now, is_finish, is_finishing}
use Rattle.bsc_node.specs.Node.{goes_on, actions_at}
use Rattle.bsc_node.specs.Laws.{with_event, draws}
use Rattle.bsc_node.proofs.Moments.{no_event, now_stays}
use Rattle.bsc_node_laws.specs.Links.{MayStand, EachMay, opens_at, LogGoesOn, Admits, Brings}
use Rattle.bsc_node_laws.proofs.There.{gone-stays, opened-other}
use Rattle.bsc_node_laws.proofs.Drawn.{seam}
use Rattle.bsc_node_run.specs.Performing.{Carries}
use Rattle.bsc_node_run.specs.Turning as Turning
use Rattle.bsc_node_run.specs.Worlds.{World}
use Rattle.bsc_node_laws.proofs.Agreeing.{Agrees}
use Rattle.bsc_node_laws.proofs.Same.{agrees-quiet}
use Rattle.bsc_node_laws.proofs.Carrying.{carries_keeps, takes_keeps}
use Rattle.bsc_lemmas.proofs.Booleans.{and_left, and_right}
use Rattle.std.proofs.lemmas.Bool.{and_from as both}

-- ---- lines that are no event

may_no_event : (L : Log) (m : Line) → MayStand L m → no_event m ≡ true
may_no_event L (came e) h = absurd h
may_no_event L m h = refl

may_each_no_event : (L : Log) (lines : List Line) → EachMay L lines → list_all no_event lines ≡ true
may_each_no_event L [] h = refl
may_each_no_event L (m ∷ lines) h = both (no_event m) (list_all no_event lines) (may_no_event L m h.0) (may_each_no_event (L ++ m ∷ []) lines h.1)

opens_no_event : (e : NodeEvent) (L : Log) → list_all no_event (opens_at e L) ≡ true
opens_no_event (Opened name) L = refl
opens_no_event e L = refl

finish_none : (m : Line) → no_event m ≡ true → is_finish m ≡ false
finish_none (came e) h = cc
finish_none m h = refl

none_finish : (lines : List Line) → list_all no_event lines ≡ true → list_any is_finish lines ≡ false
none_finish [] h = refl
none_finish (m ∷ lines) h =
    ap (λ (b : Bool). b || list_any is_finish lines) (finish_none m (and_left (no_event m) (list_all no_event lines) h))
    ∙ none_finish lines (and_right (no_event m) (list_all no_event lines) h)

-- ---- what comes about at an event

-- the event, and then lines that are none
pub record Comes (a : Made) (M : Log) (e : TimedEvent) : Type 0 where
  pub lines : List Line
  pub is : goes_on a e M ≡ came e ∷ lines
  pub none : list_all no_event lines ≡ true

pub comes_of : (a : Made) (M : Log) (e : TimedEvent) (event : NodeEvent) → Brings a M e event → Comes a M e
comes_of a M e Arrived (inl (k, is, gone, here)) = record { lines = slot (Claim k None) ∷ did (Take (Direct k)) ∷ []; is = is; none = refl }
comes_of a M e Arrived (inr is) = record { lines = did (Refuse (closing 1008 TableFull)) ∷ []; is = is; none = refl }
comes_of a M e event g = record {
  lines = opens_at e.event (with_event M e) ++ g.lines;
  is = g.is;
  none = list_all-append no_event (opens_at e.event (with_event M e)) g.lines
      ∙ both (list_all no_event (opens_at e.event (with_event M e))) (list_all no_event g.lines) (opens_no_event e.event (with_event M e))
      (may_each_no_event (with_event M e ++ opens_at e.event (with_event M e)) g.lines g.may);
}

-- The time after it is its own.
pub now_then : (a : Made) (M : Log) (e : TimedEvent) → Comes a M e → now (M ++ goes_on a e M) ≡ e.now
now_then a M e c =
    ap now (ap (λ lines. M ++ lines) c.is ∙ sym (append_assoc M (came e ∷ []) c.lines))
    ∙ now_stays (with_event M e) c.lines c.none
    ∙ ap (λ (o : Option TimedEvent). unwrap_or (option_map (λ (e : TimedEvent). e.now) o) 0) (newest_of-more event_of M (came e))

one_of : (P : Type 0) (p q r : Bool) → (p || (q || r)) ≡ true → r ≡ false → (p ≡ true → P) → (q ≡ true → P) → P
one_of P true q r h none f g = f refl
one_of P false true r h none f g = g refl
one_of P false false true h none f g = cc
one_of P false false false h none f g = cc

-- The node is to end after it where it was to end before, or where it is that the node is to end.
pub finishing_by : (P : Type 0) (a : Made) (M : Log) (e : TimedEvent) → Comes a M e
    → (is_finishing M ≡ true → P) → (is_finish (came e) ≡ true → P) → is_finishing (M ++ goes_on a e M) ≡ true → P
finishing_by P a M e c before this h =
    one_of P (is_finishing M) (is_finish (came e)) (list_any is_finish c.lines)
    (sym (ap (λ lines. is_finishing (M ++ lines)) c.is ∙ list_any-append is_finish M (came e ∷ c.lines)) ∙ h) (none_finish c.lines c.none) before this

-- ---- that it is carried out

opens_do_nothing : (e : NodeEvent) (L : Log) (lines : List Line) → filter_map action_of (opens_at e L ++ lines) ≡ filter_map action_of lines
opens_do_nothing (Opened name) L lines = refl
opens_do_nothing e L lines = refl

-- Two tests of whether a word is drawn are one.
pub draws-same : (actions : List Action) → list_any draws actions ≡ Turning.draws actions
draws-same [] = refl
draws-same (Draw ∷ actions) = refl
draws-same (action ∷ actions) = draws-same actions

module _ {L : Type 0} (talk : L → Option (List Said)) (a : Made) (M : Log) (e : TimedEvent) (w v : World L) where
  -- What follows from any event but that a link arrives.
  pub goes_keeps : LogGoesOn a M e → Agrees w (with_event M e ++ opens_at e.event (with_event M e)) → Carries talk (actions_at a M e) w v → Agrees v (M ++ goes_on a e M)
  goes_keeps g agrees c =
      subst (Agrees v) (sym (ap (λ lines. M ++ lines) g.is ∙ seam M (came e) (opens_at e.event (with_event M e)) g.lines))
      (carries_keeps talk g.lines w v (with_event M e ++ opens_at e.event (with_event M e)) g.may
      (subst (λ actions. Carries talk actions w v) (ap (filter_map action_of) g.is ∙ opens_do_nothing e.event (with_event M e) g.lines) c) agrees)

  -- A link that arrives.
  pub admits_keeps : (l : L) → w.arrived ≡ Some l → e.event ≡ Arrived → Admits a M e → Agrees w (with_event M e) → Carries talk (actions_at a M e) w v → Agrees v (M ++ goes_on a e M)
  admits_keeps l here is (inl (k, goes, gone, named)) agrees c =
      subst (Agrees v) (sym (ap (λ lines. M ++ lines) goes ∙ seam M (came e) (slot (Claim k None) ∷ []) (did (Take (Direct k)) ∷ [])))
      (takes_keeps talk k l w v (with_event M e ++ slot (Claim k None) ∷ []) here
      (gone-stays (Direct k) (with_event M e) (slot (Claim k None)) refl (gone-stays (Direct k) M (came e) refl gone)) named
      (subst (λ actions. Carries talk actions w v) (ap (filter_map action_of) goes) c)
      (agrees-quiet w (with_event M e) (slot (Claim k None)) (λ name. refl) (λ name. refl) (λ name. opened-other name (with_event M e) (slot (Claim k None)) refl refl) agrees))
  admits_keeps l here is (inr goes) agrees c =
      subst (Agrees v) (sym (ap (λ lines. M ++ lines) goes ∙ sym (append_assoc M (came e ∷ []) (did (Refuse (closing 1008 TableFull)) ∷ []))))
      (carries_keeps talk (did (Refuse (closing 1008 TableFull)) ∷ []) w v (with_event M e) (tt, tt)
      (subst (λ actions. Carries talk actions w v) (ap (filter_map action_of) goes) c) agrees)
