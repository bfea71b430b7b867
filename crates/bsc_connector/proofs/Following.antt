-- What is kept of a side goes on standing for what was told.
-- It serves the clauses of `event`.
use Rattle.std.proofs.Common.{◌≡◌, ℕ, ◌+◌, Bool, true, false, cond, ◌||◌, ◌&&◌, List, [], ◌∷◌, ◌++◌, Some, None, refl, ap, sym, subst, ◌∙◌}
use Rattle.std.specs.Prelude.{nat_le, min, ◌*◌, ⊤}
use Rattle.bsc_connector.specs.declared.side.Side.{Side}
use Rattle.bsc_connector.specs.declared.side.Side.TheVariants.{Primary, Failover}
use Rattle.bsc_connector.specs.declared.event.ConnectorEvent.{ConnectorEvent}
use Rattle.bsc_connector.specs.declared.event.ConnectorEvent.TheVariants.{Start, Connected, Failed, Lost, Tick}
use Rattle.bsc_connector.specs.declared.event.HubEvent.{HubEvent}
use Rattle.bsc_connector.specs.declared.side_state.Attempt.{Attempt}
use Rattle.bsc_connector.specs.declared.side_state.Attempt.TheVariants.{Idle, UnderWay, Up, Waiting}
use Rattle.bsc_connector.specs.declared.side_state.SideState.{SideState}
use Rattle.bsc_connector.specs.declared.waits.Waits.{Waits}
use Rattle.std.specs.List.{list_any}
use Rattle.bsc_connector.specs.declared.step.ConnectorStep.{ConnectorStep}
use Rattle.bsc_connector.specs.Sides.{same_side, is_start, is_tick, fails, loses, connects, clears, is_up, is_tried, is_under_way, failures, wait, trouble}
use Rattle.bsc_connector.specs.Steps.{connector_step}
use Rattle.bsc_connector.specs.declared.connector.Connector.{Connector}
use Rattle.bsc_connector.specs.Standing.{SideStands, ConnectorStands, attempt_at, MayCome}
use Rattle.bsc_connector.specs.Kept.{says_up, says_due, says_tried, says_under_way, accepted, dropped, failed, ticked, started, begun, primary_after, failover_after}
use Rattle.bsc_connector.specs.Kept.{attempt_after_tick, attempt_started, attempt_begun, step_kept}
use Rattle.bsc_connector.proofs.SideLemmas.{up-stays, up-said, failures-cleared, failures-same, failures-one_more, due-cleared, due-failed, due-same, due-ticked, due-started}
use Rattle.bsc_connector.proofs.SideLemmas.{tried-primary, tried-failover, tried-cleared, wait-doubled, wait-first, unless_come, starts}
use Rattle.bsc_lemmas.proofs.Booleans.{and_false, or_false, or_true}

-- the hub of the side accepted, or the primary hub did
follows-clear : (w : Waits) (s : Side) (E : List HubEvent) (e : HubEvent) (side : SideState) → clears s e.event ≡ true → (clears s e.event || loses s e.event) ≡ true
    → connects s e.event ≡ says_up side.attempt → says_due side.attempt ≡ None → is_tried w s (E ++ e ∷ []) ≡ says_tried side.attempt → side.next_wait ≡ min w.greatest w.least
    → SideStands w s (E ++ e ∷ []) side
follows-clear w s E e side h c up due_none tried n = record {
  up = up-said s E e c ∙ up;
  due = due-cleared w s E e h ∙ sym due_none;
  tried = tried;
  wait = n ∙ sym (wait-first w) ∙ ap (λ k. wait w (k + 1)) (sym (failures-cleared s E e h));
}

-- an attempt at the side failed, or its connection ended
follows-fail : (w : Waits) (s : Side) (E : List HubEvent) (e : HubEvent) (side : SideState) → SideStands w s E side → clears s e.event ≡ false → fails s e.event ≡ true
    → is_up s (E ++ e ∷ []) ≡ false → is_tried w s (E ++ e ∷ []) ≡ true
    → SideStands w s (E ++ e ∷ []) (failed w e.now side)
follows-fail w s E e side k h f up tried = record {
  up = up;
  due = due-failed w s E e h f ∙ ap (λ n. Some (e.now + n)) (sym k.wait);
  tried = tried;
  wait = ap (λ n. min w.greatest (2 * n)) k.wait ∙ sym (wait-doubled w (failures s E)) ∙ ap (λ n. wait w (n + 1)) (sym (failures-one_more s E e h f));
}

-- nothing was told of the side, but it may be tried now
follows-other : (w : Waits) (s : Side) (E : List HubEvent) (e : HubEvent) (side after : SideState) → SideStands w s E side → clears s e.event ≡ false → fails s e.event ≡ false
    → is_tick e.event ≡ false → starts s e ≡ false
    → (clears s e.event || loses s e.event) ≡ false
    → says_up side.attempt ≡ says_up after.attempt → says_due side.attempt ≡ says_due after.attempt → is_tried w s (E ++ e ∷ []) ≡ says_tried after.attempt → side.next_wait ≡ after.next_wait
    → SideStands w s (E ++ e ∷ []) after
follows-other w s E e side after k h f t g c u d tried n = record {
  up = up-stays s E e c ∙ k.up ∙ u;
  due = due-same w s E e h f t g ∙ k.due ∙ d;
  tried = tried;
  wait = sym n ∙ k.wait ∙ ap (λ m. wait w (m + 1)) (sym (failures-same s E e h f));
}

-- ---- attempts

tick_up : (now : ℕ) (a : Attempt) → says_up a ≡ says_up (attempt_after_tick now a)
tick_up now Idle = refl
tick_up now UnderWay = refl
tick_up now Up = refl
tick_up now (Waiting at) = by (nat_le at now)
  where
    by : (b : Bool) → false ≡ says_up (cond b UnderWay (Waiting at))
    by true = refl
    by false = refl

tick_due : (now : ℕ) (a : Attempt) → unless_come now (says_due a) ≡ says_due (attempt_after_tick now a)
tick_due now Idle = refl
tick_due now UnderWay = refl
tick_due now Up = refl
tick_due now (Waiting at) = by (nat_le at now)
  where
    by : (b : Bool) → cond b None (Some at) ≡ says_due (cond b UnderWay (Waiting at))
    by true = refl
    by false = refl

tick_tried : (now : ℕ) (a : Attempt) → says_tried a ≡ says_tried (attempt_after_tick now a)
tick_tried now Idle = refl
tick_tried now UnderWay = refl
tick_tried now Up = refl
tick_tried now (Waiting at) = by (nat_le at now)
  where
    by : (b : Bool) → true ≡ says_tried (cond b UnderWay (Waiting at))
    by true = refl
    by false = refl

begun_up : (a : Attempt) → says_up a ≡ says_up (attempt_begun a)
begun_up Idle = refl
begun_up UnderWay = refl
begun_up Up = refl
begun_up (Waiting at) = refl

begun_due : (a : Attempt) → says_due a ≡ says_due (attempt_begun a)
begun_due Idle = refl
begun_due UnderWay = refl
begun_due Up = refl
begun_due (Waiting at) = refl

begun_tried : (a : Attempt) → true ≡ says_tried (attempt_begun a)
begun_tried Idle = refl
begun_tried UnderWay = refl
begun_tried Up = refl
begun_tried (Waiting at) = refl

-- time has passed
follows-tick : (w : Waits) (s : Side) (E : List HubEvent) (e : HubEvent) (side : SideState) → SideStands w s E side → clears s e.event ≡ false → fails s e.event ≡ false
    → is_tick e.event ≡ true → starts s e ≡ false
    → (clears s e.event || loses s e.event) ≡ false → is_tried w s (E ++ e ∷ []) ≡ is_tried w s E
    → SideStands w s (E ++ e ∷ []) (ticked e.now side)
follows-tick w s E e side k h f t g c tried = record {
  up = up-stays s E e c ∙ k.up ∙ tick_up e.now side.attempt;
  due = due-ticked w s E e h f t g ∙ ap (unless_come e.now) k.due ∙ tick_due e.now side.attempt;
  tried = tried ∙ k.tried ∙ tick_tried e.now side.attempt;
  wait = k.wait ∙ ap (λ m. wait w (m + 1)) (sym (failures-same s E e h f));
}

started_up : (a : Attempt) → says_up a ≡ says_up (attempt_started a)
started_up Idle = refl
started_up UnderWay = refl
started_up Up = refl
started_up (Waiting at) = refl

started_due : (a : Attempt) → None ≡ says_due (attempt_started a)
started_due Idle = refl
started_due UnderWay = refl
started_due Up = refl
started_due (Waiting at) = refl

started_tried : (a : Attempt) → true ≡ says_tried (attempt_started a)
started_tried Idle = refl
started_tried UnderWay = refl
started_tried Up = refl
started_tried (Waiting at) = refl

-- the node starts
follows-start : (w : Waits) (E : List HubEvent) (e : HubEvent) (side : SideState) → SideStands w Primary E side → clears Primary e.event ≡ false → fails Primary e.event ≡ false
    → starts Primary e ≡ true
    → (clears Primary e.event || loses Primary e.event) ≡ false → is_tried w Primary (E ++ e ∷ []) ≡ true
    → SideStands w Primary (E ++ e ∷ []) (started side)
follows-start w E e side k h f g c tried = record {
  up = up-stays Primary E e c ∙ k.up ∙ started_up side.attempt;
  due = due-started w Primary E e f g ∙ started_due side.attempt;
  tried = tried ∙ started_tried side.attempt;
  wait = k.wait ∙ ap (λ m. wait w (m + 1)) (sym (failures-same Primary E e h f));
}

-- ---- the primary hub

abbrev stays_tried : (w : Waits) (E : List HubEvent) (now : ℕ) (e : ConnectorEvent) → is_start e ≡ false → is_tried w Primary (E ++ record { now = now; event = e } ∷ []) ≡ is_tried w Primary E
stays_tried w E now e h = tried-primary w E (record { now = now; event = e }) ∙ rw h (or_false (is_tried w Primary E))

-- what may be told of a side
abbrev pub MaySide : Side → Attempt → ConnectorEvent → Type 0
MaySide s a (Connected t) = same_side s t ≡ true → says_under_way a ≡ true
MaySide s a (Failed t) = same_side s t ≡ true → says_under_way a ≡ true
MaySide s a (Lost t) = same_side s t ≡ true → says_up a ≡ true
MaySide s a e = ⊤

under_way_is : (a : Attempt) → says_under_way a ≡ true → a ≡ UnderWay
under_way_is Idle u = cc
under_way_is UnderWay u = refl
under_way_is Up u = cc
under_way_is (Waiting at) u = cc

up_is : (a : Attempt) → says_up a ≡ true → a ≡ Up
up_is Idle u = cc
up_is UnderWay u = cc
up_is Up u = refl
up_is (Waiting at) u = cc

-- what an attempt that is under way, or one that is up, says of being tried
under_way_tried : (w : Waits) (s : Side) (E : List HubEvent) (side : SideState) → SideStands w s E side → says_under_way side.attempt ≡ true → is_tried w s E ≡ true
under_way_tried w s E side k a = k.tried ∙ ap says_tried (under_way_is side.attempt a)

under_way_down : (w : Waits) (s : Side) (E : List HubEvent) (side : SideState) → SideStands w s E side → says_under_way side.attempt ≡ true → is_up s E ≡ false
under_way_down w s E side k a = k.up ∙ ap says_up (under_way_is side.attempt a)

up_tried : (w : Waits) (s : Side) (E : List HubEvent) (side : SideState) → SideStands w s E side → says_up side.attempt ≡ true → is_tried w s E ≡ true
up_tried w s E side k a = k.tried ∙ ap says_tried (up_is side.attempt a)

pub primary-follows : (w : Waits) (E : List HubEvent) (side : SideState) (now : ℕ) (e : ConnectorEvent) → SideStands w Primary E side → MaySide Primary side.attempt e
    → SideStands w Primary (E ++ record { now = now; event = e } ∷ []) (primary_after w now side e)
primary-follows w E side now Start k m =
    follows-start w E (record { now = now; event = Start }) side k refl refl refl refl (tried-primary w E (record { now = now; event = Start }) ∙ or_true (is_tried w Primary E))
primary-follows w E side now (Connected Primary) k m =
    follows-clear w Primary E _ (accepted w) refl refl refl refl (stays_tried w E now (Connected Primary) refl ∙ under_way_tried w Primary E side k (m refl)) refl
primary-follows w E side now (Connected Failover) k m = follows-other w Primary E _ side side k refl refl refl refl refl refl refl (stays_tried w E now (Connected Failover) refl ∙ k.tried) refl
primary-follows w E side now (Failed Primary) k m =
    follows-fail w Primary E _ side k refl refl (up-stays Primary E (record { now = now; event = Failed Primary }) refl ∙ under_way_down w Primary E side k (m refl))
    (stays_tried w E now (Failed Primary) refl ∙ under_way_tried w Primary E side k (m refl))
primary-follows w E side now (Failed Failover) k m = follows-other w Primary E _ side side k refl refl refl refl refl refl refl (stays_tried w E now (Failed Failover) refl ∙ k.tried) refl
primary-follows w E side now (Lost Primary) k m =
    follows-fail w Primary E _ side k refl refl (up-said Primary E (record { now = now; event = Lost Primary }) refl) (stays_tried w E now (Lost Primary) refl ∙ up_tried w Primary E side k (m refl))
primary-follows w E side now (Lost Failover) k m = follows-other w Primary E _ side side k refl refl refl refl refl refl refl (stays_tried w E now (Lost Failover) refl ∙ k.tried) refl
primary-follows w E side now Tick k m = follows-tick w Primary E _ side k refl refl refl refl refl (stays_tried w E now Tick refl)

-- ---- the failover

-- the failover is tried as before where nothing was told of the primary hub
tried_kept : (w : Waits) (E : List HubEvent) (e : HubEvent) → clears Primary e.event ≡ false → fails Primary e.event ≡ false → is_tried w Failover (E ++ e ∷ []) ≡ is_tried w Failover E
tried_kept w E e h f =
    tried-failover w E e h ∙ rw f (ap (λ b. w.failover && b) (or_false (list_any (λ x. fails Primary x.event) (trouble Primary E))))

-- it is tried, where it is given, once the primary hub failed
tried_begun : (w : Waits) (E : List HubEvent) (e : HubEvent) → clears Primary e.event ≡ false → fails Primary e.event ≡ true → is_tried w Failover (E ++ e ∷ []) ≡ w.failover
tried_begun w E e h f =
    tried-failover w E e h ∙ rw f (ap (λ b. w.failover && b) (or_true (list_any (λ x. fails Primary x.event) (trouble Primary E))) ∙ and_true w.failover)
  where
    and_true : (b : Bool) → (b && true) ≡ b
    and_true true = refl
    and_true false = refl

-- not given, it isn't tried
not_tried : (w : Waits) (E : List HubEvent) → w.failover ≡ false → is_tried w Failover E ≡ false
not_tried w E h = rw h refl

follows-trouble : (w : Waits) (E : List HubEvent) (e : HubEvent) (side : SideState) → SideStands w Failover E side → clears Failover e.event ≡ false → fails Failover e.event ≡ false
    → is_tick e.event ≡ false → starts Failover e ≡ false
    → (clears Failover e.event || loses Failover e.event) ≡ false → clears Primary e.event ≡ false → fails Primary e.event ≡ true
    → (b : Bool) → w.failover ≡ b → SideStands w Failover (E ++ e ∷ []) (cond b (begun side) side)
follows-trouble w E e side k h f t i c p q true g =
    follows-other w Failover E e side (begun side) k h f t i c (begun_up side.attempt) (begun_due side.attempt) (tried_begun w E e p q ∙ g ∙ begun_tried side.attempt) refl
follows-trouble w E e side k h f t i c p q false g =
    follows-other w Failover E e side side k h f t i c refl refl (tried_begun w E e p q ∙ g ∙ sym (not_tried w E g) ∙ k.tried) refl

pub failover-follows : (w : Waits) (E : List HubEvent) (side : SideState) (now : ℕ) (e : ConnectorEvent) → SideStands w Failover E side → MaySide Failover side.attempt e
    → SideStands w Failover (E ++ record { now = now; event = e } ∷ []) (failover_after w now side e)
failover-follows w E side now Start k m = follows-other w Failover E _ side side k refl refl refl refl refl refl refl (tried_kept w E (record { now = now; event = Start }) refl refl ∙ k.tried) refl
failover-follows w E side now (Connected Primary) k m =
    follows-clear w Failover E _ (dropped w) refl refl refl refl (tried-cleared w E (record { now = now; event = Connected Primary }) refl ∙ and_false w.failover) refl
failover-follows w E side now (Connected Failover) k m =
    follows-clear w Failover E _ (accepted w) refl refl refl refl (tried_kept w E (record { now = now; event = Connected Failover }) refl refl ∙ under_way_tried w Failover E side k (m refl)) refl
failover-follows w E side now (Failed Primary) k m = follows-trouble w E (record { now = now; event = Failed Primary }) side k refl refl refl refl refl refl refl w.failover refl
failover-follows w E side now (Failed Failover) k m =
    follows-fail w Failover E _ side k refl refl (up-stays Failover E (record { now = now; event = Failed Failover }) refl ∙ under_way_down w Failover E side k (m refl))
    (tried_kept w E (record { now = now; event = Failed Failover }) refl refl ∙ under_way_tried w Failover E side k (m refl))
failover-follows w E side now (Lost Primary) k m = follows-trouble w E (record { now = now; event = Lost Primary }) side k refl refl refl refl refl refl refl w.failover refl
failover-follows w E side now (Lost Failover) k m =
    follows-fail w Failover E _ side k refl refl (up-said Failover E (record { now = now; event = Lost Failover }) refl)
    (tried_kept w E (record { now = now; event = Lost Failover }) refl refl ∙ up_tried w Failover E side k (m refl))
failover-follows w E side now Tick k m = follows-tick w Failover E _ side k refl refl refl refl refl (tried_kept w E (record { now = now; event = Tick }) refl refl)

-- ---- the whole connector

of_primary : (c : Connector) (e : ConnectorEvent) → MayCome c e → MaySide Primary c.primary.attempt e
of_primary c Start m = tt
of_primary c (Connected Primary) m = λ _. m
of_primary c (Connected Failover) m = λ h. cc
of_primary c (Failed Primary) m = λ _. m
of_primary c (Failed Failover) m = λ h. cc
of_primary c (Lost Primary) m = λ _. m
of_primary c (Lost Failover) m = λ h. cc
of_primary c Tick m = tt

of_failover : (c : Connector) (e : ConnectorEvent) → MayCome c e → MaySide Failover c.failover.attempt e
of_failover c Start m = tt
of_failover c (Connected Primary) m = λ h. cc
of_failover c (Connected Failover) m = λ _. m
of_failover c (Failed Primary) m = λ h. cc
of_failover c (Failed Failover) m = λ _. m
of_failover c (Lost Primary) m = λ h. cc
of_failover c (Lost Failover) m = λ _. m
of_failover c Tick m = tt

step-follows : (w : Waits) (E : List HubEvent) (p f : SideState) (now : ℕ) (e : ConnectorEvent) → SideStands w Primary E p → SideStands w Failover E f
    → step_kept w now p.attempt f.attempt e ≡ connector_step w E (record { now = now; event = e })
step-follows w E p f now e k m = rw (k.up, k.due, m.up, m.due, m.tried) refl

-- What is kept goes on as a connector's does that is told this.
pub event_answers : (c d : Connector) (w : Waits) (E : List HubEvent) (now : ℕ) (e : ConnectorEvent) (step : ConnectorStep) → ConnectorStands c w E → MayCome c e
    → step ≡ step_kept c.waits now c.primary.attempt c.failover.attempt e
    → d ≡ record { waits = c.waits; primary = primary_after c.waits now c.primary e; failover = failover_after c.waits now c.failover e }
    → (step ≡ connector_step w E (record { now = now; event = e })) × ConnectorStands d w (E ++ record { now = now; event = e } ∷ [])
event_answers c d w E now e step h may is new = (
  is ∙ ap (λ v. step_kept v now c.primary.attempt c.failover.attempt e) h.waits ∙ step-follows w E c.primary c.failover now e h.primary h.failover,
  record {
    waits = ap (λ x. x.waits) new ∙ h.waits;
    primary = subst (λ side. SideStands w Primary (E ++ record { now = now; event = e } ∷ []) side)
        (sym (ap (λ x. x.primary) new ∙ ap (λ v. primary_after v now c.primary e) h.waits))
        (primary-follows w E c.primary now e h.primary (of_primary c e may));
    failover = subst (λ side. SideStands w Failover (E ++ record { now = now; event = e } ∷ []) side)
        (sym (ap (λ x. x.failover) new ∙ ap (λ v. failover_after v now c.failover e) h.waits))
        (failover-follows w E c.failover now e h.failover (of_failover c e may));
  },
)

-- A side is under way, or up, by the events exactly where the connector keeps it so.
pub under_way_by_events : (c : Connector) (w : Waits) (E : List HubEvent) (s : Side) → ConnectorStands c w E → is_under_way w s E ≡ says_under_way (attempt_at c s)
under_way_by_events c w E Primary h = rw (h.primary.tried, h.primary.up, h.primary.due) refl
under_way_by_events c w E Failover h = rw (h.failover.tried, h.failover.up, h.failover.due) refl
