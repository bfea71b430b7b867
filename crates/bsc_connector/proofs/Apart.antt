-- Two dials of a side lie apart in time.
-- It serves the clauses of `dials_keep_apart`.
use Rattle.std.proofs.Common.{◌≡◌, ℕ, ◌+◌, ◌≤◌, Bool, true, false, cond, not, ◌||◌, ◌&&◌, List, [], ◌∷◌, ◌++◌, Option, Some, None, is_none, refl, sym, ap, ◌∙◌, append_assoc, append-nil, arith, rules}
use Rattle.std.specs.Prelude.{nat_le}
use Rattle.std.specs.List.{list_any, AllByRecursion}
use Rattle.std.proofs.lemmas.Bool.{leb-true}
use Rattle.bsc_connector.specs.declared.side.Side.{Side}
use Rattle.bsc_connector.specs.declared.side.Side.TheVariants.{Primary, Failover}
use Rattle.bsc_connector.specs.declared.event.ConnectorEvent.{ConnectorEvent}
use Rattle.bsc_connector.specs.declared.event.ConnectorEvent.TheVariants.{Start, Connected, Failed, Lost, Tick}
use Rattle.bsc_connector.specs.declared.event.HubEvent.{HubEvent}
use Rattle.bsc_connector.specs.declared.side_state.Attempt.{Attempt}
use Rattle.bsc_connector.specs.declared.side_state.Attempt.TheVariants.{Idle, UnderWay, Up, Waiting}
use Rattle.bsc_connector.specs.declared.waits.Waits.{Waits}
use Rattle.bsc_connector.specs.declared.connector.Connector.{Connector}
use Rattle.bsc_connector.specs.Sides.{is_start, is_tick, fails, connects, clears, due, failures, wait, is_tried, is_up, trouble}
use Rattle.bsc_connector.specs.Steps.{has_come, is_idle, dials_primary, dials_failover}
use Rattle.bsc_connector.specs.Standing.{ConnectorStands}
use Rattle.bsc_connector.specs.Kept.{says_due, says_tried}
use Rattle.bsc_connector.proofs.SideLemmas.{due-cleared, due-failed, due-same, due-ticked, due-started, tried-failover, starts, unless_come}
use Rattle.bsc_lemmas.proofs.Booleans.{and_left as and_first, and_right as and_last, or_left, or_right}

-- ---- due times

-- The next attempt, where one is waited for, is due no earlier than the least wait after t.
abbrev DueLater : Waits → Side → ℕ → List HubEvent → Type 0
DueLater w s t E = (at : ℕ) → due w s E ≡ Some at → t + w.least ≤ at

least_wait : (w : Waits) (n : ℕ) → w.least ≤ w.greatest → w.least ≤ wait w n
least_wait w n h = search rules

come_some : (now : ℕ) (o : Option ℕ) (at : ℕ) → unless_come now o ≡ Some at → o ≡ Some at
come_some now None at h = h
come_some now (Some a) at h = by (nat_le a now) h
  where
    by : (b : Bool) → cond b None (Some a) ≡ Some at → Some a ≡ Some at
    by true k = cc
    by false k = k

due_later_more : (w : Waits) (s : Side) (t : ℕ) (E : List HubEvent) (e : HubEvent) → w.least ≤ w.greatest → t ≤ e.now → DueLater w s t E
    → (c f g k : Bool) → clears s e.event ≡ c → fails s e.event ≡ f → starts s e ≡ g → is_tick e.event ≡ k → DueLater w s t (E ++ e ∷ [])
due_later_more w s t E e range later h true f g k hc hf hg hk at is = let n : None ≡ Some at = sym (due-cleared w s E e hc) ∙ is in cc
due_later_more w s t E e range later h false true g k hc hf hg hk at is =
    let n : Some (e.now + wait w (failures s E + 1)) ≡ Some at = sym (due-failed w s E e hc hf) ∙ is in
    let m : e.now + wait w (failures s E + 1) ≡ at = cc in
    omega (arith, least_wait w (failures s E + 1) range)
due_later_more w s t E e range later h false false true k hc hf hg hk at is = let n : None ≡ Some at = sym (due-started w s E e hf hg) ∙ is in cc
due_later_more w s t E e range later h false false false true hc hf hg hk at is =
    h at (come_some e.now (due w s E) at (sym (due-ticked w s E e hc hf hk hg) ∙ is))
due_later_more w s t E e range later h false false false false hc hf hg hk at is = h at (sym (due-same w s E e hc hf hk hg) ∙ is)

due_later : (w : Waits) (s : Side) (t : ℕ) (E F : List HubEvent) → w.least ≤ w.greatest → AllByRecursion (λ x. t ≤ x.now) F → DueLater w s t E → DueLater w s t (E ++ F)
due_later w s t E [] range later h at is = h at (ap (λ xs. due w s xs) (sym (append-nil E)) ∙ is)
due_later w s t E (e ∷ F) range later h at is =
    due_later w s t (E ++ e ∷ []) F range later.1
    (due_later_more w s t E e range later.0 h (clears s e.event) (fails s e.event) (starts s e) (is_tick e.event) refl refl refl refl)
    at (ap (λ xs. due w s xs) (append_assoc E (e ∷ []) F) ∙ is)

none_later : (w : Waits) (s : Side) (t : ℕ) (E : List HubEvent) → due w s E ≡ None → DueLater w s t E
none_later w s t E n at is = let k : None ≡ Some at = sym n ∙ is in cc

-- a due time that has come
come : (now : ℕ) (o : Option ℕ) → has_come now o ≡ true → (at : ℕ) × (o ≡ Some at) × (at ≤ now)
come now None h = cc
come now (Some at) h = (at, refl, leb-true at now h)

pub come_none : (now : ℕ) (o : Option ℕ) → has_come now o ≡ true → unless_come now o ≡ None
come_none now None h = refl
come_none now (Some at) h = rw h refl

-- ---- the primary hub

primary_dialled : (w : Waits) (E : List HubEvent) (now : ℕ) (e : ConnectorEvent) → dials_primary w E (record { now = now; event = e }) ≡ true
    → due w Primary (E ++ record { now = now; event = e } ∷ []) ≡ None
primary_dialled w E now Start d = due-started w Primary E (record { now = now; event = Start }) refl refl
primary_dialled w E now (Connected t) d = cc
primary_dialled w E now (Failed t) d = cc
primary_dialled w E now (Lost t) d = cc
primary_dialled w E now Tick d = due-ticked w Primary E (record { now = now; event = Tick }) refl refl refl refl ∙ come_none now (due w Primary E) d

primary_due : (w : Waits) (E : List HubEvent) (now : ℕ) (e : ConnectorEvent) → is_start e ≡ false → dials_primary w E (record { now = now; event = e }) ≡ true → has_come now (due w Primary E) ≡ true
primary_due w E now Start s d = cc
primary_due w E now (Connected t) s d = cc
primary_due w E now (Failed t) s d = cc
primary_due w E now (Lost t) s d = cc
primary_due w E now Tick s d = d

pub primary_apart : (w : Waits) (E F : List HubEvent) (d e : HubEvent) → w.least ≤ w.greatest → dials_primary w E d ≡ true → AllByRecursion (λ x. d.now ≤ x.now) F
    → is_start e.event ≡ false → dials_primary w ((E ++ d ∷ []) ++ F) e ≡ true → d.now + w.least ≤ e.now
primary_apart w E F d e range first later start second =
    let c = come e.now (due w Primary ((E ++ d ∷ []) ++ F)) (primary_due w ((E ++ d ∷ []) ++ F) e.now e.event start second) in
    let l : d.now + w.least ≤ c.0 = due_later w Primary d.now (E ++ d ∷ []) F range later (none_later w Primary d.now (E ++ d ∷ []) (primary_dialled w E d.now d.event first)) c.0 c.1 in
    omega (arith, c.2)

-- ---- the failover

or_false : (b : Bool) → (b || false) ≡ true → b ≡ true
or_false true h = refl
or_false false h = h

none_is : (o : Option ℕ) → is_none o ≡ true → o ≡ None
none_is None h = refl
none_is (Some at) h = cc

idle_none : (w : Waits) (E : List HubEvent) → is_idle w E ≡ true → due w Failover E ≡ None
idle_none w E h = none_is (due w Failover E) (and_last _ (is_none (due w Failover E)) h)

idle_given : (w : Waits) (E : List HubEvent) → is_idle w E ≡ true → w.failover ≡ true
idle_given w E h = and_first w.failover _ (and_first _ _ (and_first _ (is_none (due w Failover E)) h))

failover_dialled : (w : Waits) (E : List HubEvent) (now : ℕ) (e : ConnectorEvent) → dials_failover w E (record { now = now; event = e }) ≡ true
    → due w Failover (E ++ record { now = now; event = e } ∷ []) ≡ None
failover_dialled w E now Start d = cc
failover_dialled w E now (Connected t) d = cc
failover_dialled w E now (Failed Primary) d = due-same w Failover E (record { now = now; event = Failed Primary }) refl refl refl refl ∙ idle_none w E (or_false (is_idle w E) d)
failover_dialled w E now (Failed Failover) d = cc
failover_dialled w E now (Lost Primary) d = due-same w Failover E (record { now = now; event = Lost Primary }) refl refl refl refl ∙ idle_none w E (or_false (is_idle w E) d)
failover_dialled w E now (Lost Failover) d = cc
failover_dialled w E now Tick d =
    due-ticked w Failover E (record { now = now; event = Tick }) refl refl refl refl ∙ come_none now (due w Failover E) (and_first (has_come now (due w Failover E)) (not (is_up Primary E)) d)

-- once the primary hub failed, the failover is tried until the primary hub accepts
tried_here : (f a b : Bool) → f ≡ true → b ≡ true → (f && (a || b)) ≡ true
tried_here true true b hf hb = refl
tried_here true false b hf hb = hb
tried_here false a b hf hb = hf

tried_still : (f a b : Bool) → (f && a) ≡ true → (f && (a || b)) ≡ true
tried_still true true b h = refl
tried_still true false b h = cc
tried_still false a b h = h

twice_or : (b : Bool) → b ≡ false → (b || b) ≡ false
twice_or b h = rw h refl

tried_more : (w : Waits) (E : List HubEvent) (e : HubEvent) → connects Primary e.event ≡ false → is_tried w Failover E ≡ true → is_tried w Failover (E ++ e ∷ []) ≡ true
tried_more w E e quiet h =
    tried-failover w E e (twice_or (connects Primary e.event) quiet) ∙ tried_still w.failover (list_any (λ x. fails Primary x.event) (trouble Primary E)) (fails Primary e.event) h

tried_later : (w : Waits) (E F : List HubEvent) → list_any (λ x. connects Primary x.event) F ≡ false → is_tried w Failover E ≡ true → is_tried w Failover (E ++ F) ≡ true
tried_later w E [] quiet h = ap (λ xs. is_tried w Failover xs) (append-nil E) ∙ h
tried_later w E (e ∷ F) quiet h =
    ap (λ xs. is_tried w Failover xs) (sym (append_assoc E (e ∷ []) F))
    ∙ tried_later w (E ++ e ∷ []) F (or_right (connects Primary e.event) _ quiet) (tried_more w E e (or_left (connects Primary e.event) _ quiet) h)

due_tried : (a : Attempt) (at : ℕ) → says_due a ≡ Some at → says_tried a ≡ true
due_tried Idle at h = cc
due_tried UnderWay at h = cc
due_tried Up at h = cc
due_tried (Waiting n) at h = refl

failover_tried : (c : Connector) (w : Waits) (E : List HubEvent) (now : ℕ) (e : ConnectorEvent) → ConnectorStands c w E → dials_failover w E (record { now = now; event = e }) ≡ true
    → is_tried w Failover (E ++ record { now = now; event = e } ∷ []) ≡ true
failover_tried c w E now Start k d = cc
failover_tried c w E now (Connected t) k d = cc
failover_tried c w E now (Failed Primary) k d =
    tried-failover w E (record { now = now; event = Failed Primary }) refl
    ∙ tried_here w.failover (list_any (λ x. fails Primary x.event) (trouble Primary E)) true (idle_given w E (or_false (is_idle w E) d)) refl
failover_tried c w E now (Failed Failover) k d = cc
failover_tried c w E now (Lost Primary) k d =
    tried-failover w E (record { now = now; event = Lost Primary }) refl
    ∙ tried_here w.failover (list_any (λ x. fails Primary x.event) (trouble Primary E)) true (idle_given w E (or_false (is_idle w E) d)) refl
failover_tried c w E now (Lost Failover) k d = cc
failover_tried c w E now Tick k d =
    let h = come now (due w Failover E) (and_first (has_come now (due w Failover E)) (not (is_up Primary E)) d) in
    tried_more w E (record { now = now; event = Tick }) refl (k.failover.tried ∙ due_tried c.failover.attempt h.0 (sym k.failover.due ∙ h.1))

-- one that is tried isn't idle
not_idle : (f t u n : Bool) → t ≡ true → (((f && not u) && not ((t && not u) && n)) && n) ≡ false
not_idle true true true n h = refl
not_idle true true false true h = refl
not_idle true true false false h = refl
not_idle false true u n h = refl
not_idle f false u n h = cc

second_due : (w : Waits) (E : List HubEvent) (now : ℕ) (e : ConnectorEvent) → is_idle w E ≡ false → dials_failover w E (record { now = now; event = e }) ≡ true → has_come now (due w Failover E) ≡ true
second_due w E now Start i d = cc
second_due w E now (Connected t) i d = cc
second_due w E now (Failed Primary) i d = let k : is_idle w E ≡ true = or_false (is_idle w E) d in cc
second_due w E now (Failed Failover) i d = cc
second_due w E now (Lost Primary) i d = let k : is_idle w E ≡ true = or_false (is_idle w E) d in cc
second_due w E now (Lost Failover) i d = cc
second_due w E now Tick i d = and_first (has_come now (due w Failover E)) (not (is_up Primary E)) d

pub failover_apart : (c : Connector) (w : Waits) (E F : List HubEvent) (d e : HubEvent) → ConnectorStands c w E → w.least ≤ w.greatest → dials_failover w E d ≡ true
    → AllByRecursion (λ x. d.now ≤ x.now) F → list_any (λ x. connects Primary x.event) F ≡ false
    → dials_failover w ((E ++ d ∷ []) ++ F) e ≡ true → d.now + w.least ≤ e.now
failover_apart c w E F d e k range first later quiet second =
    let P : List HubEvent = (E ++ d ∷ []) ++ F in
    let t : is_tried w Failover P ≡ true = tried_later w (E ++ d ∷ []) F quiet (failover_tried c w E d.now d.event k first) in
    let i : is_idle w P ≡ false = not_idle w.failover (is_tried w Failover P) (is_up Failover P) (is_none (due w Failover P)) t in
    let h = come e.now (due w Failover P) (second_due w P e.now e.event i second) in
    let l : d.now + w.least ≤ h.0 = due_later w Failover d.now (E ++ d ∷ []) F range later (none_later w Failover d.now (E ++ d ∷ []) (failover_dialled w E d.now d.event first)) h.0 h.1 in
    omega (arith, h.2)
