-- A log stays tied as lines that fit come about, and at each event.
-- It serves the clauses of `links_begin_anew`.
use Rattle.std.proofs.Common.{◌≡◌, ℕ, Bool, true, false, not, cond, ◌||◌, ◌&&◌, List, [], ◌∷◌, ◌++◌, find, Option, Some, None, refl, ap, sym, ◌∙◌, subst}
use Rattle.std.specs.Prelude.{◌==◌}
use Rattle.std.proofs.lemmas.Bool.{eqb-true}
use Rattle.std.proofs.lemmas.List.{append_assoc, append-nil}
use Rattle.std.proofs.lemmas.List.Elements.{filter_map-append}
use Rattle.bsc_octets.specs.declared.vmac.Vmac.{Vmac}
use Rattle.bsc_connector.specs.declared.side.Side.TheVariants.{Primary, Failover}
use Rattle.bsc_connector.specs.declared.event.ConnectorEvent.{ConnectorEvent}
use Rattle.bsc_connector.specs.declared.event.ConnectorEvent.TheVariants.{Start, Connected, Failed, Lost, Tick}
use Rattle.bsc_connector.specs.declared.event.HubEvent.{HubEvent}
use Rattle.bsc_connector.specs.declared.waits.Waits.{Waits}
use Rattle.bsc_connector.specs.Back.{at_last}
use Rattle.bsc_connector.specs.Sides.{is_start, is_tick, fails, clears, due}
use Rattle.bsc_connector.specs.Steps.{has_come, dials_primary, connector_step}
use Rattle.bsc_connector.specs.declared.step.ConnectorStep.{ConnectorStep}
use Rattle.bsc_connector.proofs.SideLemmas.{unless_come, due-cleared, due-same, due-ticked}
use Rattle.bsc_direct.specs.declared.call.SlotCall.{SlotCall}
use Rattle.bsc_direct.specs.declared.call.SlotCall.TheVariants.{Claim, Up, Release}
use Rattle.bsc_direct.specs.Slots.{slots, is_claimed}
use Rattle.bsc_direct.proofs.OneMore.{claimed-kept, claimed-said, both_ways}
use Rattle.bsc_initiate.specs.declared.event.InitEvent.{InitEvent}
use Rattle.bsc_initiate.specs.declared.event.InitEvent.TheVariants.{Opened as MachineOpened}
use Rattle.bsc_node.specs.declared.link_name.LinkName.{LinkName}
use Rattle.bsc_node.specs.declared.link_name.LinkName.TheVariants.{Hub, Direct}
use Rattle.bsc_node.specs.declared.note.Note.{Note}
use Rattle.bsc_node.specs.declared.note.Note.TheVariants.{Finished}
use Rattle.bsc_node.specs.declared.timed_event.TimedEvent.{TimedEvent}
use Rattle.bsc_node.specs.declared.action.Action.{Action}
use Rattle.bsc_node.specs.declared.action.Action.TheVariants.{Dial, Take, Tell}
use Rattle.bsc_node.specs.Logs.{Made, Line, came, initiating, accepting, connector, slot, resolution, did, Log, now, is_finishing}
use Rattle.bsc_node.specs.Links.{begins, is_there}
use Rattle.bsc_node.specs.Hubs.{waits, hub_event_of, hub_events, no_step, newest_step, told}
use Rattle.bsc_node.specs.Ways.{slot_call_of, slot_calls, free_slot}
use Rattle.bsc_node.specs.Ending.{dials}
use Rattle.bsc_node.proofs.Told.{at_last-more, same_link-self}
use Rattle.bsc_node_laws.specs.Links.{MayStand, EachMay}
use Rattle.bsc_connector.proofs.Apart.{come_none}
use Rattle.bsc_node_laws.proofs.Tied.{Tied, FitsHub, FitsDial, Fits, EachFits}
use Rattle.bsc_node_laws.proofs.There.{begins-dial, begins-take, gone-stays, there-before}
use Rattle.bsc_lemmas.proofs.Booleans.{and_left, and_right, not_true}
use Rattle.bsc_node.proofs.Common.{hub_events-kept as hub_events-same, slot_calls-kept as slot_calls-same}
use Rattle.std.proofs.lemmas.Option.{same_Some as some_same}

-- ---- what the connector and the slots were told

pub hub_events-more : (L : Log) (e : HubEvent) → hub_events (L ++ connector e ∷ []) ≡ hub_events L ++ e ∷ []
hub_events-more L e = filter_map-append hub_event_of L (connector e ∷ [])

pub slot_calls-more : (L : Log) (call : SlotCall) → slot_calls (L ++ slot call ∷ []) ≡ slot_calls L ++ call ∷ []
slot_calls-more L call = filter_map-append slot_call_of L (slot call ∷ [])

-- ---- a line that begins no link

-- The primary hub's link stays tied at a line that neither begins it nor tells the connector anything.
primary-kept : (a : Made) (L : Log) (m : Line) → begins (Hub Primary) m ≡ false → hub_event_of m ≡ None → Tied a L
    → is_there (Hub Primary) (L ++ m ∷ []) ≡ true → due (waits a) Primary (hub_events (L ++ m ∷ [])) ≡ None
primary-kept a L m b h t there = ap (due (waits a) Primary) (hub_events-same L m h) ∙ t.primary (there-before (Hub Primary) L m b there)

-- A slot's link stays tied at a line that neither begins it nor tells the slots anything.
claimed-same : (a : Made) (L : Log) (m : Line) (k : ℕ) → begins (Direct k) m ≡ false → slot_call_of m ≡ None → Tied a L
    → is_there (Direct k) (L ++ m ∷ []) ≡ true → is_claimed (slot_calls (L ++ m ∷ [])) k ≡ true
claimed-same a L m k b s t there =
    ap (λ (calls : List SlotCall). is_claimed calls k) (slot_calls-same L m s) ∙ t.claimed k (there-before (Direct k) L m b there)

-- A line that begins no link, and tells neither the connector nor the slots anything, leaves a log tied.
keeps-still : (a : Made) (L : Log) (m : Line) → ((name : LinkName) → begins name m ≡ false) → hub_event_of m ≡ None → slot_call_of m ≡ None → Tied a L → Tied a (L ++ m ∷ [])
keeps-still a L m b h s t = record {
  primary = primary-kept a L m (b (Hub Primary)) h t;
  claimed = λ k. claimed-same a L m k (b (Direct k)) s t;
}

-- An event leaves a log tied.
pub keeps_event : (a : Made) (L : Log) (e : TimedEvent) → Tied a L → Tied a (L ++ came e ∷ [])
keeps_event a L e t = keeps-still a L (came e) (λ name. refl) refl refl t

-- So does that a link opens.
pub keeps_opened : (a : Made) (L : Log) (name : LinkName) (now id : ℕ) → Tied a L → Tied a (L ++ initiating name (MachineOpened now id) ∷ [])
keeps_opened a L name now id t = keeps-still a L (initiating name (MachineOpened now id)) (λ other. refl) refl refl t

-- ---- the connector

-- While the primary hub's link is there, what may be told leaves no next attempt at it due.
due-stays : (w : Waits) (L : Log) (E : List HubEvent) (e : HubEvent) (event : ConnectorEvent) → e.event ≡ event → FitsHub L event
    → is_there (Hub Primary) L ≡ true → due w Primary E ≡ None → due w Primary (E ++ e ∷ []) ≡ None
due-stays w L E e Start is fits there none = absurd fits
due-stays w L E e (Connected Primary) is fits there none = due-cleared w Primary E e (ap (clears Primary) is)
due-stays w L E e (Connected Failover) is fits there none =
    due-same w Primary E e (ap (clears Primary) is) (ap (fails Primary) is) (ap is_tick is) (rw is refl) ∙ none
due-stays w L E e (Failed Primary) is fits there none = both_ways (is_there (Hub Primary) L) there fits
due-stays w L E e (Failed Failover) is fits there none =
    due-same w Primary E e (ap (clears Primary) is) (ap (fails Primary) is) (ap is_tick is) (rw is refl) ∙ none
due-stays w L E e (Lost Primary) is fits there none = both_ways (is_there (Hub Primary) L) there fits
due-stays w L E e (Lost Failover) is fits there none =
    due-same w Primary E e (ap (clears Primary) is) (ap (fails Primary) is) (ap is_tick is) (rw is refl) ∙ none
due-stays w L E e Tick is fits there none =
    due-ticked w Primary E e (ap (clears Primary) is) (ap (fails Primary) is) (ap is_tick is) (rw is refl) ∙ ap (unless_come e.now) none

keeps-connector : (a : Made) (L : Log) (e : HubEvent) → Tied a L → FitsHub L e.event → Tied a (L ++ connector e ∷ [])
keeps-connector a L e t fits = record {
  primary = λ there.
      let before : is_there (Hub Primary) L ≡ true = there-before (Hub Primary) L (connector e) refl there in
      ap (due (waits a) Primary) (hub_events-more L e) ∙ due-stays (waits a) L (hub_events L) e e.event refl fits before (t.primary before);
  claimed = λ k. claimed-same a L (connector e) k refl refl t;
}

-- ---- the slots

-- the slot of a link that is there stays claimed at what may happen
claimed-stays : (a : Made) (L : Log) (call : SlotCall) (k : ℕ) → Fits a L (slot call) → is_there (Direct k) L ≡ true → is_claimed (slot_calls L) k ≡ true
    → is_claimed (slot_calls L ++ call ∷ []) k ≡ true
claimed-stays a L (Up j who) k fits there claimed = claimed-kept (slot_calls L) (Up j who) k refl ∙ claimed
claimed-stays a L (Claim j wanted) k fits there claimed = by (j == k) refl
  where
    by : (b : Bool) → (j == k) ≡ b → is_claimed (slot_calls L ++ Claim j wanted ∷ []) k ≡ true
    by true e = claimed-said (slot_calls L) (Claim j wanted) k true (ap (λ (b : Bool). cond b (Some true) None) e)
    by false e = claimed-kept (slot_calls L) (Claim j wanted) k (ap (λ (b : Bool). cond b (Some true) None) e) ∙ claimed
claimed-stays a L (Release j) k fits there claimed = by (j == k) refl
  where
    by : (b : Bool) → (j == k) ≡ b → is_claimed (slot_calls L ++ Release j ∷ []) k ≡ true
    by true e = both_ways (is_there (Direct k) L) there (subst (λ (i : ℕ). is_there (Direct i) L ≡ false) (eqb-true j k e) fits)
    by false e = claimed-kept (slot_calls L) (Release j) k (ap (λ (b : Bool). cond b (Some false) None) e) ∙ claimed

keeps-slot : (a : Made) (L : Log) (call : SlotCall) → Tied a L → Fits a L (slot call) → Tied a (L ++ slot call ∷ [])
keeps-slot a L call t fits = record {
  primary = primary-kept a L (slot call) refl refl t;
  claimed = λ k there.
      let before : is_there (Direct k) L ≡ true = there-before (Direct k) L (slot call) refl there in
      ap (λ (calls : List SlotCall). is_claimed calls k) (slot_calls-more L call) ∙ claimed-stays a L call k fits before (t.claimed k before);
}

-- ---- dials

keeps-dial : (a : Made) (L : Log) (name : LinkName) (uri : List ℕ) → Tied a L → FitsDial a L name → Tied a (L ++ did (Dial name uri) ∷ [])
keeps-dial a L (Hub Primary) uri t fits = record {
  primary = λ there. ap (due (waits a) Primary) (hub_events-same L (did (Dial (Hub Primary) uri)) refl) ∙ fits.1;
  claimed = λ k. claimed-same a L (did (Dial (Hub Primary) uri)) k refl refl t;
}
keeps-dial a L (Hub Failover) uri t fits = record {
  primary = primary-kept a L (did (Dial (Hub Failover) uri)) refl refl t;
  claimed = λ k. claimed-same a L (did (Dial (Hub Failover) uri)) k refl refl t;
}
keeps-dial a L (Direct j) uri t fits = record {
  primary = primary-kept a L (did (Dial (Direct j) uri)) refl refl t;
  claimed = λ k there. by k (j == k) refl there;
}
  where
    by : (k : ℕ) (b : Bool) → (j == k) ≡ b → is_there (Direct k) (L ++ did (Dial (Direct j) uri) ∷ []) ≡ true → is_claimed (slot_calls (L ++ did (Dial (Direct j) uri) ∷ [])) k ≡ true
    by k true e there =
        ap (λ (calls : List SlotCall). is_claimed calls k) (slot_calls-same L (did (Dial (Direct j) uri)) refl)
        ∙ subst (λ (i : ℕ). is_claimed (slot_calls L) i ≡ true) (eqb-true j k e) fits.1
    by k false e there = claimed-same a L (did (Dial (Direct j) uri)) k (begins-dial (Direct k) (Direct j) uri ∙ e) refl t there

-- ---- all lines

keeps-did : (a : Made) (L : Log) (action : Action) → Tied a L → Fits a L (did action) → Tied a (L ++ did action ∷ [])
keeps-did a L (Dial name uri) t fits = keeps-dial a L name uri t fits.0
keeps-did a L (Take name) t fits = absurd fits
keeps-did a L action t fits = keeps-still a L (did action) (λ name. refl) refl refl t

-- A line that fits leaves a log tied.
pub keeps : (a : Made) (L : Log) (m : Line) → Tied a L → Fits a L m → Tied a (L ++ m ∷ [])
keeps a L (came e) t fits = absurd fits
keeps a L (initiating name e) t fits = keeps-still a L (initiating name e) (λ other. refl) refl refl t
keeps a L (accepting name e) t fits = keeps-still a L (accepting name e) (λ other. refl) refl refl t
keeps a L (connector e) t fits = keeps-connector a L e t fits
keeps a L (slot call) t fits = keeps-slot a L call t fits
keeps a L (resolution call) t fits = keeps-still a L (resolution call) (λ other. refl) refl refl t
keeps a L (did action) t fits = keeps-did a L action t fits

pub keeps_each : (a : Made) (L : Log) (lines : List Line) → Tied a L → EachFits a L lines → Tied a (L ++ lines)
keeps_each a L [] t fits = subst (Tied a) (sym (append-nil L)) t
keeps_each a L (m ∷ lines) t fits = subst (Tied a) (append_assoc L (m ∷ []) lines) (keeps_each a (L ++ m ∷ []) lines (keeps a L m t fits.0) fits.1)

-- ---- links that are taken, and free slots

pub claimed_now : (L : Log) (k : ℕ) (wanted : Option Vmac) → is_claimed (slot_calls (L ++ slot (Claim k wanted) ∷ [])) k ≡ true
claimed_now L k wanted =
    ap (λ (calls : List SlotCall). is_claimed calls k) (slot_calls-more L (Claim k wanted))
    ∙ claimed-said (slot_calls L) (Claim k wanted) k true (ap (λ (b : Bool). cond b (Some true) None) (same_link-self (Direct k)))

-- A slot that is claimed, and whose link is taken at once, leaves a log tied.
pub keeps_taken : (a : Made) (L : Log) (k : ℕ) → Tied a L → Tied a ((L ++ slot (Claim k None) ∷ []) ++ did (Take (Direct k)) ∷ [])
keeps_taken a L k t = record {
  primary = primary-kept a M (did (Take (Direct k))) refl refl claimed;
  claimed = λ j there. by j (k == j) refl there;
}
  where
    M : Log
    M = L ++ slot (Claim k None) ∷ []

    claimed : Tied a M
    claimed = keeps-slot a L (Claim k None) t tt

    by : (j : ℕ) (b : Bool) → (k == j) ≡ b → is_there (Direct j) (M ++ did (Take (Direct k)) ∷ []) ≡ true → is_claimed (slot_calls (M ++ did (Take (Direct k)) ∷ [])) j ≡ true
    by j true e there =
        ap (λ (calls : List SlotCall). is_claimed calls j) (slot_calls-same M (did (Take (Direct k))) refl)
        ∙ subst (λ (i : ℕ). is_claimed (slot_calls M) i ≡ true) (eqb-true k j e) (claimed_now L k None)
    by j false e there = claimed-same a M (did (Take (Direct k))) j (begins-take (Direct j) (Direct k) ∙ e) refl claimed there

-- what is found passes the test
pub found_passes : (test : ℕ → Bool) (ks : List ℕ) (k : ℕ) → find test ks ≡ Some k → test k ≡ true
found_passes test [] k h = cc
found_passes test (j ∷ ks) k h = by (test j) refl h (found_passes test ks k)
  where
    by : (b : Bool) → test j ≡ b → cond b (Some j) (find test ks) ≡ Some k → (find test ks ≡ Some k → test k ≡ true) → test k ≡ true
    by true e g later = ap test (sym (some_same j k g)) ∙ e
    by false e g later = later g

-- No link of a free slot is there.
pub free_gone : (a : Made) (L : Log) (k : ℕ) → Tied a L → free_slot L ≡ Some k → is_there (Direct k) L ≡ false
free_gone a L k t free = by (is_there (Direct k) L) refl
  where
    by : (b : Bool) → is_there (Direct k) L ≡ b → b ≡ false
    by true there =
        both_ways (is_claimed (slot_calls L) k) (t.claimed k there)
        (not_true (is_claimed (slot_calls L) k) (found_passes (λ j. not (is_claimed (slot_calls L) j)) slots k free))
    by false there = refl

-- ---- lines that fit, one after the other

pub fits_append : (a : Made) (L : Log) (xs ys : List Line) → EachFits a L xs → EachFits a (L ++ xs) ys → EachFits a L (xs ++ ys)
fits_append a L [] ys f g = subst (λ (M : Log). EachFits a M ys) (append-nil L) g
fits_append a L (m ∷ xs) ys f g = (f.0, fits_append a (L ++ m ∷ []) xs ys f.1 (subst (λ (M : Log). EachFits a M ys) (sym (append_assoc L (m ∷ []) xs)) g))

dial_gone : (a : Made) (L : Log) (name : LinkName) → FitsDial a L name → is_there name L ≡ false
dial_gone a L (Hub Primary) f = f.0
dial_gone a L (Hub Failover) f = f
dial_gone a L (Direct k) f = f.0

may_tell : (a : Made) (L : Log) (note : Note) → Fits a L (did (Tell note)) → MayStand L (did (Tell note))
may_tell a L Finished f = f
may_tell a L note f = tt

may_do : (a : Made) (L : Log) (action : Action) → Fits a L (did action) → MayStand L (did action)
may_do a L (Dial name uri) f = (dial_gone a L name f.0, f.1)
may_do a L (Take name) f = absurd f
may_do a L (Tell note) f = may_tell a L note f
may_do a L action f = tt

may_initiate : (a : Made) (L : Log) (name : LinkName) (e : InitEvent) → Fits a L (initiating name e) → MayStand L (initiating name e)
may_initiate a L name (MachineOpened now id) f = absurd f
may_initiate a L name e f = tt

-- A line that fits may stand.
fits-may : (a : Made) (L : Log) (m : Line) → Fits a L m → MayStand L m
fits-may a L (came e) f = absurd f
fits-may a L (initiating name e) f = may_initiate a L name e f
fits-may a L (did action) f = may_do a L action f
fits-may a L m f = tt

pub fits_may : (a : Made) (L : Log) (lines : List Line) → EachFits a L lines → EachMay L lines
fits_may a L [] f = tt
fits_may a L (m ∷ lines) f = (fits-may a L m f.0, fits_may a (L ++ m ∷ []) lines f.1)

-- ---- the primary hub is dialled

not_none : {B : Type 0} (n : ℕ) (o : Option ℕ) → has_come n o ≡ true → o ≡ None → B
not_none n o h none = both_ways (has_come n o) h (ap (has_come n) none)

-- Other than at a start the primary hub is dialled only where its next attempt was due, so that its link isn't there; and
-- then none is due.
pub dials_when_gone : (a : Made) (L : Log) (event : ConnectorEvent) → Tied a L → is_start event ≡ false → dials a Primary (L ++ told event L) ≡ true
    → FitsDial a (L ++ told event L) (Hub Primary)
dials_when_gone a L event t start h = (gone-stays (Hub Primary) L (connector e) refl (gone (is_there (Hub Primary) L) refl), none event refl)
  where
    e : HubEvent
    e = record { now = now L; event = event }

    next : Option ℕ
    next = due (waits a) Primary (hub_events L)

    step : newest_step a (L ++ told event L) ≡ connector_step (waits a) (hub_events L) e
    step = ap (at_last (connector_step (waits a)) no_step) (hub_events-more L e) ∙ at_last-more (connector_step (waits a)) no_step (hub_events L) e

    dialled : dials_primary (waits a) (hub_events L) e ≡ true
    dialled =
        sym (ap (λ (s : ConnectorStep). s.dial_primary) step)
        ∙ and_left (newest_step a (L ++ told event L)).dial_primary (not (is_finishing (L ++ told event L))) h

    ticks : (is_tick event && has_come (now L) next) ≡ true
    ticks = sym (ap (λ (b : Bool). b || (is_tick event && has_come (now L) next)) start) ∙ dialled

    come : has_come (now L) next ≡ true
    come = and_right (is_tick event) (has_come (now L) next) ticks

    gone : (b : Bool) → is_there (Hub Primary) L ≡ b → b ≡ false
    gone true there = not_none (now L) next come (t.primary there)
    gone false there = refl

    none : (v : ConnectorEvent) → event ≡ v → due (waits a) Primary (hub_events (L ++ told event L)) ≡ None
    none Tick is =
        ap (due (waits a) Primary) (hub_events-more L e)
        ∙ due-ticked (waits a) Primary (hub_events L) e (ap (clears Primary) is) (ap (fails Primary) is) (ap is_tick is) (rw is refl)
        ∙ come_none (now L) next come
    none v is = both_ways (is_tick event) (and_left (is_tick event) (has_come (now L) next) ticks) (ap is_tick is)
