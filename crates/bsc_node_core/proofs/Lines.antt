-- What a node keeps goes on standing for its log, at one line more.
-- It serves clauses of most source files here.
use Rattle.std.proofs.Common.{◌≡◌, ℕ, ◌+◌, Bool, true, false, not, cond, ◌||◌, List, [], ◌∷◌, ◌++◌, Option, None, refl, ap, sym, ◌∙◌, subst, append_assoc}
use Rattle.std.specs.Prelude.{◌%◌, min, count_by, is_some}
use Rattle.std.specs.Option.{option_or}
use Rattle.std.proofs.Math.Nat.{mod-add-mod}
use Rattle.bsc_octets.specs.Forwarding.{function_in}
use Rattle.bsc_octets.specs.Functions.{is_response}
use Rattle.bsc_connector.specs.declared.side.Side.TheVariants.{Primary, Failover}
use Rattle.bsc_connector.specs.Standing.{ConnectorStands}
use Rattle.bsc_direct.specs.Standing.{DirectStands}
use Rattle.bsc_accept.specs.declared.accepting.Accepting.{Accepting}
use Rattle.bsc_node.specs.declared.bounds.TheConstants.{RENEWALS}
use Rattle.bsc_node.specs.declared.link_name.LinkName.{LinkName}
use Rattle.bsc_node.specs.declared.link_name.LinkName.TheVariants.{Hub, Direct}
use Rattle.bsc_node.specs.declared.action.Action.{Action}
use Rattle.bsc_node.specs.declared.action.Action.TheVariants.{Put}
use Rattle.bsc_node.specs.Logs.{Made, Line, slot, connector, did, Log, now, action_of, is_numbered, next_id}
use Rattle.bsc_node.specs.Links.{beginning_of, begins, begins_by, is_over_by, life, initiating_event, accepting_event, initiating_events, accepting_events, who_accepted, who_asked, peer}
use Rattle.std.specs.List.{list_any}
use Rattle.bsc_connector.specs.declared.event.ConnectorEvent.{ConnectorEvent}
use Rattle.bsc_connector.specs.declared.event.HubEvent.{HubEvent}
use Rattle.bsc_connector.specs.declared.connector.Connector.{Connector}
use Rattle.bsc_connector.specs.declared.step.ConnectorStep.{ConnectorStep}
use Rattle.bsc_connector.specs.Back.{at_last}
use Rattle.bsc_connector.specs.Sides as Sides
use Rattle.bsc_connector.specs.Steps.{connector_step}
use Rattle.bsc_connector.proofs.BackLemmas.{list_any-more}
use Rattle.bsc_direct.specs.declared.direct.Direct.{Direct as SlotTable}
use Rattle.bsc_direct.specs.declared.call.SlotCall.{SlotCall}
use Rattle.bsc_node.specs.Meeting.{is_renewal, is_accept_of_hub, renewals}
use Rattle.bsc_node.specs.Hubs.{waits, hub_event_of, hub_events, is_dropped, is_connected_event, newest_step, no_step, told}
use Rattle.bsc_node.proofs.Told.{life-more, at_last-more}
use Rattle.bsc_node.specs.Ways.{slot_call_of, slot_calls, is_claim_of}
use Rattle.bsc_node_core.specs.declared.machine.Machine.{Machine}
use Rattle.bsc_node_core.specs.declared.machine.Machine.TheVariants.{Gone, Over, Dialled, Taken, Asked}
use Rattle.bsc_node_core.specs.declared.state.State.{State}
use Rattle.bsc_node_core.specs.Tables.{Kept, link_at}
use Rattle.bsc_node_core.specs.Standing.{Base, next_after, renewals_after, dropped_after, HaveCome, TakenStands, MachineStands, LinkStands, Stands}
use Rattle.bsc_node_core.proofs.More.{now-kept, own-kept, next-kept, finishing-kept, renewals-kept, refusing-kept, dropped-kept, tries-kept, taken-kept, start-kept}
use Rattle.bsc_node_core.proofs.More.{initiating-kept, accepting-kept, since-now, count-one_more, filter-one_more}
use Rattle.bsc_node_core.proofs.Untouched.{agrees-slots}
use Rattle.bsc_lemmas.proofs.Lists.{filter_map_none as filter-kept}
use Rattle.bsc_node.proofs.Common.{hub_events-kept, resolve_calls-kept, slot_calls-kept}
use Rattle.bsc_node.proofs.There.{there-other as there-kept}

-- ---- links of which a line says nothing

taken-machine-kept : (a : Made) (L : Log) (m : Line) (name : LinkName) (x : Accepting) → beginning_of name m ≡ None → initiating_event name m ≡ None → accepting_event name m ≡ None
    → TakenStands a L name x → TakenStands a (L ++ m ∷ []) name x
taken-machine-kept a L m name x h i j s = record {
  slot = s.slot;
  taken = taken-kept name L m h ∙ s.taken;
  alone = initiating-kept L m name (ap is_some h) i ∙ s.alone;
  machine = rw (start-kept a L m name (ap is_some h), accepting-kept L m name (ap is_some h) j) s.machine;
  ask = rw (accepting-kept L m name (ap is_some h) j) s.ask;
}

machine-kept : (a : Made) (busy : Option LinkName) (L : Log) (m : Line) (name : LinkName) (machine : Machine) → beginning_of name m ≡ None → initiating_event name m ≡ None
    → accepting_event name m ≡ None
    → MachineStands a busy L name machine → MachineStands a busy (L ++ m ∷ []) name machine
machine-kept a busy L m name Gone h i j s = s
machine-kept a busy L m name Over h i j s = s
machine-kept a busy L m name (Dialled x) h i j s = record {
  dialled = taken-kept name L m h ∙ s.dialled;
  alone = accepting-kept L m name (ap is_some h) j ∙ s.alone;
  machine = rw (start-kept a L m name (ap is_some h), initiating-kept L m name (ap is_some h) i) s.machine;
  accept = rw (initiating-kept L m name (ap is_some h) i) s.accept;
}
machine-kept a busy L m name (Taken x) h i j s = taken-machine-kept a L m name x h i j s
machine-kept a busy L m name (Asked x) h i j s = (taken-machine-kept a L m name x h i j s.0, s.1)

pub peer-kept : (L : Log) (m : Line) (name : LinkName) → beginning_of name m ≡ None → initiating_event name m ≡ None → accepting_event name m ≡ None → peer (L ++ m ∷ []) name ≡ peer L name
peer-kept L m name h i j =
    ap (λ es. option_or (who_accepted es) (who_asked (accepting_events (L ++ m ∷ []) name))) (initiating-kept L m name (ap is_some h) i)
    ∙ ap (λ es. option_or (who_accepted (initiating_events L name)) (who_asked es)) (accepting-kept L m name (ap is_some h) j)

pub link-kept : (a : Made) (busy : Option LinkName) (L : Log) (m : Line) (name : LinkName) (l : Kept) → beginning_of name m ≡ None → is_over_by name m ≡ false
    → initiating_event name m ≡ None → accepting_event name m ≡ None
    → LinkStands a busy L name l → LinkStands a busy (L ++ m ∷ []) name l
link-kept a busy L m name l h g i j s = record {
  there = there-kept name L m (ap is_some h) g ∙ s.there;
  machine = machine-kept a busy L m name l.machine h i j s.machine;
  peer = peer-kept L m name h i j ∙ s.peer;
}

-- ---- the actions

pub came-did : (b : Base) (out : List Action) (L : Log) (action : Action) → HaveCome b out L → HaveCome b (out ++ action ∷ []) (L ++ did action ∷ [])
came-did b out L action h = record {
  lines = h.lines ++ did action ∷ [];
  log = ap (λ M. M ++ did action ∷ []) h.log ∙ append_assoc b.before h.lines (did action ∷ []);
  actions = ap (λ os. os ++ action ∷ []) h.actions ∙ sym (filter-one_more action_of h.lines (did action) action refl);
}

-- ---- an action that changes nothing that is kept

-- It begins and ends no link, and is no message with a number.
pub record IsQuiet (action : Action) : Type 0 where
  pub begins : (name : LinkName) → begins_by name action ≡ None
  pub over : (name : LinkName) → is_over_by name (did action) ≡ false
  pub number : is_numbered (did action) ≡ false

-- what is kept beside the next number, at an action that begins and ends no link
abbrev at_next : State → ℕ → State
at_next s n = record s { next = n }

acts : (b : Base) (out : List Action) (s : State) (L : Log) (action : Action) (n : ℕ) → ((name : LinkName) → begins_by name action ≡ None) → ((name : LinkName) → is_over_by name (did action) ≡ false)
    → next_id (L ++ did action ∷ []) ≡ n → Stands b out s L → Stands b (out ++ action ∷ []) (at_next s n) (L ++ did action ∷ [])
acts b out s L action n begins over next h =
    let m = did action in record {
      now = now-kept L m refl ∙ h.now;
      own = own-kept b.made L m refl ∙ h.own;
      next = next;
      finishing = finishing-kept L m refl ∙ h.finishing;
      renewals = ap (λ k. min RENEWALS k) (renewals-kept L m refl refl) ∙ h.renewals;
      newest_hub = refusing-kept L m refl ∙ h.newest_hub;
      dropped = dropped-kept L m (ap is_some (begins (Hub Failover))) refl ∙ h.dropped;
      connector = subst (λ E. ConnectorStands s.connector (waits b.made) E) (sym (hub_events-kept L m refl)) h.connector;
      direct = subst (λ E. DirectStands s.direct E) (sym (slot_calls-kept L m refl)) h.direct;
      asked = resolve_calls-kept L m refl ∙ h.asked;
      links = λ name n. link-kept b.made b.busy L m name (link_at s.links name) (begins name) (over name) refl refl (h.links name n);
      tries = λ k w. ap (λ c. min c 18446744073709551615) (tries-kept k L m (ap is_some (begins (Direct k))) refl) ∙ h.tries k w;
      spare = h.spare;
      actions = came-did b out L action h.actions;
    }

pub quiet-stands : (b : Base) (out : List Action) (s : State) (L : Log) (action : Action) → IsQuiet action → Stands b out s L → Stands b (out ++ action ∷ []) s (L ++ did action ∷ [])
quiet-stands b out s L action q h = acts b out s L action s.next q.begins q.over (next-kept L (did action) q.number ∙ h.next) h

-- ---- a message is put

number_by : (L : Log) (name : LinkName) (o : List ℕ) (b : Bool) → is_response (function_in o) ≡ b → next_id (L ++ did (Put name o) ∷ []) ≡ cond b (next_id L) ((next_id L + 1) % 65536)
number_by L name o true h = next-kept L (did (Put name o)) (ap not h)
number_by L name o false h = ap (λ k. (k + 1) % 65536) (count-one_more is_numbered L (did (Put name o)) (ap not h)) ∙ sym (mod-add-mod (count_by is_numbered L + 1) 65536 1)

pub put-stands : (b : Base) (out : List Action) (s : State) (L : Log) (name : LinkName) (o : List ℕ) → Stands b out s L
    → Stands b (out ++ Put name o ∷ []) (record s { next = next_after o s.next }) (L ++ did (Put name o) ∷ [])
put-stands b out s L name o h =
    acts b out s L (Put name o) (next_after o s.next) (λ n. refl) (λ n. refl)
    (number_by L name o (is_response (function_in o)) refl ∙ ap (next_after o) h.next) h

-- ---- what the parts are told

pub came-other : (b : Base) (out : List Action) (L : Log) (m : Line) → action_of m ≡ None → HaveCome b out L → HaveCome b out (L ++ m ∷ [])
came-other b out L m n h = record {
  lines = h.lines ++ m ∷ [];
  log = ap (λ M. M ++ m ∷ []) h.log ∙ append_assoc b.before h.lines (m ∷ []);
  actions = h.actions ∙ sym (filter-kept action_of h.lines m n);
}

-- Something that is no claim happens to the slots.
pub slot-stands : (b : Base) (out : List Action) (s : State) (L : Log) (call : SlotCall) (d : SlotTable) → ((k : ℕ) → is_claim_of k (slot call) ≡ false) → DirectStands d (slot_calls L ++ call ∷ [])
    → Stands b out s L → Stands b out (record s { direct = d; direct_touched = true }) (L ++ slot call ∷ [])
slot-stands b out s L call d claims stands h = record {
  now = now-kept L (slot call) refl ∙ h.now;
  own = own-kept b.made L (slot call) refl ∙ h.own;
  next = next-kept L (slot call) refl ∙ h.next;
  finishing = finishing-kept L (slot call) refl ∙ h.finishing;
  renewals = ap (λ k. min RENEWALS k) (renewals-kept L (slot call) refl refl) ∙ h.renewals;
  newest_hub = refusing-kept L (slot call) refl ∙ h.newest_hub;
  dropped = dropped-kept L (slot call) refl refl ∙ h.dropped;
  connector = subst (λ E. ConnectorStands s.connector (waits b.made) E) (sym (hub_events-kept L (slot call) refl)) h.connector;
  direct = subst (λ E. DirectStands d E) (sym (filter-one_more slot_call_of L (slot call) call refl)) stands;
  asked = resolve_calls-kept L (slot call) refl ∙ h.asked;
  links = λ name n. link-kept b.made b.busy L (slot call) name (link_at s.links name) refl refl refl refl (h.links name n);
  tries = λ k w. ap (λ c. min c 18446744073709551615) (tries-kept k L (slot call) refl (claims k)) ∙ h.tries k w;
  spare = agrees-slots b.spare s d h.spare;
  actions = came-other b out L (slot call) refl h.actions;
}

-- The connector is told something.
dropped-told : (L : Log) (e : HubEvent) → is_dropped Failover (L ++ connector e ∷ []) ≡ (is_dropped Failover L || Sides.connects Primary e.event)
dropped-told L e =
    ap (λ ys. list_any (λ (x : HubEvent). Sides.connects Primary x.event) (hub_events ys)) (life-more L (connector e) (Hub Failover) refl)
    ∙ ap (λ ys. list_any (λ (x : HubEvent). Sides.connects Primary x.event) ys) (filter-one_more hub_event_of (life L (Hub Failover)) (connector e) e refl)
    ∙ list_any-more (λ (x : HubEvent). Sides.connects Primary x.event) (hub_events (life L (Hub Failover))) e

renewals-told : (L : Log) (e : HubEvent) (b : Bool) → is_connected_event e.event ≡ b → renewals (L ++ connector e ∷ []) ≡ cond b 0 (renewals L)
renewals-told L e true h = ap (count_by is_renewal) (since-now is_accept_of_hub L (connector e) h)
renewals-told L e false h = renewals-kept L (connector e) refl h

least_by : (b : Bool) (n r : ℕ) → min RENEWALS n ≡ r → min RENEWALS (cond b 0 n) ≡ cond b 0 r
least_by true n r h = refl
least_by false n r h = h

pub told-connector : (b : Base) (out : List Action) (s : State) (L : Log) (e : HubEvent) (c : Connector) → ConnectorStands c (waits b.made) (hub_events L ++ e ∷ [])
    → Stands b out s L → Stands b out (record s { connector = c; renewals = renewals_after e.event s.renewals; dropped = dropped_after e.event s.dropped }) (L ++ connector e ∷ [])
told-connector b out s L e c stands h = record {
  now = now-kept L (connector e) refl ∙ h.now;
  own = own-kept b.made L (connector e) refl ∙ h.own;
  next = next-kept L (connector e) refl ∙ h.next;
  finishing = finishing-kept L (connector e) refl ∙ h.finishing;
  renewals = ap (λ k. min RENEWALS k) (renewals-told L e (is_connected_event e.event) refl) ∙ least_by (is_connected_event e.event) (renewals L) s.renewals h.renewals;
  newest_hub = refusing-kept L (connector e) refl ∙ h.newest_hub;
  dropped = dropped-told L e ∙ ap (λ d. d || Sides.connects Primary e.event) h.dropped;
  connector = subst (λ E. ConnectorStands c (waits b.made) E) (sym (filter-one_more hub_event_of L (connector e) e refl)) stands;
  direct = subst (λ E. DirectStands s.direct E) (sym (slot_calls-kept L (connector e) refl)) h.direct;
  asked = resolve_calls-kept L (connector e) refl ∙ h.asked;
  links = λ name n. link-kept b.made b.busy L (connector e) name (link_at s.links name) refl refl refl refl (h.links name n);
  tries = λ k w. ap (λ n. min n 18446744073709551615) (tries-kept k L (connector e) refl refl) ∙ h.tries k w;
  spare = h.spare;
  actions = came-other b out L (connector e) refl h.actions;
}

pub step-told : (b : Base) (L : Log) (e : HubEvent) (step : ConnectorStep) → step ≡ connector_step (waits b.made) (hub_events L) e → newest_step b.made (L ++ connector e ∷ []) ≡ step
step-told b L e step h =
    ap (at_last (connector_step (waits b.made)) no_step) (filter-one_more hub_event_of L (connector e) e refl)
    ∙ at_last-more (connector_step (waits b.made)) no_step (hub_events L) e
    ∙ sym h

pub told-at : (b : Base) (out : List Action) (s : State) (L : Log) (t : ℕ) (event : ConnectorEvent) (c : Connector) (step : ConnectorStep) (r : ℕ) (d : Bool) → now L ≡ t
    → r ≡ renewals_after event s.renewals → d ≡ dropped_after event s.dropped
    → (step ≡ connector_step (waits b.made) (hub_events L) (record { now = t; event = event })) × ConnectorStands c (waits b.made) (hub_events L ++ record { now = t; event = event } ∷ [])
    → Stands b out s L → Stands b out (record s { connector = c; renewals = r; dropped = d }) (L ++ told event L) × (newest_step b.made (L ++ told event L) ≡ step)
told-at b out s L t event c step r d n re de a h =
    let e : HubEvent = record { now = t; event = event } in
    let l : told event L ≡ connector e ∷ [] = ap (λ (x : ℕ). connector (record { now = x; event = event }) ∷ []) n in (
      subst (λ ms. Stands b out (record s { connector = c; renewals = r; dropped = d }) (L ++ ms)) (sym l)
          (subst (λ (x : ℕ). Stands b out (record s { connector = c; renewals = x; dropped = d }) (L ++ connector e ∷ [])) (sym re)
          (subst (λ (x : Bool). Stands b out (record s { connector = c; renewals = renewals_after event s.renewals; dropped = x }) (L ++ connector e ∷ [])) (sym de)
          (told-connector b out s L e c a.1 h))),
      ap (λ ms. newest_step b.made (L ++ ms)) l ∙ step-told b L e step a.0,
    )
