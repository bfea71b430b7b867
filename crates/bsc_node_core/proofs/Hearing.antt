-- What a link's machine may be told, and by which lines it is told so.
-- It serves clauses of functions of `state`.
use Rattle.std.proofs.Common.{◌≡◌, ℕ, Bool, true, false, not, ◌&&◌, ◌||◌, List, [], ◌∷◌, ◌++◌, Option, Some, None, refl, ap, sym, ◌∙◌, subst}
use Rattle.std.specs.Prelude.{is_some}
use Rattle.std.specs.Option.{option_and_then}
use Rattle.std.proofs.lemmas.Bool.{false≢true}
use Rattle.bsc_octets.specs.declared.vmac.Vmac.{Vmac}
use Rattle.bsc_checks.specs.declared.verdict.Verdict.{Verdict}
use Rattle.bsc_checks.specs.declared.verdict.Verdict.TheVariants.{Pass, Carry, Silent, Nak}
use Rattle.bsc_connector.specs.Back.{first_of}
use Rattle.bsc_accept.specs.declared.stage.Stage.{Stage as TakenStage}
use Rattle.bsc_accept.specs.declared.stage.Stage.TheVariants.{AwaitingRequest, Asked, Connected as TakenConnected, Disconnecting as TakenDisconnecting, Idle as TakenIdle}
use Rattle.bsc_accept.specs.declared.accepting.Accepting.{Accepting}
use Rattle.bsc_accept.specs.declared.event.Event.TheVariants.{Message as Heard, Finish as TakenFinish, Tick as TakenTick}
use Rattle.bsc_accept.specs.Standing as AN
use Rattle.bsc_accept.specs.Past as A
use Rattle.bsc_initiate.specs.declared.stage.Stage.{Stage}
use Rattle.bsc_initiate.specs.declared.stage.Stage.TheVariants.{AwaitingWebsocket, AwaitingAccept, Connected, Disconnecting, Idle}
use Rattle.bsc_initiate.specs.declared.initiating.Initiating.{Initiating}
use Rattle.bsc_initiate.specs.declared.event.InitEvent.{InitEvent}
use Rattle.bsc_initiate.specs.declared.event.InitEvent.TheVariants.{Opened, Message as Came, Finish, Tick}
use Rattle.bsc_initiate.specs.declared.step.InitStep.{InitStep}
use Rattle.bsc_initiate.specs.Past as I
use Rattle.bsc_initiate.specs.Kept.{standing_at}
use Rattle.bsc_initiate.specs.Standing as IN
use Rattle.bsc_initiate.proofs.Following.{standing_of_open}
use Rattle.bsc_node.specs.declared.link_name.LinkName.{LinkName}
use Rattle.bsc_node.specs.declared.action.Action.{Action}
use Rattle.bsc_node.specs.Logs.{Made, Line, initiating, accepting, Log, now, next_id}
use Rattle.bsc_node.specs.Links.{Outcome, is_there, was_taken, start, initiating_events, request, accepts_by, origin_of, by_machine, opens, hears, ticks, finishes, verdict, is_in_connected}
use Rattle.bsc_node.specs.Conditions.{is_dialling, is_open, has_opened}
use Rattle.bsc_node_core.specs.declared.machine.Machine.{Machine}
use Rattle.bsc_node_core.specs.declared.machine.Machine.TheVariants.{Dialled, Taken}
use Rattle.bsc_node_core.specs.declared.state.State.{State}
use Rattle.bsc_node_core.specs.Machines.{may_tell_dialled, may_tell_taken}
use Rattle.bsc_node_core.specs.Rules.{goes_up, origin_in, message_in, outcome_of}
use Rattle.bsc_node_core.specs.Tables.{link_at, is_name}
use Rattle.bsc_node_core.specs.Standing.{Base, AcceptStands, DialledStands, TakenStands, MachineStands, Stands}
use Rattle.bsc_node_core.specs.Telling.{HasTold}
use Rattle.bsc_lemmas.proofs.Booleans.{and_right}

-- ---- what a machine that is open may be told

pub may-finish : (waits : Stage) (now id : ℕ) → IN.is_open waits ≡ true → may_tell_dialled waits (Finish now id) ≡ true
may-finish AwaitingWebsocket now id o = refl
may-finish (AwaitingAccept i) now id o = refl
may-finish (Connected put) now id o = refl
may-finish (Disconnecting f) now id o = refl
may-finish Idle now id o = o

pub may-tick : (waits : Stage) (now id : ℕ) → IN.is_open waits ≡ true → may_tell_dialled waits (Tick now id) ≡ true
may-tick AwaitingWebsocket now id o = refl
may-tick (AwaitingAccept i) now id o = refl
may-tick (Connected put) now id o = refl
may-tick (Disconnecting f) now id o = refl
may-tick Idle now id o = o

pub may-finish-taken : (waits : TakenStage) (now id : ℕ) → AN.is_open waits ≡ true → may_tell_taken waits (TakenFinish now id) ≡ true
may-finish-taken AwaitingRequest now id o = refl
may-finish-taken (Asked i) now id o = o
may-finish-taken TakenConnected now id o = refl
may-finish-taken (TakenDisconnecting f) now id o = refl
may-finish-taken TakenIdle now id o = o

pub may-tick-taken : (waits : TakenStage) (now : ℕ) → AN.is_open waits ≡ true → may_tell_taken waits (TakenTick now) ≡ true
may-tick-taken AwaitingRequest now o = refl
may-tick-taken (Asked i) now o = o
may-tick-taken TakenConnected now o = refl
may-tick-taken (TakenDisconnecting f) now o = refl
may-tick-taken TakenIdle now o = o

pub may-hear-taken : (waits : TakenStage) (now : ℕ) (v : Verdict) → AN.is_open waits ≡ true → may_tell_taken waits (Heard now v) ≡ true
may-hear-taken AwaitingRequest now v o = refl
may-hear-taken (Asked i) now v o = o
may-hear-taken TakenConnected now v o = refl
may-hear-taken (TakenDisconnecting f) now v o = refl
may-hear-taken TakenIdle now v o = o

-- A machine whose Connect-Request went out may get a message.
may-hear-at : (waits : Stage) (E : List InitEvent) (now : ℕ) (v : Verdict) → IN.is_open waits ≡ true → AcceptStands (standing_at waits) E → is_some (request E) ≡ true
    → may_tell_dialled waits (Came now v) ≡ true
may-hear-at AwaitingWebsocket E now v o h r = absurd (false≢true (sym (ap is_some h.0) ∙ r))
may-hear-at (AwaitingAccept i) E now v o h r = refl
may-hear-at (Connected put) E now v o h r = refl
may-hear-at (Disconnecting f) E now v o h r = refl
may-hear-at Idle E now v o h r = o

or_false : (b c : Bool) → b ≡ false → (b || c) ≡ true → c ≡ true
or_false true c e h = absurd (false≢true (sym e))
or_false false c e h = h

pub may-hear : (a : Made) (L : Log) (name : LinkName) (m : Initiating) (now : ℕ) (v : Verdict) → IN.is_open m.stage ≡ true → DialledStands a L name m → is_open name L ≡ true
    → may_tell_dialled m.stage (Came now v) ≡ true
may-hear a L name m now v o d h =
    may-hear-at m.stage (initiating_events L name) now v o (subst (λ (g : I.Standing). AcceptStands g (initiating_events L name))
    (standing_of_open m (start a L name) (initiating_events L name) d.machine o) d.accept)
    (or_false (was_taken name L) (has_opened name L) d.dialled (and_right (is_there name L) (was_taken name L || has_opened name L) h))

none_if : {C : Type 0} (o : Option C) → not (is_some o) ≡ true → o ≡ None
none_if None h = refl
none_if (Some x) h = absurd (false≢true h)

-- Where no Connect-Request went out, the WebSocket is awaited.
no-phase : (g : I.Standing) (E : List InitEvent) → request E ≡ None → AcceptStands g E → I.phase_named g ≡ None
no-phase I.awaiting_websocket E r h = refl
no-phase (I.awaiting_accept id) E r h = absurd (false≢true (sym (ap is_some r) ∙ ap is_some h.0))
no-phase I.connected E r h = absurd (false≢true (sym (ap is_some (ap (λ o. option_and_then (λ i. first_of (accepts_by i) E) o) r)) ∙ h))
no-phase (I.disconnecting f) E r h = absurd (false≢true (sym (ap is_some (ap (λ o. option_and_then (λ i. first_of (accepts_by i) E) o) r)) ∙ h))

pub unopened : (a : Made) (L : Log) (name : LinkName) (m : Initiating) → DialledStands a L name m → is_dialling name L ≡ true → I.phase (initiating_events L name) ≡ None
unopened a L name m d h =
    no-phase (I.standing (initiating_events L name)) (initiating_events L name)
    (none_if (request (initiating_events L name)) (and_right (is_there name L && not (was_taken name L)) (not (has_opened name L))
    (and_assoc (is_there name L) (not (was_taken name L)) (not (has_opened name L)) h)))
    d.accept
  where
    and_assoc : (b c e : Bool) → (b && c && e) ≡ true → ((b && c) && e) ≡ true
    and_assoc true c e x = x
    and_assoc false c e x = x

pub not-over : (m : Initiating) → IN.is_open m.stage ≡ true → IN.IsOver m → ⊥
not-over m o h = absurd (false≢true (sym (ap IN.is_open h) ∙ o))

pub not-over-taken : (m : Accepting) → AN.is_open m.stage ≡ true → AN.IsOver m → ⊥
not-over-taken m o h = absurd (false≢true (sym (ap AN.is_open h) ∙ o))

-- ---- the lines

module _ (b : Base) (out : List Action) (s : State) (L : Log) (name : LinkName) (time : ℕ) (n : is_name name ≡ true) (w : b.now ≡ time) (h : Stands b out s L) where
  pub dialled-before : (m : Initiating) → (link_at s.links name).machine ≡ Dialled m → DialledStands b.made L name m
  dialled-before m is = subst (λ (x : Machine). MachineStands b.made b.busy L name x) is (h.links name n).machine

  pub taken-before : (m : Accepting) → (link_at s.links name).machine ≡ Taken m → TakenStands b.made L name m
  taken-before m is = subst (λ (x : Machine). MachineStands b.made b.busy L name x) is (h.links name n).machine

  pub finishes-dialled : (m : Initiating) → (link_at s.links name).machine ≡ Dialled m → initiating name (Finish time s.next) ∷ [] ≡ finishes name L
  finishes-dialled m is =
      ap (λ (x : ℕ). initiating name (Finish time x) ∷ []) (sym h.next)
      ∙ ap (λ (x : ℕ). initiating name (Finish x (next_id L)) ∷ []) (sym (h.now ∙ w))
      ∙ ap (λ (t : Bool). by_machine (λ k. Finish (now L) (next_id L)) (λ k. TakenFinish (now L) (next_id L)) name t) (sym (dialled-before m is).dialled)

  pub finishes-taken : (m : Accepting) → (link_at s.links name).machine ≡ Taken m → accepting name (TakenFinish time s.next) ∷ [] ≡ finishes name L
  finishes-taken m is =
      ap (λ (x : ℕ). accepting name (TakenFinish time x) ∷ []) (sym h.next)
      ∙ ap (λ (x : ℕ). accepting name (TakenFinish x (next_id L)) ∷ []) (sym (h.now ∙ w))
      ∙ ap (λ (t : Bool). by_machine (λ k. Finish (now L) (next_id L)) (λ k. TakenFinish (now L) (next_id L)) name t) (sym (taken-before m is).taken)

  pub ticks-dialled : (m : Initiating) → (link_at s.links name).machine ≡ Dialled m → initiating name (Tick time s.next) ∷ [] ≡ ticks name L
  ticks-dialled m is =
      ap (λ (x : ℕ). initiating name (Tick time x) ∷ []) (sym h.next)
      ∙ ap (λ (x : ℕ). initiating name (Tick x (next_id L)) ∷ []) (sym (h.now ∙ w))
      ∙ ap (λ (t : Bool). by_machine (λ k. Tick (now L) (next_id L)) (λ k. TakenTick (now L)) name t) (sym (dialled-before m is).dialled)

  pub ticks-taken : (m : Accepting) → (link_at s.links name).machine ≡ Taken m → accepting name (TakenTick time) ∷ [] ≡ ticks name L
  ticks-taken m is =
      ap (λ (x : ℕ). accepting name (TakenTick x) ∷ []) (sym (h.now ∙ w))
      ∙ ap (λ (t : Bool). by_machine (λ k. Tick (now L) (next_id L)) (λ k. TakenTick (now L)) name t) (sym (taken-before m is).taken)

  pub opens-dialled : initiating name (Opened time s.next) ∷ [] ≡ opens name L
  opens-dialled =
      ap (λ (x : ℕ). initiating name (Opened time x) ∷ []) (sym h.next)
      ∙ ap (λ (x : ℕ). initiating name (Opened x (next_id L)) ∷ []) (sym (h.now ∙ w))

  pub hears-dialled : (m : Initiating) (o : List ℕ) (v : Verdict) → verdict b.made L name o ≡ v → (link_at s.links name).machine ≡ Dialled m
      → initiating name (Came time v) ∷ [] ≡ hears b.made name o L
  hears-dialled m o v e is =
      ap (λ (x : Verdict). initiating name (Came time x) ∷ []) (sym e)
      ∙ ap (λ (x : ℕ). initiating name (Came x (verdict b.made L name o)) ∷ []) (sym (h.now ∙ w))
      ∙ ap (λ (t : Bool). by_machine (λ k. Came (now L) (verdict b.made L k o)) (λ k. Heard (now L) (verdict b.made L k o)) name t) (sym (dialled-before m is).dialled)

  pub hears-taken : (m : Accepting) (o : List ℕ) (v : Verdict) → verdict b.made L name o ≡ v → (link_at s.links name).machine ≡ Taken m → accepting name (Heard time v) ∷ [] ≡ hears b.made name o L
  hears-taken m o v e is =
      ap (λ (x : Verdict). accepting name (Heard time x) ∷ []) (sym e)
      ∙ ap (λ (x : ℕ). accepting name (Heard x (verdict b.made L name o)) ∷ []) (sym (h.now ∙ w))
      ∙ ap (λ (t : Bool). by_machine (λ k. Came (now L) (verdict b.made L k o)) (λ k. Heard (now L) (verdict b.made L k o)) name t) (sym (taken-before m is).taken)

pub told-lines : (b : Base) (out : List Action) (s : State) (L : Log) (name : LinkName) (u : Outcome) (lines others : List Line) → lines ≡ others → HasTold b out s (L ++ lines) name u
    → HasTold b out s (L ++ others) name u
told-lines b out s L name u lines others e h = subst (λ (ms : List Line). HasTold b out s (L ++ ms) name u) e h

-- ---- where a message came from

pub origin-is : (time : ℕ) (v : Verdict) → origin_of (Came time v) ≡ origin_in v
origin-is time (Pass msg) = refl
origin-is time (Carry envelope) = refl
origin-is time (Silent check) = refl
origin-is time (Nak check octets) = refl

pub told-from : (b : Base) (out : List Action) (s : State) (L : Log) (name : LinkName) (time : ℕ) (v : Verdict) (d : InitStep)
    → HasTold b out s L name (outcome_of (origin_of (Came time v)) (message_in v) d) → HasTold b out s L name (outcome_of (origin_in v) (message_in v) d)
told-from b out s L name time v d h = subst (λ (o : Option Vmac). HasTold b out s L name (outcome_of o (message_in v) d)) (origin-is time v) h

-- ---- whether what an accepting machine does nothing with is for the node

pub goes-up : (time : ℕ) (v : Verdict) (g : A.Standing) → goes_up (Heard time v) g ≡ is_in_connected (A.phase_named g)
goes-up time v A.awaiting_request = refl
goes-up time v A.connected = refl
goes-up time v (A.disconnecting f) = refl
