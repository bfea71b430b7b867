-- What a node keeps goes on standing for its log, where the machine of a link is told something.
-- It serves clauses of functions of `state`.
use Rattle.std.proofs.Common.{◌≡◌, ℕ, Bool, true, false, cond, ◌&&◌, List, [], ◌∷◌, ◌++◌, Option, Some, None, refl, ap, sym, ◌∙◌, subst}
use Rattle.std.specs.Prelude.{min, is_some}
use Rattle.std.specs.Option.{option_or}
use Rattle.std.proofs.lemmas.Bool.{false≢true}
use Rattle.bsc_checks.specs.declared.verdict.Verdict.TheVariants.{Pass, Carry, Silent, Nak}
use Rattle.bsc_connector.specs.Standing.{ConnectorStands}
use Rattle.bsc_direct.specs.Standing.{DirectStands}
use Rattle.bsc_accept.specs.declared.start.Start.{Start}
use Rattle.bsc_accept.specs.declared.event.Event.{Event}
use Rattle.bsc_accept.specs.declared.event.Event.TheVariants.{Message as Heard}
use Rattle.bsc_accept.specs.declared.step.Step.{Step}
use Rattle.bsc_accept.specs.declared.step.Step.TheVariants.{Ask, Put as StepPut, PutClose as StepPutClose, Up as StepUp, Close as StepClose, Nothing as StepNothing}
use Rattle.bsc_accept.specs.declared.accepting.Accepting.{Accepting}
use Rattle.bsc_accept.specs.Past as A
use Rattle.bsc_accept.specs.Steps as AS
use Rattle.bsc_accept.specs.Standing as AN
use Rattle.bsc_accept.specs.declared.stage.Stage.{Stage as TakenStage}
use Rattle.bsc_accept.specs.declared.stage.Stage.TheVariants.{Idle as TakenIdle}
use Rattle.bsc_initiate.specs.declared.event.InitEvent.{InitEvent}
use Rattle.bsc_initiate.specs.declared.event.InitEvent.TheVariants.{Message as Came}
use Rattle.bsc_initiate.specs.declared.initiating.Initiating.{Initiating}
use Rattle.bsc_initiate.specs.declared.stage.Stage.{Stage}
use Rattle.bsc_initiate.specs.declared.stage.Stage.TheVariants.{Idle}
use Rattle.bsc_initiate.specs.declared.step.InitStep.{InitStep}
use Rattle.bsc_initiate.specs.declared.step.InitStep.TheVariants.{Put, PutClose, Connected, Refused, Up, Close, Nothing}
use Rattle.bsc_initiate.specs.Past as I
use Rattle.bsc_initiate.specs.Steps as IS
use Rattle.bsc_initiate.specs.Standing as IN
use Rattle.bsc_node.specs.declared.bounds.TheConstants.{RENEWALS}
use Rattle.bsc_node.specs.declared.link_name.LinkName.{LinkName}
use Rattle.bsc_node.specs.declared.link_name.LinkName.TheVariants.{Hub, Direct}
use Rattle.bsc_connector.specs.declared.side.Side.TheVariants.{Failover}
use Rattle.bsc_node.specs.declared.action.Action.{Action}
use Rattle.bsc_node.specs.Logs.{Made, Line, initiating, accepting, Log, event_of, renewal_of, is_numbered, is_finish, action_of}
use Rattle.bsc_node.specs.Links.{Outcome, same_link, beginning_of, is_over_by, was_taken, start, initiating_event, accepting_event, initiating_events, accepting_events}
use Rattle.bsc_node.specs.Links.{who_accepted, who_asked, peer, initiating_outcome, accepting_outcome, up_by_initiating, up_by_accepting, outcome}
use Rattle.bsc_node.specs.Hubs.{waits, hub_event_of}
use Rattle.bsc_node.specs.Ways.{slot_call_of, resolve_call_of, is_claim_of}
use Rattle.bsc_node.specs.Meeting.{is_renewal, is_accept_of_hub, hub_message_of}
use Rattle.bsc_node.proofs.Told.{same_link-self, initiating_events-more, accepting_events-more, outcome-initiating, outcome-accepting}
use Rattle.bsc_node_core.specs.declared.machine.Machine.{Machine}
use Rattle.bsc_node_core.specs.declared.machine.Machine.TheVariants.{Gone, Over, Dialled, Taken, Asked}
use Rattle.bsc_node_core.specs.declared.links.Links.{Links}
use Rattle.bsc_node_core.specs.declared.state.State.{State}
use Rattle.bsc_node_core.specs.Machines.{says_there, asks, taken_in, dialled_after, taken_after, dialled_peer, taken_peer, may_tell_dialled, may_tell_taken}
use Rattle.bsc_node_core.specs.Tables.{Kept, link_at, is_name, Sets, Touches, with_machine_and_peer}
use Rattle.bsc_node_core.specs.Standing.{Base, DialledStands, TakenStands, MachineStands, LinkStands, Stands}
use Rattle.bsc_node_core.specs.Telling.{busy_with, IsLeft, HasTold}
use Rattle.bsc_node_core.proofs.More.{now-kept, own-kept, next-kept, finishing-kept, renewals-kept, refusing-kept, dropped-kept, tries-kept, taken-kept, start-kept, initiating-kept, accepting-kept}
use Rattle.bsc_node_core.proofs.Lines.{link-kept, came-other}
use Rattle.bsc_node_core.proofs.Untouched.{agrees-set}
use Rattle.bsc_node_core.proofs.Naming.{accept-goes-on, accepted-goes-on, ask-goes-on, asked-goes-on}
use Rattle.bsc_node.proofs.Common.{hub_events-kept, resolve_calls-kept, same_link-is, slot_calls-kept}
use Rattle.bsc_node.proofs.There.{there-other as there-kept}

-- ---- a line by which a link's machine is told something

-- It says nothing but that the machine of this link was told something.
pub record Tells (name : LinkName) (m : Line) : Type 0 where
  pub event : event_of m ≡ None
  pub renewal : renewal_of m ≡ None
  pub number : is_numbered m ≡ false
  pub finish : is_finish m ≡ false
  pub renews : is_renewal m ≡ false
  pub accepts : is_accept_of_hub m ≡ false
  pub hub_message : hub_message_of m ≡ None
  pub hub_event : hub_event_of m ≡ None
  pub slot_call : slot_call_of m ≡ None
  pub resolve_call : resolve_call_of m ≡ None
  pub action : action_of m ≡ None
  pub beginning : (other : LinkName) → beginning_of other m ≡ None
  pub over : (other : LinkName) → is_over_by other m ≡ false
  pub claim : (k : ℕ) → is_claim_of k m ≡ false
  pub initiating : (other : LinkName) → same_link name other ≡ false → initiating_event other m ≡ None
  pub accepting : (other : LinkName) → same_link name other ≡ false → accepting_event other m ≡ None

tells-dialled : (name : LinkName) (e : InitEvent) → Tells name (initiating name e)
tells-dialled name e = record {
  event = refl;
  renewal = refl;
  number = refl;
  finish = refl;
  renews = refl;
  accepts = refl;
  hub_message = refl;
  hub_event = refl;
  slot_call = refl;
  resolve_call = refl;
  action = refl;
  beginning = λ other. refl;
  over = λ other. refl;
  claim = λ k. refl;
  initiating = λ other x. ap (λ (b : Bool). cond b (Some e) None) x;
  accepting = λ other x. refl;
}

tells-taken : (name : LinkName) (e : Event) → Tells name (accepting name e)
tells-taken name e = record {
  event = refl;
  renewal = refl;
  number = refl;
  finish = refl;
  renews = refl;
  accepts = refl;
  hub_message = refl;
  hub_event = refl;
  slot_call = refl;
  resolve_call = refl;
  action = refl;
  beginning = λ other. refl;
  over = λ other. refl;
  claim = λ k. refl;
  initiating = λ other x. refl;
  accepting = λ other x. ap (λ (b : Bool). cond b (Some e) None) x;
}

-- What is kept of a link that has a name, once this is kept of it.
set-at : (old new : Links) (name : LinkName) (kept : Kept) → is_name name ≡ true → Sets old new name kept → link_at new name ≡ kept
set-at old new name kept n sets = sets name ∙ ap (λ (b : Bool). cond (b && is_name name) kept (link_at old name)) (same_link-self name) ∙ ap (λ (b : Bool). cond b kept (link_at old name)) n

set-other : (old new : Links) (name other : LinkName) (kept : Kept) → same_link name other ≡ false → Sets old new name kept → link_at new other ≡ link_at old other
set-other old new name other kept x sets = sets other ∙ ap (λ (b : Bool). cond (b && is_name name) kept (link_at old other)) x

links-told : (a : Made) (busy : Option LinkName) (L : Log) (name : LinkName) (m : Line) (kept : Kept) (old new : Links) → Tells name m → is_name name ≡ true → Sets old new name kept
    → LinkStands a busy (L ++ m ∷ []) name kept
    → ((other : LinkName) → is_name other ≡ true → LinkStands a busy L other (link_at old other))
    → (other : LinkName) → is_name other ≡ true → LinkStands a busy (L ++ m ∷ []) other (link_at new other)
links-told a busy L name m kept old new t n sets stands h other o = by (same_link name other) refl
  where
    by : (b : Bool) → same_link name other ≡ b → LinkStands a busy (L ++ m ∷ []) other (link_at new other)
    by true x =
        subst (λ (k : LinkName). LinkStands a busy (L ++ m ∷ []) k (link_at new k)) (same_link-is name other x)
        (subst (λ (l : Kept). LinkStands a busy (L ++ m ∷ []) name l) (sym (set-at old new name kept n sets)) stands)
    by false x =
        subst (λ (l : Kept). LinkStands a busy (L ++ m ∷ []) other l) (sym (set-other old new name other kept x sets))
        (link-kept a busy L m other (link_at old other) (t.beginning other) (t.over other) (t.initiating other x) (t.accepting other x) (h other o))

tries-told : (old new : Links) (name : LinkName) (kept : Kept) (k : ℕ) → is_name name ≡ true → Sets old new name kept → kept.tries ≡ (link_at old name).tries
    → (link_at new (Direct k)).tries ≡ (link_at old (Direct k)).tries
tries-told old new name kept k n sets t = by (same_link name (Direct k)) refl
  where
    by : (b : Bool) → same_link name (Direct k) ≡ b → (link_at new (Direct k)).tries ≡ (link_at old (Direct k)).tries
    by true x = subst (λ (other : LinkName). (link_at new other).tries ≡ (link_at old other).tries) (same_link-is name (Direct k) x) (ap (λ (l : Kept). l.tries) (set-at old new name kept n sets) ∙ t)
    by false x = ap (λ (l : Kept). l.tries) (set-other old new name (Direct k) kept x sets)

told-stands : (b : Base) (out : List Action) (s : State) (L : Log) (name : LinkName) (m : Line) (kept : Kept) (ls : Links) → Tells name m → is_name name ≡ true → Sets s.links ls name kept
    → Touches s.links ls name → kept.tries ≡ (link_at s.links name).tries
    → LinkStands b.made b.busy (L ++ m ∷ []) name kept → Stands b out s L → Stands b out (record s { links = ls }) (L ++ m ∷ [])
told-stands b out s L name m kept ls t n sets touches same stands h = record {
  now = now-kept L m t.event ∙ h.now;
  own = own-kept b.made L m t.renewal ∙ h.own;
  next = next-kept L m t.number ∙ h.next;
  finishing = finishing-kept L m t.finish ∙ h.finishing;
  renewals = ap (λ k. min RENEWALS k) (renewals-kept L m t.renews t.accepts) ∙ h.renewals;
  newest_hub = refusing-kept L m t.hub_message ∙ h.newest_hub;
  dropped = dropped-kept L m (ap is_some (t.beginning (Hub Failover))) t.hub_event ∙ h.dropped;
  connector = subst (λ E. ConnectorStands s.connector (waits b.made) E) (sym (hub_events-kept L m t.hub_event)) h.connector;
  direct = subst (λ E. DirectStands s.direct E) (sym (slot_calls-kept L m t.slot_call)) h.direct;
  asked = resolve_calls-kept L m t.resolve_call ∙ h.asked;
  links = links-told b.made b.busy L name m kept s.links ls t n sets stands h.links;
  tries = λ k w. ap (λ c. min c 18446744073709551615) (tries-kept k L m (ap is_some (t.beginning (Direct k))) (t.claim k)) ∙ h.tries k w ∙ sym (tries-told s.links ls name kept k n sets same);
  spare = agrees-set b.spare s ls name kept sets touches h.spare;
  actions = came-other b out L m t.action h.actions;
}

-- ---- a link that was dialled

-- how a step leaves the machine
left-up : (e : InitEvent) (m : Initiating) → IsLeft (up_by_initiating e) false (Dialled m)
left-up (Came now (Pass msg)) m = refl
left-up (Came now (Carry envelope)) m = refl
left-up (Came now (Silent check)) m = refl
left-up (Came now (Nak check octets)) m = refl
left-up e m = refl

left-dialled : (e : InitEvent) (step : InitStep) (m : Initiating) → IsLeft (initiating_outcome e step) false (dialled_after m step)
left-dialled e (Put o) m = refl
left-dialled e (PutClose o closing) m = refl
left-dialled e (Connected who) m = refl
left-dialled e (Refused code) m = refl
left-dialled e Up m = left-up e m
left-dialled e (Close closing) m = refl
left-dialled e Nothing m = refl

there-dialled : (step : InitStep) (m : Initiating) → says_there (dialled_after m step) ≡ true
there-dialled step m = by (IS.closes step)
  where
    by : (b : Bool) → says_there (cond b Over (Dialled m)) ≡ true
    by true = refl
    by false = refl

-- a machine that may be told something hasn't closed
open-dialled : (waits : Stage) (over : Bool) (there : Stage) (e : InitEvent) → waits ≡ cond over Idle there → may_tell_dialled waits e ≡ true → may_tell_dialled there e ≡ true
open-dialled waits true there e h m = absurd (false≢true (ap (λ w. may_tell_dialled w e) (sym h) ∙ m))
open-dialled waits false there e h m = ap (λ w. may_tell_dialled w e) (sym h) ∙ m

module _ (a : Made) (L : Log) (name : LinkName) (e : InitEvent) (before later : Initiating) (step : InitStep)
    (h : DialledStands a L name before) (may : may_tell_dialled before.stage e ≡ true)
    (answers : (step ≡ IS.step (start a L name) (initiating_events L name) e) × IN.InitiatingStands later (start a L name) (initiating_events L name ++ e ∷ [])) where
  may-dialled : may_tell_dialled (IN.open_stage (I.standing (initiating_events L name)) (I.heartbeat_was_put (start a L name) (initiating_events L name))) e ≡ true
  may-dialled = open-dialled before.stage (IN.has_closed (start a L name) (initiating_events L name))
      (IN.open_stage (I.standing (initiating_events L name)) (I.heartbeat_was_put (start a L name) (initiating_events L name))) e h.machine.stage may

  dialled-stands : DialledStands a (L ++ initiating name e ∷ []) name later
  dialled-stands = record {
    dialled = taken-kept name L (initiating name e) refl ∙ h.dialled;
    alone = accepting-kept L (initiating name e) name refl refl ∙ h.alone;
    machine = rw (start-kept a L (initiating name e) name refl, initiating_events-more L name e) answers.1;
    accept = rw (initiating_events-more L name e) (accept-goes-on (initiating_events L name) e (I.heartbeat_was_put (start a L name) (initiating_events L name)) may-dialled h.accept);
  }

  dialled-machine : MachineStands a (Some name) (L ++ initiating name e ∷ []) name (dialled_after later step)
  dialled-machine = by (IS.closes step)
    where
      by : (b : Bool) → MachineStands a (Some name) (L ++ initiating name e ∷ []) name (cond b Over (Dialled later))
      by true = refl
      by false = dialled-stands

  dialled-named : peer (L ++ initiating name e ∷ []) name ≡ dialled_peer step (peer L name)
  dialled-named =
      ap (λ es. option_or (who_accepted (initiating_events (L ++ initiating name e ∷ []) name)) (who_asked es)) (accepting-kept L (initiating name e) name refl refl ∙ h.alone)
      ∙ no_other (who_accepted (initiating_events (L ++ initiating name e ∷ []) name))
      ∙ ap who_accepted (initiating_events-more L name e)
      ∙ accepted-goes-on (start a L name) (initiating_events L name) e (I.heartbeat_was_put (start a L name) (initiating_events L name)) may-dialled h.accept
      ∙ ap (λ st. dialled_peer st (who_accepted (initiating_events L name))) (sym answers.0)
      ∙ ap (dialled_peer step) (sym (ap (λ es. option_or (who_accepted (initiating_events L name)) (who_asked es)) h.alone ∙ no_other (who_accepted (initiating_events L name))))
    where
      no_other : {C : Type 0} (o : Option C) → option_or o None ≡ o
      no_other (Some y) = refl
      no_other None = refl

  dialled-link : (l : Kept) → LinkStands a (Some name) L name l → says_there l.machine ≡ true
      → LinkStands a (Some name) (L ++ initiating name e ∷ []) name (with_machine_and_peer (dialled_after later step) (dialled_peer step l.peer) l)
  dialled-link l k t = record {
    there = there-kept name L (initiating name e) refl refl ∙ k.there ∙ t ∙ sym (there-dialled step later);
    machine = dialled-machine;
    peer = dialled-named ∙ ap (dialled_peer step) k.peer;
  }

  dialled-outcome : outcome a (L ++ initiating name e ∷ []) name ≡ initiating_outcome e step
  dialled-outcome =
      outcome-initiating a L name e h.dialled
      ∙ ap (λ (st : Start). initiating_outcome e (IS.step st (initiating_events L name) e)) (start-kept a L (initiating name e) name refl)
      ∙ ap (initiating_outcome e) (sym answers.0)

-- The machine of a link that was dialled makes a step.
pub dialled-told : (b : Base) (out : List Action) (s : State) (L : Log) (name : LinkName) (e : InitEvent) (before later : Initiating) (step : InitStep) (ls : Links) (u : Outcome)
    → initiating_outcome e step ≡ u
    → Sets s.links ls name (with_machine_and_peer (dialled_after later step) (dialled_peer step (link_at s.links name).peer) (link_at s.links name)) → Touches s.links ls name
    → (link_at s.links name).machine ≡ Dialled before → is_name name ≡ true → IN.InitiatingAnswers before later e step → may_tell_dialled before.stage e ≡ true → Stands (busy_with name b) out s L
    → HasTold b out (record s { links = ls }) (L ++ initiating name e ∷ []) name u
dialled-told b out s L name e before later step ls u ou sets touches is n answers may h =
    let d : DialledStands b.made L name before = subst (λ (m : Machine). MachineStands b.made (Some name) L name m) is (h.links name n).machine in
    let ans = answers (start b.made L name) (initiating_events L name) d.machine in
    let kept : Kept = with_machine_and_peer (dialled_after later step) (dialled_peer step (link_at s.links name).peer) (link_at s.links name) in
    record {
      stands = told-stands (busy_with name b) out s L name (initiating name e) kept ls (tells-dialled name e) n sets touches refl
          (dialled-link b.made L name e before later step d may ans (link_at s.links name) (h.links name n) (ap says_there is)) h;
      newest = dialled-outcome b.made L name e before later step d may ans ∙ ou;
      left = subst (λ (v : Outcome). IsLeft v (was_taken name (L ++ initiating name e ∷ [])) (link_at ls name).machine) ou
          (subst (λ (taken : Bool). IsLeft (initiating_outcome e step) taken (link_at ls name).machine) (sym (taken-kept name L (initiating name e) refl ∙ d.dialled))
          (subst (λ (l : Kept). IsLeft (initiating_outcome e step) false l.machine) (sym (set-at s.links ls name kept n sets)) (left-dialled e step later)));
    }

-- ---- a link that was taken

left-nothing : (g : A.Standing) (e : Event) (m : Accepting) → IsLeft (up_by_accepting g e) true (Taken m)
left-nothing A.connected (Heard now (Pass msg)) m = refl
left-nothing A.connected (Heard now (Carry envelope)) m = refl
left-nothing A.connected (Heard now (Silent check)) m = refl
left-nothing A.connected (Heard now (Nak check octets)) m = refl
left-nothing g e m = refl

left-taken : (g : A.Standing) (e : Event) (step : Step) (m : Accepting) → IsLeft (accepting_outcome g e step) true (taken_after m step)
left-taken g e (Ask who) m = refl
left-taken g e (StepPut o) m = refl
left-taken g e (StepPutClose o closing) m = refl
left-taken g e StepUp m = refl
left-taken g e (StepClose closing) m = refl
left-taken g e StepNothing m = left-nothing g e m

there-taken : (step : Step) (m : Accepting) → says_there (taken_after m step) ≡ true
there-taken step m = by (AS.closes step) (asks step)
  where
    by : (b c : Bool) → says_there (cond b Over (cond c (Asked m) (Taken m))) ≡ true
    by true c = refl
    by false true = refl
    by false false = refl

open-taken : (waits : TakenStage) (over : Bool) (there : TakenStage) (e : Event) → waits ≡ cond over TakenIdle there → may_tell_taken waits e ≡ true → may_tell_taken there e ≡ true
open-taken waits true there e h m = absurd (false≢true (ap (λ w. may_tell_taken w e) (sym h) ∙ m))
open-taken waits false there e h m = ap (λ w. may_tell_taken w e) (sym h) ∙ m

module _ (a : Made) (L : Log) (name : LinkName) (e : Event) (before later : Accepting) (step : Step)
    (h : TakenStands a L name before) (may : may_tell_taken before.stage e ≡ true)
    (answers : (step ≡ AS.step (start a L name) (accepting_events L name) e) × AN.AcceptingStands later (start a L name) (accepting_events L name ++ e ∷ [])) where
  may-taken : may_tell_taken (AN.open_stage (A.standing (accepting_events L name)) (A.question (accepting_events L name))) e ≡ true
  may-taken = open-taken before.stage (AN.has_closed (start a L name) (accepting_events L name))
      (AN.open_stage (A.standing (accepting_events L name)) (A.question (accepting_events L name))) e h.machine.stage may

  taken-stands : AS.closes step ≡ false → TakenStands a (L ++ accepting name e ∷ []) name later
  taken-stands c = record {
    slot = h.slot;
    taken = taken-kept name L (accepting name e) refl ∙ h.taken;
    alone = initiating-kept L (accepting name e) name refl refl ∙ h.alone;
    machine = rw (start-kept a L (accepting name e) name refl, accepting_events-more L name e) answers.1;
    ask = rw (accepting_events-more L name e) (ask-goes-on (start a L name) (accepting_events L name) e may-taken (ap AS.closes (sym answers.0) ∙ c) h.ask);
  }

  taken-machine : MachineStands a (Some name) (L ++ accepting name e ∷ []) name (taken_after later step)
  taken-machine = by (AS.closes step) (asks step) refl
    where
      by : (b c : Bool) → AS.closes step ≡ b → MachineStands a (Some name) (L ++ accepting name e ∷ []) name (cond b Over (cond c (Asked later) (Taken later)))
      by true c x = refl
      by false true x = (taken-stands x, refl)
      by false false x = taken-stands x

  taken-named : peer (L ++ accepting name e ∷ []) name ≡ taken_peer step (peer L name)
  taken-named =
      ap (λ es. option_or (who_accepted es) (who_asked (accepting_events (L ++ accepting name e ∷ []) name))) (initiating-kept L (accepting name e) name refl refl ∙ h.alone)
      ∙ ap who_asked (accepting_events-more L name e)
      ∙ asked-goes-on (start a L name) (accepting_events L name) e may-taken h.ask
      ∙ ap (λ st. taken_peer st (who_asked (accepting_events L name))) (sym answers.0)
      ∙ ap (taken_peer step) (sym (ap (λ es. option_or (who_accepted es) (who_asked (accepting_events L name))) h.alone))

  taken-link : (l : Kept) → LinkStands a (Some name) L name l → says_there l.machine ≡ true
      → LinkStands a (Some name) (L ++ accepting name e ∷ []) name (with_machine_and_peer (taken_after later step) (taken_peer step l.peer) l)
  taken-link l k t = record {
    there = there-kept name L (accepting name e) refl refl ∙ k.there ∙ t ∙ sym (there-taken step later);
    machine = taken-machine;
    peer = taken-named ∙ ap (taken_peer step) k.peer;
  }

  taken-outcome : outcome a (L ++ accepting name e ∷ []) name ≡ accepting_outcome (A.standing (accepting_events L name)) e step
  taken-outcome =
      outcome-accepting a L name e h.taken
      ∙ ap (λ (st : Start). accepting_outcome (A.standing (accepting_events L name)) e (AS.step st (accepting_events L name) e)) (start-kept a L (accepting name e) name refl)
      ∙ ap (accepting_outcome (A.standing (accepting_events L name)) e) (sym answers.0)

some-is : {C : Type 0} {x y : C} → Some x ≡ Some y → x ≡ y
some-is e = cc

-- the machine of a link that was taken
taken-before : (a : Made) (busy : Option LinkName) (L : Log) (name : LinkName) (machine : Machine) (before : Accepting) → taken_in machine ≡ Some before → MachineStands a busy L name machine
    → TakenStands a L name before
taken-before a busy L name Gone before is h = cc
taken-before a busy L name Over before is h = cc
taken-before a busy L name (Dialled m) before is h = cc
taken-before a busy L name (Taken m) before is h = subst (λ (x : Accepting). TakenStands a L name x) (some-is is) h
taken-before a busy L name (Asked m) before is h = subst (λ (x : Accepting). TakenStands a L name x) (some-is is) h.0

there-before : (machine : Machine) (before : Accepting) → taken_in machine ≡ Some before → says_there machine ≡ true
there-before Gone before is = cc
there-before Over before is = refl
there-before (Dialled m) before is = refl
there-before (Taken m) before is = refl
there-before (Asked m) before is = refl

-- The machine of a link that was taken makes a step.
pub taken-told : (b : Base) (out : List Action) (s : State) (L : Log) (name : LinkName) (e : Event) (before later : Accepting) (step : Step) (ls : Links) (u : Outcome)
    → accepting_outcome (A.standing (accepting_events L name)) e step ≡ u
    → Sets s.links ls name (with_machine_and_peer (taken_after later step) (taken_peer step (link_at s.links name).peer) (link_at s.links name)) → Touches s.links ls name
    → taken_in (link_at s.links name).machine ≡ Some before → is_name name ≡ true → AN.AcceptingAnswers before later e step → may_tell_taken before.stage e ≡ true → Stands (busy_with name b) out s L
    → HasTold b out (record s { links = ls }) (L ++ accepting name e ∷ []) name u
taken-told b out s L name e before later step ls u ou sets touches is n answers may h =
    let d : TakenStands b.made L name before = taken-before b.made (Some name) L name (link_at s.links name).machine before is (h.links name n).machine in
    let ans = answers (start b.made L name) (accepting_events L name) d.machine in
    let kept : Kept = with_machine_and_peer (taken_after later step) (taken_peer step (link_at s.links name).peer) (link_at s.links name) in
    let g = A.standing (accepting_events L name) in
    record {
      stands = told-stands (busy_with name b) out s L name (accepting name e) kept ls (tells-taken name e) n sets touches refl
          (taken-link b.made L name e before later step d may ans (link_at s.links name) (h.links name n) (there-before (link_at s.links name).machine before is)) h;
      newest = taken-outcome b.made L name e before later step d may ans ∙ ou;
      left = subst (λ (v : Outcome). IsLeft v (was_taken name (L ++ accepting name e ∷ [])) (link_at ls name).machine) ou
          (subst (λ (taken : Bool). IsLeft (accepting_outcome g e step) taken (link_at ls name).machine) (sym (taken-kept name L (accepting name e) refl ∙ d.taken))
          (subst (λ (l : Kept). IsLeft (accepting_outcome g e step) true l.machine) (sym (set-at s.links ls name kept n sets)) (left-taken g e step later)));
    }
