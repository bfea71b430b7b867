-- Which steps of a machine are calm: they neither put an Encapsulated-NPDU, nor have a message for the node, nor name a peer, nor are a refusal.
-- It serves clauses of functions of `laws`.
use Rattle.std.proofs.Common.{◌≡◌, ℕ, Bool, true, false, not, cond, ◌&&◌, List, None, refl}
use Rattle.bsc_octets.specs.Functions.{is_npdu}
use Rattle.bsc_accept.specs.declared.start.Start.{Start}
use Rattle.bsc_accept.specs.declared.step.Step.{Step}
use Rattle.bsc_accept.specs.declared.event.Event.{Event}
use Rattle.bsc_accept.specs.declared.event.Event.TheVariants.{Joined, Refused as RefusedEvent, Finish as AcceptFinish, Tick as AcceptTick}
use Rattle.bsc_accept.specs.Past as Accepting
use Rattle.bsc_accept.specs.Waits.{connect_wait_is_over, is_idle, disconnect_wait_is_over}
use Rattle.bsc_accept.specs.Steps as AcceptingSteps
use Rattle.bsc_history.specs.declared.reply.Refusal.TheVariants.{Duplicate}
use Rattle.bsc_initiate.specs.declared.event.InitEvent.{InitEvent}
use Rattle.bsc_initiate.specs.declared.event.InitEvent.TheVariants.{Opened, Finish, Tick}
use Rattle.bsc_initiate.specs.declared.step.InitStep.{InitStep}
use Rattle.bsc_initiate.specs.Past.{Standing, awaiting_websocket, awaiting_accept, connected, disconnecting, standing, last_message, heartbeat_was_put, is_heartbeat_due}
use Rattle.bsc_initiate.specs.Steps.{tick_step, finish_step, step}
use Rattle.bsc_node.specs.Links.{Outcome, puts, puts_and_closes, meets, is_refused, passes_up, initiating_outcome, accepting_outcome}

abbrev pub is_calm : Outcome → Bool
is_calm (puts o) = not (is_npdu o)
is_calm (puts_and_closes o closing) = not (is_npdu o)
is_calm (meets who) = false
is_calm (passes_up msg) = false
is_calm (is_refused origin code) = false
is_calm outcome = true

-- ---- the machine of a link that was dialled

calm_if : (e : InitEvent) (b : Bool) (x y : InitStep) → is_calm (initiating_outcome e x) ≡ true → is_calm (initiating_outcome e y) ≡ true → is_calm (initiating_outcome e (cond b x y)) ≡ true
calm_if e true x y h g = h
calm_if e false x y h g = g

pub calm-opened : (s : Start) (E : List InitEvent) (now id : ℕ) → is_calm (initiating_outcome (Opened now id) (step s E (Opened now id))) ≡ true
calm-opened s E now id = refl

calm_tick_by : (s : Start) (last : ℕ) (put : Bool) (now id : ℕ) (g : Standing) → is_calm (initiating_outcome (Tick now id) (tick_step s last put now id g)) ≡ true
calm_tick_by s last put now id awaiting_websocket = calm_if (Tick now id) (connect_wait_is_over s now) _ _ refl refl
calm_tick_by s last put now id (awaiting_accept request) = calm_if (Tick now id) (connect_wait_is_over s now) _ _ refl refl
calm_tick_by s last put now id connected =
    calm_if (Tick now id) (is_idle s last now) _ _ refl (calm_if (Tick now id) (is_heartbeat_due s last now && not put) _ _ refl refl)
calm_tick_by s last put now id (disconnecting f) = calm_if (Tick now id) (disconnect_wait_is_over s f now) _ _ refl refl

pub calm-tick : (s : Start) (E : List InitEvent) (now id : ℕ) → is_calm (initiating_outcome (Tick now id) (step s E (Tick now id))) ≡ true
calm-tick s E now id = calm_tick_by s (last_message s E) (heartbeat_was_put s E) now id (standing E)

calm_finish_by : (now id : ℕ) (g : Standing) → is_calm (initiating_outcome (Finish now id) (finish_step g id)) ≡ true
calm_finish_by now id awaiting_websocket = refl
calm_finish_by now id (awaiting_accept request) = refl
calm_finish_by now id connected = refl
calm_finish_by now id (disconnecting f) = refl

pub calm-finish : (s : Start) (E : List InitEvent) (now id : ℕ) → is_calm (initiating_outcome (Finish now id) (step s E (Finish now id))) ≡ true
calm-finish s E now id = calm_finish_by now id (standing E)

-- ---- the machine of a link that was taken

calm_if_taken : (h : Accepting.Standing) (e : Event) (b : Bool) (x y : Step) → is_calm (accepting_outcome h e x) ≡ true → is_calm (accepting_outcome h e y) ≡ true
    → is_calm (accepting_outcome h e (cond b x y)) ≡ true
calm_if_taken h e true x y p q = p
calm_if_taken h e false x y p q = q

calm_taken_tick_by : (s : Start) (last now : ℕ) (g : Accepting.Standing) → is_calm (accepting_outcome g (AcceptTick now) (AcceptingSteps.tick_step s last now g)) ≡ true
calm_taken_tick_by s last now Accepting.awaiting_request = calm_if_taken Accepting.awaiting_request (AcceptTick now) (connect_wait_is_over s now) _ _ refl refl
calm_taken_tick_by s last now Accepting.connected = calm_if_taken Accepting.connected (AcceptTick now) (is_idle s last now) _ _ refl refl
calm_taken_tick_by s last now (Accepting.disconnecting f) = calm_if_taken (Accepting.disconnecting f) (AcceptTick now) (disconnect_wait_is_over s f now) _ _ refl refl

pub calm-taken_tick : (s : Start) (E : List Event) (now : ℕ) → is_calm (accepting_outcome (Accepting.standing E) (AcceptTick now) (AcceptingSteps.step s E (AcceptTick now))) ≡ true
calm-taken_tick s E now = calm_taken_tick_by s (Accepting.last_message s E) now (Accepting.standing E)

calm_taken_finish_by : (now id : ℕ) (g : Accepting.Standing) → is_calm (accepting_outcome g (AcceptFinish now id) (AcceptingSteps.finish_step g id)) ≡ true
calm_taken_finish_by now id Accepting.awaiting_request = refl
calm_taken_finish_by now id Accepting.connected = refl
calm_taken_finish_by now id (Accepting.disconnecting f) = refl

pub calm-taken_finish : (s : Start) (E : List Event) (now id : ℕ) → is_calm (accepting_outcome (Accepting.standing E) (AcceptFinish now id) (AcceptingSteps.step s E (AcceptFinish now id))) ≡ true
calm-taken_finish s E now id = calm_taken_finish_by now id (Accepting.standing E)

pub calm-joined : (s : Start) (E : List Event) → is_calm (accepting_outcome (Accepting.standing E) Joined (AcceptingSteps.step s E Joined)) ≡ true
calm-joined s E = refl

pub calm-duplicate : (s : Start) (E : List Event) → is_calm (accepting_outcome (Accepting.standing E) (RefusedEvent (Duplicate None)) (AcceptingSteps.step s E (RefusedEvent (Duplicate None)))) ≡ true
calm-duplicate s E = refl
