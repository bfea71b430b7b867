-- Which steps of a machine are tame: what they put is no Address-Resolution-ACK, no Connect-Request and no Connect-Accept.
-- It serves clauses of functions of `laws`.
use Rattle.std.proofs.Common.{◌≡◌, ℕ, Bool, true, false, not, cond, ◌&&◌, List, [], ◌∷◌, ◌++◌, Option, Some, None, refl, ap, ◌∙◌}
use Rattle.std.specs.Prelude.{⊤, ◌==◌}
use Rattle.bsc_octets.specs.declared.identity.Identity.{Identity}
use Rattle.bsc_octets.specs.Forwarding.{function_in}
use Rattle.bsc_octets.specs.Functions.{is_response}
use Rattle.bsc_frame.specs.declared.check.Check.{Check}
use Rattle.bsc_frame.specs.declared.message.Message.{Message}
use Rattle.bsc_frame.specs.declared.body.Body.{Body}
use Rattle.bsc_frame.specs.declared.body.Body.TheVariants.{DisconnectRequest, HeartbeatRequest, HeartbeatAck}
use Rattle.bsc_checks.specs.declared.place.Place.{Place}
use Rattle.bsc_checks.specs.declared.verdict.Verdict.{Verdict}
use Rattle.bsc_checks.specs.declared.verdict.Verdict.TheVariants.{Pass, Carry, Silent, Nak}
use Rattle.bsc_checks.specs.Places.{dest_in, is_to_carry}
use Rattle.bsc_checks.specs.Table.{code_of, checks_of}
use Rattle.bsc_checks.specs.PlaceTests.{is_unicast}
use Rattle.bsc_checks.specs.Failing.{fails}
use Rattle.bsc_checks.specs.Outcomes.{answered, refused, accepted, decided, first_failing, outcome_of}
use Rattle.bsc_accept.specs.declared.start.Start.{Start}
use Rattle.bsc_accept.specs.declared.step.Step.{Step}
use Rattle.bsc_accept.specs.declared.event.Event.{Event}
use Rattle.bsc_accept.specs.declared.event.Event.TheVariants.{Message as AcceptMessage, Refused as RefusedEvent, Finish as AcceptFinish, Tick as AcceptTick}
use Rattle.bsc_accept.specs.Messages.{who_asks, is_farewell_answer}
use Rattle.bsc_accept.specs.Past as Accepting
use Rattle.bsc_accept.specs.Waits.{connect_wait_is_over, is_idle, disconnect_wait_is_over}
use Rattle.bsc_accept.specs.Steps as AcceptingSteps
use Rattle.bsc_history.specs.declared.reply.Refusal.TheVariants.{Duplicate}
use Rattle.bsc_initiate.specs.declared.event.InitEvent.{InitEvent}
use Rattle.bsc_initiate.specs.declared.event.InitEvent.TheVariants.{Message as InitMessage, Finish as InitFinish, Tick as InitTick}
use Rattle.bsc_initiate.specs.declared.step.InitStep.{InitStep}
use Rattle.bsc_initiate.specs.declared.step.InitStep.TheVariants.{Nothing}
use Rattle.bsc_initiate.specs.Messages.{who_accepts, refusing_code}
use Rattle.bsc_initiate.specs.Past.{Standing, awaiting_websocket, awaiting_accept, connected, disconnecting, standing, last_message, heartbeat_was_put, is_heartbeat_due}
use Rattle.bsc_initiate.specs.Steps.{answer_step, connected_step, passed_step, message_step, tick_step, finish_step, step}
use Rattle.bsc_node.specs.declared.link_name.LinkName.{LinkName}
use Rattle.bsc_node.specs.declared.link_name.LinkName.TheVariants.{Direct}
use Rattle.bsc_node.specs.Logs.{Made, Log, initiating, accepting, now, next_id}
use Rattle.bsc_node.specs.Links.{was_taken, start, initiating_events, accepting_events, verdict, place, by_machine, hears, ticks, finishes, Outcome, puts, puts_and_closes}
use Rattle.bsc_node.specs.Links.{initiating_outcome, accepting_outcome, outcome}
use Rattle.bsc_node.specs.Meeting.{refuses}
use Rattle.bsc_node.proofs.Told.{outcome-initiating, outcome-accepting}
use Rattle.bsc_node_identity.specs.Naming.{is_connect}
use Rattle.bsc_node_identity.specs.Resolving.{is_uris}

-- whether octets are neither an Address-Resolution-ACK nor a Connect-Request nor a Connect-Accept
abbrev pub is_tame : List ℕ → Bool
is_tame o = not (is_uris o) && not (is_connect o)

abbrev pub puts_tamely : Outcome → Bool
puts_tamely (puts o) = is_tame o
puts_tamely (puts_and_closes o closing) = is_tame o
puts_tamely outcome = true

-- ---- verdicts

-- the octets of a NAK verdict are tame
abbrev IsTame : Verdict → Type 0
IsTame (Nak check octets) = is_tame octets.items ≡ true
IsTame v = ⊤

tame_answered : (b : Bool) (m : List ℕ) (place : Place) (check : Check) (code : ℕ) → IsTame (answered b m place check code)
tame_answered true m place check code = refl
tame_answered false m place check code = tt

tame_refused : (m : List ℕ) (place : Place) (check : Check) (code : Option ℕ) → IsTame (refused m place check code)
tame_refused m place check None = tt
tame_refused m place check (Some code) = tame_answered (is_unicast (dest_in m) && not (is_response (function_in m))) m place check code

tame_accepted : (b : Bool) (m : List ℕ) → IsTame (accepted b m)
tame_accepted true m = tt
tame_accepted false m = tt

tame_decided : (m : List ℕ) (place : Place) (o : Option Check) → IsTame (decided m place o)
tame_decided m place None = tame_accepted (is_to_carry place m) m
tame_decided m place (Some check) = tame_refused m place check (code_of check)

tame_judged : (m : List ℕ) (place : Place) (max : ℕ) → IsTame (outcome_of m place max)
unfolding outcome_of
tame_judged m place max = tame_decided m place (first_failing (fails m place max) (checks_of place m))

-- ---- the machine of a link that was dialled

tame_if : (e : InitEvent) (b : Bool) (x y : InitStep) → puts_tamely (initiating_outcome e x) ≡ true → puts_tamely (initiating_outcome e y) ≡ true
    → puts_tamely (initiating_outcome e (cond b x y)) ≡ true
tame_if e true x y h g = h
tame_if e false x y h g = g

tame_answer : (e : InitEvent) (who : Option Identity) (code : Option ℕ) → puts_tamely (initiating_outcome e (answer_step who code)) ≡ true
tame_answer e (Some who) code = refl
tame_answer e None (Some code) = refl
tame_answer e None None = refl

tame_connected : (now : ℕ) (msg : Message) (id : ℕ) (body : Body) → puts_tamely (initiating_outcome (InitMessage now (Pass msg)) (connected_step id body)) ≡ true
tame_connected now msg id HeartbeatRequest = refl
tame_connected now msg id DisconnectRequest = refl
tame_connected now msg id HeartbeatAck = refl
tame_connected now msg id body = refl

tame_passed : (now : ℕ) (msg : Message) (g : Standing) → puts_tamely (initiating_outcome (InitMessage now (Pass msg)) (passed_step g msg)) ≡ true
tame_passed now msg awaiting_websocket = refl
tame_passed now msg (awaiting_accept id) =
    tame_if (InitMessage now (Pass msg)) (msg.id == id) (answer_step (who_accepts msg.body) (refusing_code msg.body)) Nothing
    (tame_answer (InitMessage now (Pass msg)) (who_accepts msg.body) (refusing_code msg.body)) refl
tame_passed now msg connected = tame_connected now msg msg.id msg.body
tame_passed now msg (disconnecting f) = tame_if (InitMessage now (Pass msg)) (is_farewell_answer f.id msg) _ _ refl refl

tame_heard : (now : ℕ) (v : Verdict) → IsTame v → (g : Standing) → puts_tamely (initiating_outcome (InitMessage now v) (message_step g v)) ≡ true
tame_heard now (Pass msg) n g = tame_passed now msg g
tame_heard now (Carry envelope) n g = refl
tame_heard now (Silent check) n g = refl
tame_heard now (Nak check octets) n g = n

tame_tick_by : (s : Start) (last : ℕ) (put : Bool) (now id : ℕ) (g : Standing) → puts_tamely (initiating_outcome (InitTick now id) (tick_step s last put now id g)) ≡ true
tame_tick_by s last put now id awaiting_websocket = tame_if (InitTick now id) (connect_wait_is_over s now) _ _ refl refl
tame_tick_by s last put now id (awaiting_accept request) = tame_if (InitTick now id) (connect_wait_is_over s now) _ _ refl refl
tame_tick_by s last put now id connected =
    tame_if (InitTick now id) (is_idle s last now) _ _ refl (tame_if (InitTick now id) (is_heartbeat_due s last now && not put) _ _ refl refl)
tame_tick_by s last put now id (disconnecting f) = tame_if (InitTick now id) (disconnect_wait_is_over s f now) _ _ refl refl

tame_finish_by : (now id : ℕ) (g : Standing) → puts_tamely (initiating_outcome (InitFinish now id) (finish_step g id)) ≡ true
tame_finish_by now id awaiting_websocket = refl
tame_finish_by now id (awaiting_accept request) = refl
tame_finish_by now id connected = refl
tame_finish_by now id (disconnecting f) = refl

-- ---- the machine of a link that was taken

tame_if_taken : (h : Accepting.Standing) (e : Event) (b : Bool) (x y : Step) → puts_tamely (accepting_outcome h e x) ≡ true → puts_tamely (accepting_outcome h e y) ≡ true
    → puts_tamely (accepting_outcome h e (cond b x y)) ≡ true
tame_if_taken h e true x y p q = p
tame_if_taken h e false x y p q = q

tame_asked : (e : Event) (who : Option Identity) → puts_tamely (accepting_outcome Accepting.awaiting_request e (AcceptingSteps.ask_step who)) ≡ true
tame_asked e (Some who) = refl
tame_asked e None = refl

tame_taken_connected : (now : ℕ) (msg : Message) (id : ℕ) (body : Body)
    → puts_tamely (accepting_outcome Accepting.connected (AcceptMessage now (Pass msg)) (AcceptingSteps.connected_step id body)) ≡ true
tame_taken_connected now msg id HeartbeatRequest = refl
tame_taken_connected now msg id DisconnectRequest = refl
tame_taken_connected now msg id body = refl

tame_taken_passed : (now : ℕ) (msg : Message) (g : Accepting.Standing) → puts_tamely (accepting_outcome g (AcceptMessage now (Pass msg)) (AcceptingSteps.passed_step g msg)) ≡ true
tame_taken_passed now msg Accepting.awaiting_request = tame_asked (AcceptMessage now (Pass msg)) (who_asks msg.body)
tame_taken_passed now msg Accepting.connected = tame_taken_connected now msg msg.id msg.body
tame_taken_passed now msg (Accepting.disconnecting f) = tame_if_taken (Accepting.disconnecting f) (AcceptMessage now (Pass msg)) (is_farewell_answer f.id msg) _ _ refl refl

tame_taken_heard : (now : ℕ) (v : Verdict) → IsTame v → (g : Accepting.Standing) → puts_tamely (accepting_outcome g (AcceptMessage now v) (AcceptingSteps.message_step g v)) ≡ true
tame_taken_heard now (Pass msg) n g = tame_taken_passed now msg g
tame_taken_heard now (Carry envelope) n g = refl
tame_taken_heard now (Silent check) n Accepting.awaiting_request = refl
tame_taken_heard now (Silent check) n Accepting.connected = refl
tame_taken_heard now (Silent check) n (Accepting.disconnecting f) = refl
tame_taken_heard now (Nak check octets) n g = n

tame_taken_tick_by : (s : Start) (last now : ℕ) (g : Accepting.Standing) → puts_tamely (accepting_outcome g (AcceptTick now) (AcceptingSteps.tick_step s last now g)) ≡ true
tame_taken_tick_by s last now Accepting.awaiting_request = tame_if_taken Accepting.awaiting_request (AcceptTick now) (connect_wait_is_over s now) _ _ refl refl
tame_taken_tick_by s last now Accepting.connected = tame_if_taken Accepting.connected (AcceptTick now) (is_idle s last now) _ _ refl refl
tame_taken_tick_by s last now (Accepting.disconnecting f) = tame_if_taken (Accepting.disconnecting f) (AcceptTick now) (disconnect_wait_is_over s f now) _ _ refl refl

tame_taken_finish_by : (now id : ℕ) (g : Accepting.Standing) → puts_tamely (accepting_outcome g (AcceptFinish now id) (AcceptingSteps.finish_step g id)) ≡ true
tame_taken_finish_by now id Accepting.awaiting_request = refl
tame_taken_finish_by now id Accepting.connected = refl
tame_taken_finish_by now id (Accepting.disconnecting f) = refl

-- ---- the newest step of a link's machine

-- where it is told something, whichever machine it is
tame_told : (a : Made) (name : LinkName) (L : Log) (dialled : LinkName → InitEvent) (taken : LinkName → Event)
    → ((s : Start) → puts_tamely (initiating_outcome (dialled name) (step s (initiating_events L name) (dialled name))) ≡ true)
    → ((s : Start) → puts_tamely (accepting_outcome (Accepting.standing (accepting_events L name)) (taken name) (AcceptingSteps.step s (accepting_events L name) (taken name))) ≡ true)
    → (b : Bool) → was_taken name L ≡ b → puts_tamely (outcome a (L ++ by_machine dialled taken name b) name) ≡ true
tame_told a name L dialled taken p q false h = ap puts_tamely (outcome-initiating a L name (dialled name) h) ∙ p (start a (L ++ initiating name (dialled name) ∷ []) name)
tame_told a name L dialled taken p q true h = ap puts_tamely (outcome-accepting a L name (taken name) h) ∙ q (start a (L ++ accepting name (taken name) ∷ []) name)

pub tame-hears : (a : Made) (name : LinkName) (o : List ℕ) (L : Log) → puts_tamely (outcome a (L ++ hears a name o L) name) ≡ true
tame-hears a name o L =
    tame_told a name L (λ n. InitMessage (now L) (verdict a L n o)) (λ n. AcceptMessage (now L) (verdict a L n o))
    (λ s. tame_heard (now L) (verdict a L name o) (tame_judged o (place a L name) a.own.max_bvlc) (standing (initiating_events L name)))
    (λ s. tame_taken_heard (now L) (verdict a L name o) (tame_judged o (place a L name) a.own.max_bvlc) (Accepting.standing (accepting_events L name)))
    (was_taken name L) refl

pub tame-ticked : (a : Made) (name : LinkName) (L : Log) → puts_tamely (outcome a (L ++ ticks name L) name) ≡ true
tame-ticked a name L =
    tame_told a name L (λ n. InitTick (now L) (next_id L)) (λ n. AcceptTick (now L))
    (λ s. tame_tick_by s (last_message s (initiating_events L name)) (heartbeat_was_put s (initiating_events L name)) (now L) (next_id L) (standing (initiating_events L name)))
    (λ s. tame_taken_tick_by s (Accepting.last_message s (accepting_events L name)) (now L) (Accepting.standing (accepting_events L name)))
    (was_taken name L) refl

pub tame-finished : (a : Made) (name : LinkName) (L : Log) → puts_tamely (outcome a (L ++ finishes name L) name) ≡ true
tame-finished a name L =
    tame_told a name L (λ n. InitFinish (now L) (next_id L)) (λ n. AcceptFinish (now L) (next_id L))
    (λ s. tame_finish_by (now L) (next_id L) (standing (initiating_events L name))) (λ s. tame_taken_finish_by (now L) (next_id L) (Accepting.standing (accepting_events L name)))
    (was_taken name L) refl

-- A peer that asked and is refused for its VMAC gets a NAK.
pub tame-refused : (a : Made) (k : ℕ) (L : Log) → was_taken (Direct k) L ≡ true → puts_tamely (outcome a (L ++ refuses (Direct k) L) (Direct k)) ≡ true
tame-refused a k L h = ap puts_tamely (outcome-accepting a L (Direct k) (RefusedEvent (Duplicate None)) h)
