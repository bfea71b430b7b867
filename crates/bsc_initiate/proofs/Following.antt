-- What is kept goes on standing for what was told.
-- It serves clauses of functions of `initiating`.
use Rattle.std.proofs.Common.{◌≡◌, ℕ, Bool, true, false, cond, not, ◌==◌, ◌&&◌, ◌||◌, List, [], ◌∷◌, ◌++◌, Option, Some, None, unwrap_or, refl, ap, sym, ◌∙◌}
use Rattle.arrayvec.specs.ArrayVec.{ArrayVec}
use Rattle.bsc_octets.specs.declared.identity.Identity.{Identity}
use Rattle.bsc_frame.specs.declared.message.Message.{Message}
use Rattle.bsc_frame.specs.declared.body.Body.{Body}
use Rattle.bsc_frame.specs.declared.body.Body.TheVariants.{HeartbeatRequest, DisconnectRequest, HeartbeatAck}
use Rattle.bsc_checks.specs.declared.verdict.Verdict.{Verdict}
use Rattle.bsc_checks.specs.declared.verdict.Verdict.TheVariants.{Pass, Carry, Silent, Nak}
use Rattle.bsc_accept.specs.declared.start.Start.{Start}
use Rattle.bsc_accept.specs.declared.closing.Closing.{Closing}
use Rattle.bsc_accept.specs.declared.reason.Reason.TheVariants.{ConnectWait, Idle as NoMessage}
use Rattle.bsc_accept.specs.Messages.{octets_of, is_farewell_answer}
use Rattle.bsc_accept.specs.Waits.{connect_wait_is_over, is_idle, disconnect_wait_is_over}
use Rattle.bsc_accept.specs.Steps.{closing, normal}
use Rattle.bsc_initiate.specs.declared.event.InitEvent.{InitEvent}
use Rattle.bsc_initiate.specs.declared.event.InitEvent.TheVariants.{Opened, Message as Came, Finish, Tick}
use Rattle.bsc_initiate.specs.declared.step.InitStep.{InitStep}
use Rattle.bsc_initiate.specs.declared.step.InitStep.TheVariants.{Put, Close, Nothing}
use Rattle.bsc_initiate.specs.declared.stage.Stage.{Stage}
use Rattle.bsc_initiate.specs.declared.stage.Stage.TheVariants.{AwaitingWebsocket, AwaitingAccept, Connected, Disconnecting, Idle}
use Rattle.bsc_initiate.specs.declared.initiating.Initiating.{Initiating}
use Rattle.bsc_initiate.specs.Messages.{connect_request, heartbeat_request, who_accepts, refusing_code, says_who}
use Rattle.bsc_initiate.specs.Past.{Standing, awaiting_websocket, awaiting_accept, connected, disconnecting, standing, message_time, last_message, heartbeat_was_put, is_heartbeat_due}
use Rattle.bsc_initiate.specs.Steps.{step, closes, message_step, passed_step, answer_step, connected_step, finish_step, tick_step}
use Rattle.bsc_initiate.specs.Standing.{InitiatingStands, open_stage, has_closed, is_open}
use Rattle.bsc_initiate.specs.Kept.{standing_at, put_at, moved, put_after, heard_at, after, after_tick, ticked}
use Rattle.bsc_initiate.proofs.Looking.{standing-more, last-more, put-more, closed-more}

-- ---- what a stage says of the events

opened_up : (over : Bool) (there waits : Stage) → waits ≡ cond over Idle there → is_open waits ≡ true → waits ≡ there
opened_up true there waits h o = cc
opened_up false there waits h o = h

-- A machine that is open waits for what its events say.
pub stage_of_open : (m : Initiating) (s : Start) (E : List InitEvent) → InitiatingStands m s E → is_open m.stage ≡ true → m.stage ≡ open_stage (standing E) (heartbeat_was_put s E)
stage_of_open m s E h o = opened_up (has_closed s E) (open_stage (standing E) (heartbeat_was_put s E)) m.stage h.stage o

standing_there : (g : Standing) (put : Bool) → standing_at (open_stage g put) ≡ g
standing_there awaiting_websocket put = refl
standing_there (awaiting_accept id) put = refl
standing_there connected put = refl
standing_there (disconnecting f) put = refl

-- A machine that is open has the standing of its stage.
pub standing_of_open : (m : Initiating) (s : Start) (E : List InitEvent) → InitiatingStands m s E → is_open m.stage ≡ true → standing E ≡ standing_at m.stage
standing_of_open m s E h o = sym (standing_there (standing E) (heartbeat_was_put s E)) ∙ ap standing_at (sym (stage_of_open m s E h o))

-- ---- one event more

-- A machine that keeps what an event leaves stands for the events with this one.
goes_on : (m n : Initiating) (s : Start) (E : List InitEvent) (e : InitEvent) → InitiatingStands m s E → n.start ≡ m.start → n.last ≡ unwrap_or (message_time e) m.last
    → n.stage ≡ cond (closes (step s E e)) Idle (open_stage (moved (standing E) e) (put_after s (last_message s E) (heartbeat_was_put s E) e)) → InitiatingStands n s (E ++ e ∷ [])
goes_on m n s E e h start last waits = record {
  start = start ∙ h.start;
  last = last ∙ ap (λ t. unwrap_or (message_time e) t) h.last ∙ sym (last-more s E e);
  stage = waits
      ∙ ap (λ b. cond b Idle (open_stage (moved (standing E) e) (put_after s (last_message s E) (heartbeat_was_put s E) e))) (sym (closed-more s E e))
      ∙ ap (λ g. cond (has_closed s (E ++ e ∷ [])) Idle (open_stage g (put_after s (last_message s E) (heartbeat_was_put s E) e))) (sym (standing-more E e))
      ∙ ap (λ p. cond (has_closed s (E ++ e ∷ [])) Idle (open_stage (standing (E ++ e ∷ [])) p)) (sym (put-more s E e));
}

-- ---- the Connect-Request

pub opened_answers : (m n : Initiating) (s : Start) (E : List InitEvent) (now id : ℕ) (answer : InitStep) → InitiatingStands m s E → m.stage ≡ AwaitingWebsocket
    → answer ≡ Put (octets_of (connect_request id m.start.own)) → n ≡ record m { stage = AwaitingAccept id }
    → (answer ≡ step s E (Opened now id)) × InitiatingStands n s (E ++ Opened now id ∷ [])
opened_answers m n s E now id answer h a is new =
    let k : standing E ≡ awaiting_websocket = standing_of_open m s E h (ap is_open a) ∙ ap standing_at a in (
      is ∙ ap (λ own. Put (octets_of (connect_request id own))) (ap (λ x. x.own) h.start),
      goes_on m n s E (Opened now id) h (ap (λ x. x.start) new) (ap (λ x. x.last) new)
          (ap (λ x. x.stage) new ∙ ap (λ g. open_stage (moved g (Opened now id)) (heartbeat_was_put s E)) (sym k)),
    )

-- ---- a message

awaiting : (id : ℕ) (same : Bool) (who : Option Identity) (code : Option ℕ)
    → after (AwaitingAccept id) (cond same (answer_step who code) Nothing)
    ≡ cond (closes (cond same (answer_step who code) Nothing)) Idle (open_stage (cond (same && says_who who) connected (awaiting_accept id)) false)
awaiting id true (Some who) code = refl
awaiting id true None (Some code) = refl
awaiting id true None None = refl
awaiting id false who code = refl

serving : (id : ℕ) (body : Body) → after (Connected false) (connected_step id body) ≡ cond (closes (connected_step id body)) Idle (Connected false)
serving id HeartbeatRequest = refl
serving id DisconnectRequest = refl
serving id HeartbeatAck = refl
serving id body = refl

-- a step that closes or does nothing
closing_or_not : (waits : Stage) (b : Bool) (c : Closing) → after waits (cond b (Close c) Nothing) ≡ cond (closes (cond b (Close c) Nothing)) Idle waits
closing_or_not waits true c = refl
closing_or_not waits false c = refl

came : (g : Standing) (put : Bool) (now : ℕ) (v : Verdict)
    → after (heard_at (open_stage g put)) (message_step g v) ≡ cond (closes (message_step g v)) Idle (open_stage (moved g (Came now v)) false)
came awaiting_websocket put now (Pass msg) = refl
came awaiting_websocket put now (Carry envelope) = refl
came awaiting_websocket put now (Silent check) = refl
came awaiting_websocket put now (Nak check octets) = refl
came (awaiting_accept id) put now (Pass msg) = awaiting id (msg.id == id) (who_accepts msg.body) (refusing_code msg.body)
came (awaiting_accept id) put now (Carry envelope) = refl
came (awaiting_accept id) put now (Silent check) = refl
came (awaiting_accept id) put now (Nak check octets) = refl
came connected put now (Pass msg) = serving msg.id msg.body
came connected put now (Carry envelope) = refl
came connected put now (Silent check) = refl
came connected put now (Nak check octets) = refl
came (disconnecting f) put now (Pass msg) = closing_or_not (Disconnecting f) (is_farewell_answer f.id msg) normal
came (disconnecting f) put now (Carry envelope) = refl
came (disconnecting f) put now (Silent check) = refl
came (disconnecting f) put now (Nak check octets) = refl

standing_heard : (waits : Stage) → standing_at (heard_at waits) ≡ standing_at waits
standing_heard AwaitingWebsocket = refl
standing_heard (AwaitingAccept id) = refl
standing_heard (Connected put) = refl
standing_heard (Disconnecting f) = refl
standing_heard Idle = refl

pub message_answers : (m n : Initiating) (s : Start) (E : List InitEvent) (now : ℕ) (v : Verdict) (answer : InitStep) → InitiatingStands m s E → is_open m.stage ≡ true
    → answer ≡ message_step (standing_at (heard_at m.stage)) v → n ≡ record m { last = now; stage = after (heard_at m.stage) answer }
    → (answer ≡ step s E (Came now v)) × InitiatingStands n s (E ++ Came now v ∷ [])
message_answers m n s E now v answer h o is new =
    let here : answer ≡ message_step (standing E) v =
    is
    ∙ ap (λ t. message_step t v) (standing_heard m.stage)
    ∙ ap (λ t. message_step t v) (sym (standing_of_open m s E h o)) in (
      here,
      goes_on m n s E (Came now v) h (ap (λ x. x.start) new) (ap (λ x. x.last) new)
          (
          ap (λ x. x.stage) new
          ∙ ap (λ a. after (heard_at m.stage) a) here
          ∙ ap (λ w. after (heard_at w) (message_step (standing E) v)) (stage_of_open m s E h o)
          ∙ came (standing E) (heartbeat_was_put s E) now v
          ),
    )

abbrev left_at : InitStep → Initiating → Initiating
left_at answer m = record m { stage = after m.stage answer }

pub passed_answers : (m heard n : Initiating) (s : Start) (E : List InitEvent) (now : ℕ) (v : Verdict) (msg : Message) (answer : InitStep) → InitiatingStands m s E → is_open m.stage ≡ true
    → v ≡ Pass msg → heard ≡ record m { last = now; stage = heard_at m.stage } → answer ≡ passed_step (standing_at heard.stage) msg → n ≡ record heard { stage = after heard.stage answer }
    → (answer ≡ step s E (Came now v)) × InitiatingStands n s (E ++ Came now v ∷ [])
passed_answers m heard n s E now v msg answer h o said hears is new =
    message_answers m n s E now v answer h o
    (
    is
    ∙ ap (λ x. passed_step (standing_at x.stage) msg) hears
    ∙ ap (λ w. message_step (standing_at (heard_at m.stage)) w) (sym said)
    )
    (new ∙ ap (left_at answer) hears)

-- ---- the end

finished : (g : Standing) (p q : Bool) (now id : ℕ)
    → cond (closes (finish_step g id)) Idle (open_stage (moved g (Finish now id)) p) ≡ cond (closes (finish_step g id)) Idle (open_stage (moved g (Finish now id)) q)
finished awaiting_websocket p q now id = refl
finished (awaiting_accept request) p q now id = refl
finished connected p q now id = refl
finished (disconnecting f) p q now id = refl

pub finish_answers : (m n : Initiating) (s : Start) (E : List InitEvent) (now id : ℕ) (answer : InitStep) → InitiatingStands m s E → is_open m.stage ≡ true
    → answer ≡ finish_step (standing_at m.stage) id
    → n ≡ record m { stage = cond (closes (finish_step (standing_at m.stage) id)) Idle (open_stage (moved (standing_at m.stage) (Finish now id)) false) }
    → (answer ≡ step s E (Finish now id)) × InitiatingStands n s (E ++ Finish now id ∷ [])
finish_answers m n s E now id answer h o is new =
    let g : standing E ≡ standing_at m.stage = standing_of_open m s E h o in (
      is ∙ ap (λ t. finish_step t id) (sym g),
      goes_on m n s E (Finish now id) h (ap (λ x. x.start) new) (ap (λ x. x.last) new)
          (
          ap (λ x. x.stage) new
          ∙ ap (λ t. cond (closes (finish_step t id)) Idle (open_stage (moved t (Finish now id)) false)) (sym g)
          ∙ finished (standing E) false (heartbeat_was_put s E) now id
          ),
    )

-- ---- time

beating : (s : Start) (last : ℕ) (put : Bool) (now : ℕ) (idle due : Bool) (c : Closing) (octets : ArrayVec ℕ)
    → after_tick s last put now (cond idle (Close c) (cond due (Put octets) Nothing))
    ≡ cond (closes (cond idle (Close c) (cond due (Put octets) Nothing))) Idle (Connected (is_heartbeat_due s last now || put))
beating s last put now true due c octets = refl
beating s last put now false true c octets = refl
beating s last put now false false c octets = refl

tick_there : (s : Start) (last now id : ℕ) (g : Standing) (put : Bool)
    → tick_step s last (put_at (open_stage g put)) now id (standing_at (open_stage g put)) ≡ tick_step s last put now id g
tick_there s last now id awaiting_websocket put = refl
tick_there s last now id (awaiting_accept request) put = refl
tick_there s last now id connected put = refl
tick_there s last now id (disconnecting f) put = refl

ticking : (s : Start) (last now id : ℕ) (g : Standing) (put : Bool)
    → ticked s last now (open_stage g put) (tick_step s last put now id g)
    ≡ cond (closes (tick_step s last put now id g)) Idle (open_stage (moved g (Tick now id)) (put_after s last put (Tick now id)))
ticking s last now id awaiting_websocket put = closing_or_not AwaitingWebsocket (connect_wait_is_over s now) (closing 1008 ConnectWait)
ticking s last now id (awaiting_accept request) put = closing_or_not (AwaitingAccept request) (connect_wait_is_over s now) (closing 1008 ConnectWait)
ticking s last now id connected put =
    beating s last put now (is_idle s last now) (is_heartbeat_due s last now && not put) (closing 1008 NoMessage) (octets_of (heartbeat_request id))
ticking s last now id (disconnecting f) put = closing_or_not (Disconnecting f) (disconnect_wait_is_over s f now) normal

pub tick_answers : (m n : Initiating) (s : Start) (E : List InitEvent) (now id : ℕ) (answer : InitStep) → InitiatingStands m s E → is_open m.stage ≡ true
    → answer ≡ tick_step m.start m.last (put_at m.stage) now id (standing_at m.stage) → n ≡ record m { stage = ticked m.start m.last now m.stage answer }
    → (answer ≡ step s E (Tick now id)) × InitiatingStands n s (E ++ Tick now id ∷ [])
tick_answers m n s E now id answer h o is new =
    let there : m.stage ≡ open_stage (standing E) (heartbeat_was_put s E) = stage_of_open m s E h o in
    let here : answer ≡ step s E (Tick now id) =
    is
    ∙ ap (λ x. tick_step x m.last (put_at m.stage) now id (standing_at m.stage)) h.start
    ∙ ap (λ t. tick_step s t (put_at m.stage) now id (standing_at m.stage)) h.last
    ∙ ap (λ w. tick_step s (last_message s E) (put_at w) now id (standing_at w)) there
    ∙ tick_there s (last_message s E) now id (standing E) (heartbeat_was_put s E) in (
      here,
      goes_on m n s E (Tick now id) h (ap (λ x. x.start) new) (ap (λ x. x.last) new)
          (
          ap (λ x. x.stage) new
          ∙ ap (λ x. ticked x m.last now m.stage answer) h.start
          ∙ ap (λ t. ticked s t now m.stage answer) h.last
          ∙ ap (λ w. ticked s (last_message s E) now w answer) there
          ∙ ap (λ a. ticked s (last_message s E) now (open_stage (standing E) (heartbeat_was_put s E)) a) here
          ∙ ticking s (last_message s E) now id (standing E) (heartbeat_was_put s E)
          ),
    )

-- A tick elsewhere than in CONNECTED closes or does nothing.
abbrev pub is_unconnected : Stage → Bool
is_unconnected (Connected put) = false
is_unconnected waits = true

unconnected : (s : Start) (last now : ℕ) (waits : Stage) (answer : InitStep) → is_unconnected waits ≡ true → after waits answer ≡ ticked s last now waits answer
unconnected s last now AwaitingWebsocket answer u = refl
unconnected s last now (AwaitingAccept id) answer u = refl
unconnected s last now (Connected put) answer u = cc
unconnected s last now (Disconnecting f) answer u = refl
unconnected s last now Idle answer u = refl

pub closing_answers : (m n : Initiating) (s : Start) (E : List InitEvent) (now id : ℕ) (answer : InitStep) → InitiatingStands m s E → is_open m.stage ≡ true → is_unconnected m.stage ≡ true
    → answer ≡ tick_step m.start m.last (put_at m.stage) now id (standing_at m.stage) → n ≡ record m { stage = after m.stage answer }
    → (answer ≡ step s E (Tick now id)) × InitiatingStands n s (E ++ Tick now id ∷ [])
closing_answers m n s E now id answer h o u is new =
    tick_answers m n s E now id answer h o is (new ∙ ap (λ w. record m { stage = w }) (unconnected m.start m.last now m.stage answer u))

-- ---- which calls may be made next
