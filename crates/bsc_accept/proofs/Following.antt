-- What is kept goes on standing for what was told.
-- It serves clauses of functions of `accepting`.
use Rattle.std.proofs.Common.{◌≡◌, ℕ, Bool, true, false, cond, List, [], ◌∷◌, ◌++◌, Option, Some, None, unwrap_or, refl, ap, sym, ◌∙◌}
use Rattle.std.specs.Option.{option_map}
use Rattle.bsc_octets.specs.declared.identity.Identity.{Identity}
use Rattle.bsc_history.specs.declared.ending.End.{End}
use Rattle.bsc_frame.specs.declared.body.Body.{Body}
use Rattle.bsc_frame.specs.declared.body.Body.TheVariants.{HeartbeatRequest, DisconnectRequest}
use Rattle.bsc_checks.specs.declared.verdict.Verdict.{Verdict}
use Rattle.bsc_checks.specs.declared.verdict.Verdict.TheVariants.{Pass, Carry, Silent, Nak}
use Rattle.bsc_checks.specs.declared.phase.Phase.TheVariants.{Connected as PhaseConnected}
use Rattle.bsc_accept.specs.declared.start.Start.{Start}
use Rattle.bsc_accept.specs.declared.event.Event.{Event}
use Rattle.bsc_accept.specs.declared.event.Event.TheVariants.{Message as Came, Joined, Ended, Finish, Tick}
use Rattle.bsc_accept.specs.declared.closing.Closing.{Closing}
use Rattle.bsc_accept.specs.declared.reason.Reason.TheVariants.{ConnectWait, Idle as NoMessage}
use Rattle.bsc_accept.specs.declared.step.Step.{Step}
use Rattle.bsc_accept.specs.declared.step.Step.TheVariants.{Ask, Put, PutClose, Up, Close, Nothing}
use Rattle.bsc_accept.specs.Messages.{octets_of, connect_accept, who_asks, is_farewell_answer}
use Rattle.bsc_accept.specs.Waits.{connect_wait_is_over, is_idle, disconnect_wait_is_over}
use Rattle.bsc_accept.specs.declared.stage.Stage.{Stage}
use Rattle.bsc_accept.specs.declared.stage.Stage.TheVariants.{AwaitingRequest, Asked, Connected, Disconnecting, Idle}
use Rattle.bsc_accept.specs.declared.accepting.Accepting.{Accepting}
use Rattle.bsc_accept.specs.Past.{Standing, awaiting_request, connected, disconnecting, standing, question, asked_at, message_time, last_message}
use Rattle.bsc_accept.specs.Steps.{step, closes, message_step, ask_step, connected_step, ended_step, finish_step, tick_step, asked_id, closing, normal}
use Rattle.bsc_accept.specs.Standing.{AcceptingStands, open_stage, has_closed, is_open, phase_at, LeavesAccepting}
use Rattle.bsc_accept.specs.Kept.{standing_at, moved, after, after_message}
use Rattle.bsc_accept.proofs.Looking.{standing-more, last-more, question-more, closed-more}

-- ---- what a stage says of the events

-- A machine that is open has the standing of its stage.
open_standing : (over : Bool) (g : Standing) (q : Option ℕ) (st : Stage) → st ≡ cond over Idle (open_stage g q) → is_open st ≡ true → g ≡ standing_at st
open_standing true g q st h o = cc
open_standing false awaiting_request None st h o = ap standing_at (sym h)
open_standing false awaiting_request (Some id) st h o = cc
open_standing false connected q st h o = ap standing_at (sym h)
open_standing false (disconnecting f) q st h o = ap standing_at (sym h)

pub standing_of_open : (m : Accepting) (s : Start) (E : List Event) → AcceptingStands m s E → is_open m.stage ≡ true → standing E ≡ standing_at m.stage
standing_of_open m s E h o = open_standing (has_closed s E) (standing E) (question E) m.stage h.stage o

-- One that has asked has its question before it, and nobody has joined.
asked_standing : (over : Bool) (g : Standing) (q : Option ℕ) (id : ℕ) → Asked id ≡ cond over Idle (open_stage g q) → (g ≡ awaiting_request) × (unwrap_or q 0 ≡ id)
asked_standing true g q id h = cc
asked_standing false awaiting_request None id h = cc
asked_standing false awaiting_request (Some n) id h = (refl, cc)
asked_standing false connected q id h = cc
asked_standing false (disconnecting f) q id h = cc

pub standing_of_asked : (m : Accepting) (s : Start) (E : List Event) (id : ℕ) → AcceptingStands m s E → m.stage ≡ Asked id → (standing E ≡ awaiting_request) × (asked_id E ≡ id)
standing_of_asked m s E id h a = asked_standing (has_closed s E) (standing E) (question E) id (sym a ∙ h.stage)

-- Only a connected machine has the phase Connected.
pub connected_stage : (waits : Stage) → phase_at waits ≡ PhaseConnected → waits ≡ Connected
connected_stage AwaitingRequest p = cc
connected_stage (Asked id) p = cc
connected_stage Connected p = refl
connected_stage (Disconnecting f) p = cc
connected_stage Idle p = cc

-- ---- one event more

-- A machine that keeps what an event leaves stands for the events with this one.
goes_on : (m n : Accepting) (s : Start) (E : List Event) (e : Event) → AcceptingStands m s E → n.start ≡ m.start → n.last ≡ unwrap_or (message_time e) m.last
    → n.stage ≡ cond (closes (step s E e)) Idle (open_stage (moved (standing E) e) (asked_at e)) → AcceptingStands n s (E ++ e ∷ [])
goes_on m n s E e h start last waits = record {
  start = start ∙ h.start;
  last = last ∙ ap (λ t. unwrap_or (message_time e) t) h.last ∙ sym (last-more s E e);
  stage = waits
      ∙ ap (λ b. cond b Idle (open_stage (moved (standing E) e) (asked_at e))) (sym (closed-more s E e))
      ∙ ap (λ g. cond (has_closed s (E ++ e ∷ [])) Idle (open_stage g (asked_at e))) (sym (standing-more E e))
      ∙ ap (λ q. cond (has_closed s (E ++ e ∷ [])) Idle (open_stage (standing (E ++ e ∷ [])) q)) (sym (question-more E e));
}

-- ---- a message

asking : (id : ℕ) (o : Option Identity) → after AwaitingRequest id (ask_step o) ≡ cond (closes (ask_step o)) Idle (open_stage awaiting_request (option_map (λ who. id) o))
asking id None = refl
asking id (Some who) = refl

serving : (id : ℕ) (body : Body) → after Connected id (connected_step id body) ≡ cond (closes (connected_step id body)) Idle Connected
serving id HeartbeatRequest = refl
serving id DisconnectRequest = refl
serving id body = refl

-- a step that closes or does nothing
closing_or_not : (waits : Stage) (id : ℕ) (b : Bool) (c : Closing) → after waits id (cond b (Close c) Nothing) ≡ cond (closes (cond b (Close c) Nothing)) Idle waits
closing_or_not waits id true c = refl
closing_or_not waits id false c = refl

came : (waits : Stage) (now : ℕ) (v : Verdict) → is_open waits ≡ true
    → after_message waits v ≡ cond (closes (message_step (standing_at waits) v)) Idle (open_stage (moved (standing_at waits) (Came now v)) (asked_at (Came now v)))
came AwaitingRequest now (Pass msg) o = asking msg.id (who_asks msg.body)
came AwaitingRequest now (Carry envelope) o = refl
came AwaitingRequest now (Silent check) o = refl
came AwaitingRequest now (Nak check octets) o = refl
came (Asked id) now v o = cc
came Connected now (Pass msg) o = serving msg.id msg.body
came Connected now (Carry envelope) o = refl
came Connected now (Silent check) o = refl
came Connected now (Nak check octets) o = refl
came (Disconnecting f) now (Pass msg) o = closing_or_not (Disconnecting f) msg.id (is_farewell_answer f.id msg) normal
came (Disconnecting f) now (Carry envelope) o = refl
came (Disconnecting f) now (Silent check) o = refl
came (Disconnecting f) now (Nak check octets) o = refl
came Idle now v o = cc

pub message_answers : (m n : Accepting) (s : Start) (E : List Event) (now : ℕ) (v : Verdict) (answer : Step) → AcceptingStands m s E → is_open m.stage ≡ true
    → answer ≡ message_step (standing_at m.stage) v → n ≡ record m { last = now; stage = after_message m.stage v }
    → (answer ≡ step s E (Came now v)) × AcceptingStands n s (E ++ Came now v ∷ [])
message_answers m n s E now v answer h o is new =
    let g : standing E ≡ standing_at m.stage = standing_of_open m s E h o in (
      is ∙ ap (λ t. message_step t v) (sym g),
      goes_on m n s E (Came now v) h (ap (λ x. x.start) new) (ap (λ x. x.last) new)
          (
          ap (λ x. x.stage) new
          ∙ came m.stage now v o
          ∙ ap (λ t. cond (closes (message_step t v)) Idle (open_stage (moved t (Came now v)) (asked_at (Came now v)))) (sym g)
          ),
    )

-- ---- the answer on who asked

pub joined_answers : (m n : Accepting) (s : Start) (E : List Event) (id : ℕ) (answer : Step) → AcceptingStands m s E → m.stage ≡ Asked id
    → answer ≡ Put (octets_of (connect_accept id m.start.own)) → n ≡ record m { stage = Connected }
    → (answer ≡ step s E Joined) × AcceptingStands n s (E ++ Joined ∷ [])
joined_answers m n s E id answer h a is new =
    let k : (standing E ≡ awaiting_request) × (asked_id E ≡ id) = standing_of_asked m s E id h a in (
      is ∙ ap (λ own. Put (octets_of (connect_accept id own))) (ap (λ x. x.own) h.start) ∙ ap (λ i. Put (octets_of (connect_accept i s.own))) (sym k.1),
      goes_on m n s E Joined h (ap (λ x. x.start) new) (ap (λ x. x.last) new) (ap (λ x. x.stage) new ∙ ap (λ g. open_stage (moved g Joined) None) (sym k.0)),
    )

-- ---- the end

pub ended_answers : (m n : Accepting) (s : Start) (E : List Event) (now : ℕ) (ending : End) (answer : Step) → AcceptingStands m s E → m.stage ≡ Connected
    → answer ≡ ended_step ending → n ≡ record m { stage = cond (closes (ended_step ending)) Idle (open_stage (moved connected (Ended now ending)) None) }
    → (answer ≡ step s E (Ended now ending)) × AcceptingStands n s (E ++ Ended now ending ∷ [])
ended_answers m n s E now ending answer h a is new =
    let g : standing E ≡ standing_at m.stage = standing_of_open m s E h (ap is_open a) in
    let k : standing E ≡ connected = g ∙ ap standing_at a in (
      is,
      goes_on m n s E (Ended now ending) h (ap (λ x. x.start) new) (ap (λ x. x.last) new)
          (ap (λ x. x.stage) new ∙ ap (λ t. cond (closes (ended_step ending)) Idle (open_stage (moved t (Ended now ending)) None)) (sym k)),
    )

pub finish_answers : (m n : Accepting) (s : Start) (E : List Event) (now id : ℕ) (answer : Step) → AcceptingStands m s E → is_open m.stage ≡ true
    → answer ≡ finish_step (standing_at m.stage) id
    → n ≡ record m { stage = cond (closes (finish_step (standing_at m.stage) id)) Idle (open_stage (moved (standing_at m.stage) (Finish now id)) None) }
    → (answer ≡ step s E (Finish now id)) × AcceptingStands n s (E ++ Finish now id ∷ [])
finish_answers m n s E now id answer h o is new =
    let g : standing E ≡ standing_at m.stage = standing_of_open m s E h o in (
      is ∙ ap (λ t. finish_step t id) (sym g),
      goes_on m n s E (Finish now id) h (ap (λ x. x.start) new) (ap (λ x. x.last) new)
          (ap (λ x. x.stage) new ∙ ap (λ t. cond (closes (finish_step t id)) Idle (open_stage (moved t (Finish now id)) None)) (sym g)),
    )

-- ---- time

ticking : (s : Start) (last now : ℕ) (waits : Stage) → is_open waits ≡ true
    → after waits 0 (tick_step s last now (standing_at waits)) ≡ cond (closes (tick_step s last now (standing_at waits))) Idle (open_stage (moved (standing_at waits) (Tick now)) None)
ticking s last now AwaitingRequest o = closing_or_not AwaitingRequest 0 (connect_wait_is_over s now) (closing 1008 ConnectWait)
ticking s last now (Asked id) o = cc
ticking s last now Connected o = closing_or_not Connected 0 (is_idle s last now) (closing 1008 NoMessage)
ticking s last now (Disconnecting f) o = closing_or_not (Disconnecting f) 0 (disconnect_wait_is_over s f now) normal
ticking s last now Idle o = cc

pub tick_answers : (m n : Accepting) (s : Start) (E : List Event) (now : ℕ) (answer : Step) → AcceptingStands m s E → is_open m.stage ≡ true
    → answer ≡ tick_step m.start m.last now (standing_at m.stage) → n ≡ record m { stage = after m.stage 0 answer }
    → (answer ≡ step s E (Tick now)) × AcceptingStands n s (E ++ Tick now ∷ [])
tick_answers m n s E now answer h o is new =
    let g : standing E ≡ standing_at m.stage = standing_of_open m s E h o in
    let here : answer ≡ step s E (Tick now) =
    is
    ∙ ap (λ x. tick_step x m.last now (standing_at m.stage)) h.start
    ∙ ap (λ t. tick_step s t now (standing_at m.stage)) h.last
    ∙ ap (λ t. tick_step s (last_message s E) now t) (sym g) in (
      here,
      goes_on m n s E (Tick now) h (ap (λ x. x.start) new) (ap (λ x. x.last) new)
          (
          ap (λ x. x.stage) new
          ∙ ap (λ a. after m.stage 0 a) (here ∙ ap (λ t. tick_step s (last_message s E) now t) g)
          ∙ ticking s (last_message s E) now m.stage o
          ∙ ap (λ t. cond (closes (tick_step s (last_message s E) now t)) Idle (open_stage (moved t (Tick now)) None)) (sym g)
          ),
    )

-- ---- which calls may be made next

pub left_after : (m n : Accepting) (id : ℕ) (answer : Step) → is_open m.stage ≡ true → n ≡ record m { stage = after m.stage id answer } → LeavesAccepting answer n
left_after m n id (Ask who) o new = record { id = id; asked = ap (λ x. x.stage) new }
left_after m n id (Put octets) o new = ap (λ x. is_open x.stage) new ∙ o
left_after m n id (PutClose octets c) o new = ap (λ x. x.stage) new
left_after m n id Up o new = ap (λ x. is_open x.stage) new ∙ o
left_after m n id (Close c) o new = ap (λ x. x.stage) new
left_after m n id Nothing o new = ap (λ x. is_open x.stage) new ∙ o
