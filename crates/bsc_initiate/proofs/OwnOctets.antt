-- What an initiating machine puts of itself is no Encapsulated-NPDU.
-- It serves bsc_node.
use Rattle.std.proofs.Common.{◌≡◌, ℕ, ◌==◌, Bool, true, false, not, ◌&&◌, cond, List, Option, Some, None, refl, sym, subst}
use Rattle.std.specs.Prelude.{⊤}
use Rattle.bsc_octets.specs.declared.identity.Identity.{Identity}
use Rattle.bsc_octets.specs.Functions.{is_npdu}
use Rattle.bsc_frame.specs.declared.message.Message.{Message}
use Rattle.bsc_frame.specs.declared.body.Body.{Body}
use Rattle.bsc_frame.specs.declared.body.Body.TheVariants.{DisconnectRequest, HeartbeatRequest, HeartbeatAck}
use Rattle.bsc_checks.specs.declared.place.Place.{Place}
use Rattle.bsc_checks.specs.declared.verdict.Verdict.{Verdict}
use Rattle.bsc_checks.specs.declared.verdict.Verdict.TheVariants.{Pass, Carry as Carried, Silent, Nak}
use Rattle.bsc_checks.specs.Outcomes.{outcome_of}
use Rattle.bsc_checks.proofs.OwnOctets.{IsNoNpdu, no_npdu-judged}
use Rattle.bsc_accept.specs.declared.start.Start.{Start}
use Rattle.bsc_accept.specs.Messages.{octets_of, is_farewell_answer}
use Rattle.bsc_accept.specs.Waits.{connect_wait_is_over, is_idle, disconnect_wait_is_over}
use Rattle.bsc_initiate.specs.declared.event.InitEvent.{InitEvent}
use Rattle.bsc_initiate.specs.declared.event.InitEvent.TheVariants.{Opened, Message as Came, Finish, Tick}
use Rattle.bsc_initiate.specs.declared.step.InitStep.{InitStep}
use Rattle.bsc_initiate.specs.declared.step.InitStep.TheVariants.{Put, PutClose, Nothing}
use Rattle.bsc_initiate.specs.Messages.{heartbeat_request, who_accepts, refusing_code}
use Rattle.bsc_initiate.specs.Past.{Standing, awaiting_websocket, awaiting_accept, connected, disconnecting, standing, last_message, heartbeat_was_put, is_heartbeat_due}
use Rattle.bsc_initiate.specs.Steps.{answer_step, connected_step, passed_step, message_step, finish_step, tick_step, step}

-- The octets that a step puts, where it puts some, are no Encapsulated-NPDU.
abbrev pub PutsNone : InitStep → Type 0
PutsNone (Put o) = is_npdu o.items ≡ false
PutsNone (PutClose o c) = is_npdu o.items ≡ false
PutsNone st = ⊤

none-if : (b : Bool) (x y : InitStep) → PutsNone x → PutsNone y → PutsNone (cond b x y)
none-if true x y p q = p
none-if false x y p q = q

none-answered : (who : Option Identity) (code : Option ℕ) → PutsNone (answer_step who code)
none-answered (Some who) code = tt
none-answered None (Some code) = tt
none-answered None None = tt

none-connected : (id : ℕ) (body : Body) → PutsNone (connected_step id body)
none-connected id HeartbeatRequest = refl
none-connected id DisconnectRequest = refl
none-connected id HeartbeatAck = tt
none-connected id body = tt

none-passed : (g : Standing) (msg : Message) → PutsNone (passed_step g msg)
none-passed awaiting_websocket msg = tt
none-passed (awaiting_accept id) msg =
    none-if (msg.id == id) (answer_step (who_accepts msg.body) (refusing_code msg.body)) Nothing (none-answered (who_accepts msg.body) (refusing_code msg.body)) tt
none-passed connected msg = none-connected msg.id msg.body
none-passed (disconnecting f) msg = none-if (is_farewell_answer f.id msg) _ _ tt tt

none-message : (g : Standing) (v : Verdict) → IsNoNpdu v → PutsNone (message_step g v)
none-message g (Pass msg) h = none-passed g msg
none-message g (Carried envelope) h = tt
none-message g (Silent check) h = tt
none-message g (Nak check octets) h = h

none-finish : (g : Standing) (id : ℕ) → PutsNone (finish_step g id)
none-finish awaiting_websocket id = tt
none-finish (awaiting_accept request) id = tt
none-finish connected id = refl
none-finish (disconnecting f) id = tt

none-beat : (b : Bool) (id : ℕ) → PutsNone (cond b (Put (octets_of (heartbeat_request id))) Nothing)
none-beat true id = refl
none-beat false id = tt

none-tick : (s : Start) (last : ℕ) (put : Bool) (now id : ℕ) (g : Standing) → PutsNone (tick_step s last put now id g)
none-tick s last put now id awaiting_websocket = none-if (connect_wait_is_over s now) _ _ tt tt
none-tick s last put now id (awaiting_accept request) = none-if (connect_wait_is_over s now) _ _ tt tt
none-tick s last put now id connected = none-if (is_idle s last now) _ _ tt (none-beat (is_heartbeat_due s last now && not put) id)
none-tick s last put now id (disconnecting f) = none-if (disconnect_wait_is_over s f now) _ _ tt tt

-- a message that comes with a verdict was judged so
abbrev pub IsJudged : InitEvent → Type 0
IsJudged (Came now verdict) = (m : List ℕ) × (place : Place) × (max : ℕ) × (verdict ≡ outcome_of m place max)
IsJudged e = ⊤

pub none-step : (s : Start) (E : List InitEvent) (e : InitEvent) → IsJudged e → PutsNone (step s E e)
none-step s E (Opened now id) judged = refl
none-step s E (Came now v) judged = none-message (standing E) v (subst IsNoNpdu (sym judged.3) (no_npdu-judged judged.0 judged.1 judged.2))
none-step s E (Finish now id) judged = none-finish (standing E) id
none-step s E (Tick now id) judged = none-tick s (last_message s E) (heartbeat_was_put s E) now id (standing E)
