-- What an accepting machine puts of itself is no Encapsulated-NPDU, be it that of a hub or that of a direct link.
-- It serves bsc_network_laws, bsc_node and bsc_session_laws.
use Rattle.std.proofs.Common.{◌≡◌, ℕ, Bool, true, false, cond, List, Option, Some, None, refl, sym, subst}
use Rattle.std.specs.Prelude.{⊤}
use Rattle.bsc_octets.specs.declared.identity.Identity.{Identity}
use Rattle.bsc_octets.specs.Functions.{is_npdu}
use Rattle.bsc_frame.specs.declared.message.Message.{Message}
use Rattle.bsc_frame.specs.declared.body.Body.{Body}
use Rattle.bsc_frame.specs.declared.body.Body.TheVariants.{DisconnectRequest, HeartbeatRequest}
use Rattle.bsc_history.specs.declared.ending.End.{End}
use Rattle.bsc_history.specs.declared.ending.End.TheVariants.{Full}
use Rattle.bsc_history.specs.declared.reply.Refusal.{Refusal}
use Rattle.bsc_history.specs.declared.reply.Refusal.TheVariants.{Stopped as HubStopped, Duplicate, TableFull}
use Rattle.bsc_checks.specs.declared.place.Place.{Place}
use Rattle.bsc_checks.specs.declared.verdict.Verdict.{Verdict}
use Rattle.bsc_checks.specs.declared.verdict.Verdict.TheVariants.{Pass, Carry as Carried, Silent, Nak}
use Rattle.bsc_checks.specs.Outcomes.{outcome_of}
use Rattle.bsc_checks.proofs.OwnOctets.{IsNoNpdu, no_npdu-judged}
use Rattle.bsc_accept.specs.declared.start.Start.{Start}
use Rattle.bsc_accept.specs.declared.event.Event.{Event}
use Rattle.bsc_accept.specs.declared.event.Event.TheVariants.{Message as Came, Joined, Refused, Ended, Finish, Tick}
use Rattle.bsc_accept.specs.declared.step.Step.{Step}
use Rattle.bsc_accept.specs.declared.step.Step.TheVariants.{Put, PutClose}
use Rattle.bsc_accept.specs.Messages.{who_asks, is_farewell_answer}
use Rattle.bsc_accept.specs.Past.{Standing, awaiting_request, connected, disconnecting, standing, last_message}
use Rattle.bsc_accept.specs.Waits.{connect_wait_is_over, is_idle, disconnect_wait_is_over}
use Rattle.bsc_accept.specs.Steps.{ask_step, connected_step, passed_step, message_step, refused_step, asked_id, ended_step, finish_step, tick_step, step}

-- The octets that a step puts, where it puts some, are no Encapsulated-NPDU.
abbrev pub PutsNone : Step → Type 0
PutsNone (Put o) = is_npdu o.items ≡ false
PutsNone (PutClose o c) = is_npdu o.items ≡ false
PutsNone st = ⊤

none-if : (b : Bool) (x y : Step) → PutsNone x → PutsNone y → PutsNone (cond b x y)
none-if true x y p q = p
none-if false x y p q = q

none-asked : (who : Option Identity) → PutsNone (ask_step who)
none-asked (Some who) = tt
none-asked None = tt

none-connected : (id : ℕ) (body : Body) → PutsNone (connected_step id body)
none-connected id HeartbeatRequest = refl
none-connected id DisconnectRequest = refl
none-connected id body = tt

none-passed : (g : Standing) (msg : Message) → PutsNone (passed_step g msg)
none-passed awaiting_request msg = none-asked (who_asks msg.body)
none-passed connected msg = none-connected msg.id msg.body
none-passed (disconnecting f) msg = none-if (is_farewell_answer f.id msg) _ _ tt tt

none-message : (g : Standing) (v : Verdict) → IsNoNpdu v → PutsNone (message_step g v)
none-message g (Pass msg) h = none-passed g msg
none-message g (Carried envelope) h = tt
none-message g (Silent check) h = tt
none-message g (Nak check octets) h = h

none-refused : (id : ℕ) (r : Refusal) → PutsNone (refused_step id r)
none-refused id (Duplicate holder) = refl
none-refused id (TableFull rows) = tt
none-refused id HubStopped = tt

none-ended : (e : End) → PutsNone (ended_step e)
none-ended Full = tt
none-ended e = refl

none-finish : (g : Standing) (id : ℕ) → PutsNone (finish_step g id)
none-finish awaiting_request id = tt
none-finish connected id = refl
none-finish (disconnecting f) id = tt

none-tick : (s : Start) (last now : ℕ) (g : Standing) → PutsNone (tick_step s last now g)
none-tick s last now awaiting_request = none-if (connect_wait_is_over s now) _ _ tt tt
none-tick s last now connected = none-if (is_idle s last now) _ _ tt tt
none-tick s last now (disconnecting f) = none-if (disconnect_wait_is_over s f now) _ _ tt tt

-- a message that comes with a verdict was judged so
abbrev pub IsJudged : Event → Type 0
IsJudged (Came now verdict) = (m : List ℕ) × (place : Place) × (max : ℕ) × (verdict ≡ outcome_of m place max)
IsJudged e = ⊤

pub none-step : (s : Start) (E : List Event) (e : Event) → IsJudged e → PutsNone (step s E e)
none-step s E (Came now v) judged = none-message (standing E) v (subst IsNoNpdu (sym judged.3) (no_npdu-judged judged.0 judged.1 judged.2))
none-step s E Joined judged = refl
none-step s E (Refused r) judged = none-refused (asked_id E) r
none-step s E (Ended now e) judged = none-ended e
none-step s E (Finish now id) judged = none-finish (standing E) id
none-step s E (Tick now) judged = none-tick s (last_message s E) now (standing E)
