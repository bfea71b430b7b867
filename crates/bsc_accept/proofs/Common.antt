-- Lemmas that crates above cite too.
-- It serves many crates above.
use Rattle.bsc_accept.specs.Kept.{moved}
use Rattle.bsc_accept.specs.Messages.{who_asks, is_farewell_answer}
use Rattle.bsc_accept.specs.Past.{connected, awaiting_request, disconnecting, Standing, phase_named}
use Rattle.bsc_accept.specs.Steps.{refused_step, closes, ask_step, connected_step, normal, message_step}
use Rattle.bsc_accept.specs.declared.event.Event.TheVariants.{Joined}
use Rattle.bsc_accept.specs.declared.step.Step.TheVariants.{Ask, Nothing, Close, Up}
use Rattle.bsc_checks.specs.declared.phase.Phase.TheVariants.{AwaitingRequest}
use Rattle.bsc_checks.specs.declared.verdict.Verdict.{Verdict}
use Rattle.bsc_checks.specs.declared.verdict.Verdict.TheVariants.{Carry, Pass, Nak, Silent}
use Rattle.bsc_frame.specs.Payloads.{HasPayload, IsNode}
use Rattle.bsc_frame.specs.declared.body.Body.{Body}
use Rattle.bsc_frame.specs.declared.body.Body.TheVariants.{ConnectRequest, DisconnectRequest, HeartbeatRequest}
use Rattle.bsc_frame.specs.declared.message.Message.{Message}
use Rattle.bsc_history.specs.declared.reply.Refusal.{Refusal}
use Rattle.bsc_history.specs.declared.reply.Refusal.TheVariants.{Stopped as HubStopped, TableFull, Duplicate}
use Rattle.bsc_octets.specs.declared.envelope.Envelope.{Envelope}
use Rattle.bsc_octets.specs.declared.identity.Identity.{Identity}
use Rattle.std.proofs.Common.{true, ◌≡◌, refl, ℕ, None, Option, Some, Bool, false, cond}

pub refusing : (id : ℕ) (refusal : Refusal) → closes (refused_step id refusal) ≡ true
refusing id (Duplicate holder) = refl
refusing id (TableFull rows) = refl
refusing id HubStopped = refl

pub asked_by : (o : Option Identity) (who : Identity) → Ask who ≡ ask_step o → o ≡ Some who
asked_by None who e = cc
asked_by (Some w) who e = cc

pub node_of : (body : Body) (who : Identity) → HasPayload body → who_asks body ≡ Some who → IsNode who
node_of (ConnectRequest w) who h is = (let e : w ≡ who = cc in rw e at h)
node_of body who h is = cc

pub not_asked_connected : (id : ℕ) (body : Body) (who : Identity) → Ask who ≡ connected_step id body → ⊥
not_asked_connected id HeartbeatRequest who e = cc
not_asked_connected id DisconnectRequest who e = cc
not_asked_connected id body who e = cc

pub not_asked_parting : (b : Bool) (who : Identity) → Ask who ≡ cond b (Close normal) Nothing → ⊥
not_asked_parting true who e = cc
not_asked_parting false who e = cc

pub asks_by : (g : Standing) (v : Verdict) (who : Identity) → Ask who ≡ message_step g v → (msg : Message) × (v ≡ Pass msg) × (g ≡ awaiting_request) × (who_asks msg.body ≡ Some who)
asks_by awaiting_request (Pass msg) who e = (msg, refl, refl, asked_by (who_asks msg.body) who e)
asks_by connected (Pass msg) who e = absurd (not_asked_connected msg.id msg.body who e)
asks_by (disconnecting f) (Pass msg) who e = absurd (not_asked_parting (is_farewell_answer f.id msg) who e)
asks_by g (Carry envelope) who e = cc
asks_by g (Silent check) who e = cc
asks_by g (Nak check octets) who e = cc

pub not_carried_asked : (o : Option Identity) → Up ≡ ask_step o → ⊥
not_carried_asked None e = cc
not_carried_asked (Some w) e = cc

pub not_carried_connected : (id : ℕ) (body : Body) → Up ≡ connected_step id body → ⊥
not_carried_connected id HeartbeatRequest e = cc
not_carried_connected id DisconnectRequest e = cc
not_carried_connected id body e = cc

pub not_carried_parting : (b : Bool) → Up ≡ cond b (Close normal) Nothing → ⊥
not_carried_parting true e = cc
not_carried_parting false e = cc

pub carries_by : (g : Standing) (v : Verdict) → Up ≡ message_step g v → (e : Envelope) × (v ≡ Carry e)
carries_by g (Carry envelope) e = (envelope, refl)
carries_by awaiting_request (Pass msg) e = absurd (not_carried_asked (who_asks msg.body) e)
carries_by connected (Pass msg) e = absurd (not_carried_connected msg.id msg.body e)
carries_by (disconnecting f) (Pass msg) e = absurd (not_carried_parting (is_farewell_answer f.id msg) e)
carries_by g (Silent check) e = cc
carries_by g (Nak check octets) e = cc

pub awaits_not : (g : Standing) → phase_named (moved g Joined) ≡ AwaitingRequest → ⊥
awaits_not awaiting_request e = cc
awaits_not connected e = cc
awaits_not (disconnecting f) e = cc

pub connected_asks : (id : ℕ) (body : Body) (who : Identity) → connected_step id body ≡ Ask who → ⊥
connected_asks id HeartbeatRequest who h = cc
connected_asks id DisconnectRequest who h = cc
connected_asks id body who h = cc

pub connected_carries : (id : ℕ) (body : Body) → connected_step id body ≡ Up → ⊥
connected_carries id HeartbeatRequest h = cc
connected_carries id DisconnectRequest h = cc
connected_carries id body h = cc

pub asked_so : (o : Option Identity) (who : Identity) → ask_step o ≡ Ask who → o ≡ Some who
asked_so None who h = cc
asked_so (Some w) who h = cc

pub no_ask_carries : (o : Option Identity) → ask_step o ≡ Up → ⊥
no_ask_carries None h = cc
no_ask_carries (Some w) h = cc
