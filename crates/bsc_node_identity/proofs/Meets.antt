-- Where a machine says that a peer has named itself, the message that it heard says so.
-- It serves clauses of functions of `laws`.
use Rattle.std.proofs.Common.{◌≡◌, ℕ, Bool, true, false, cond, List, ◌++◌, Option, Some, None, refl, ap, sym, ◌∙◌}
use Rattle.std.specs.Prelude.{◌==◌}
use Rattle.std.proofs.lemmas.Bool.{eqb-true}
use Rattle.bsc_octets.specs.declared.identity.Identity.{Identity}
use Rattle.bsc_frame.specs.declared.message.Message.{Message}
use Rattle.bsc_frame.specs.declared.body.Body.{Body}
use Rattle.bsc_frame.specs.declared.body.Body.TheVariants.{ConnectRequest, ConnectAccept, DisconnectRequest, HeartbeatRequest, HeartbeatAck}
use Rattle.bsc_checks.specs.declared.verdict.Verdict.{Verdict}
use Rattle.bsc_checks.specs.declared.verdict.Verdict.TheVariants.{Pass, Carry, Silent, Nak}
use Rattle.bsc_accept.specs.declared.event.Event.TheVariants.{Message as AcceptMessage}
use Rattle.bsc_accept.specs.Messages.{who_asks, is_farewell_answer}
use Rattle.bsc_accept.specs.Past as Accepting
use Rattle.bsc_accept.specs.Steps as AcceptingSteps
use Rattle.bsc_initiate.specs.declared.event.InitEvent.TheVariants.{Message as InitMessage}
use Rattle.bsc_initiate.specs.declared.step.InitStep.TheVariants.{Close as InitClose, Nothing as InitNothing}
use Rattle.bsc_accept.specs.declared.step.Step.TheVariants.{Close as StepClose, Nothing as StepNothing}
use Rattle.bsc_initiate.specs.Messages.{who_accepts, refusing_code}
use Rattle.bsc_initiate.specs.Past.{Standing, awaiting_websocket, awaiting_accept, connected, disconnecting, standing}
use Rattle.bsc_initiate.specs.Steps.{answer_step, connected_step, passed_step, message_step}
use Rattle.bsc_node.specs.declared.link_name.LinkName.{LinkName}
use Rattle.bsc_node.specs.Logs.{Made, Log, now}
use Rattle.bsc_node.specs.Links.{was_taken, initiating_events, accepting_events, by_machine, hears, verdict, meets, initiating_outcome, accepting_outcome, outcome}
use Rattle.bsc_node.proofs.Told.{outcome-initiating, outcome-accepting}
use Rattle.bsc_node_identity.specs.Naming.{named_by}
use Rattle.bsc_node.proofs.Common.{same_who}

-- By this verdict a message passed that accepts the request that this state awaits the answer to, and who accepts is this peer.
abbrev pub Accepts : Verdict → Standing → Identity → Type 0
Accepts v g who = (m : Message) × (v ≡ Pass m) × (g ≡ awaiting_accept m.id) × (who_accepts m.body ≡ Some who)

-- By this verdict a message passed that asks, in the state in which a question is awaited, and who asks is this peer.
abbrev pub Asks : Verdict → Accepting.Standing → Identity → Type 0
Asks v g who = (m : Message) × (v ≡ Pass m) × (g ≡ Accepting.awaiting_request) × (who_asks m.body ≡ Some who)

pub accepts_names : (body : Body) (who : Identity) → who_accepts body ≡ Some who → named_by body ≡ Some who
accepts_names (ConnectAccept x) who h = h
accepts_names body who h = cc

pub asks_names : (body : Body) (who : Identity) → who_asks body ≡ Some who → named_by body ≡ Some who
asks_names (ConnectRequest x) who h = h
asks_names body who h = cc

-- ---- the machine of a link that was dialled

accepted_answer : (now : ℕ) (m : Message) (who : Identity) (g : Standing) (o : Option Identity) (code : Option ℕ) → g ≡ awaiting_accept m.id → who_accepts m.body ≡ o
    → initiating_outcome (InitMessage now (Pass m)) (answer_step o code) ≡ meets who → Accepts (Pass m) g who
accepted_answer now m who g (Some x) code at is h = (m, refl, at, is ∙ same_who x who h)
accepted_answer now m who g None (Some code) at is h = cc
accepted_answer now m who g None None at is h = cc

accepted_awaiting : (now id : ℕ) (m : Message) (who : Identity) (b : Bool) → (m.id == id) ≡ b
    → initiating_outcome (InitMessage now (Pass m)) (cond b (answer_step (who_accepts m.body) (refusing_code m.body)) InitNothing) ≡ meets who → Accepts (Pass m) (awaiting_accept id) who
accepted_awaiting now id m who true same h = accepted_answer now m who (awaiting_accept id) (who_accepts m.body) (refusing_code m.body) (ap awaiting_accept (sym (eqb-true m.id id same))) refl h
accepted_awaiting now id m who false same h = cc

accepted_connected : (now : ℕ) (m : Message) (who : Identity) (id : ℕ) (body : Body) → initiating_outcome (InitMessage now (Pass m)) (connected_step id body) ≡ meets who
    → Accepts (Pass m) connected who
accepted_connected now m who id HeartbeatRequest h = cc
accepted_connected now m who id DisconnectRequest h = cc
accepted_connected now m who id HeartbeatAck h = cc
accepted_connected now m who id body h = cc

accepted_disconnecting : (now : ℕ) (m : Message) (who : Identity) (g : Standing) (b : Bool)
    → initiating_outcome (InitMessage now (Pass m)) (cond b (InitClose AcceptingSteps.normal) InitNothing) ≡ meets who → Accepts (Pass m) g who
accepted_disconnecting now m who g true h = cc
accepted_disconnecting now m who g false h = cc

accepted_passed : (now : ℕ) (m : Message) (who : Identity) (g : Standing) → initiating_outcome (InitMessage now (Pass m)) (passed_step g m) ≡ meets who → Accepts (Pass m) g who
accepted_passed now m who awaiting_websocket h = cc
accepted_passed now m who (awaiting_accept id) h = accepted_awaiting now id m who (m.id == id) refl h
accepted_passed now m who connected h = accepted_connected now m who m.id m.body h
accepted_passed now m who (disconnecting f) h = accepted_disconnecting now m who (disconnecting f) (is_farewell_answer f.id m) h

accepted_heard : (now : ℕ) (v : Verdict) (who : Identity) (g : Standing) → initiating_outcome (InitMessage now v) (message_step g v) ≡ meets who → Accepts v g who
accepted_heard now (Pass m) who g h = accepted_passed now m who g h
accepted_heard now (Carry envelope) who g h = cc
accepted_heard now (Silent check) who g h = cc
accepted_heard now (Nak check octets) who g h = cc

-- ---- the machine of a link that was taken

asked_asking : (now : ℕ) (m : Message) (who : Identity) (o : Option Identity) → who_asks m.body ≡ o
    → accepting_outcome Accepting.awaiting_request (AcceptMessage now (Pass m)) (AcceptingSteps.ask_step o) ≡ meets who → Asks (Pass m) Accepting.awaiting_request who
asked_asking now m who (Some x) is h = (m, refl, refl, is ∙ same_who x who h)
asked_asking now m who None is h = cc

asked_connected : (now : ℕ) (m : Message) (who : Identity) (id : ℕ) (body : Body)
    → accepting_outcome Accepting.connected (AcceptMessage now (Pass m)) (AcceptingSteps.connected_step id body) ≡ meets who → Asks (Pass m) Accepting.connected who
asked_connected now m who id HeartbeatRequest h = cc
asked_connected now m who id DisconnectRequest h = cc
asked_connected now m who id body h = cc

asked_disconnecting : (now : ℕ) (m : Message) (who : Identity) (g : Accepting.Standing) (b : Bool)
    → accepting_outcome g (AcceptMessage now (Pass m)) (cond b (StepClose AcceptingSteps.normal) StepNothing) ≡ meets who → Asks (Pass m) g who
asked_disconnecting now m who g true h = cc
asked_disconnecting now m who Accepting.awaiting_request false h = cc
asked_disconnecting now m who Accepting.connected false h = cc
asked_disconnecting now m who (Accepting.disconnecting f) false h = cc

asked_passed : (now : ℕ) (m : Message) (who : Identity) (g : Accepting.Standing) → accepting_outcome g (AcceptMessage now (Pass m)) (AcceptingSteps.passed_step g m) ≡ meets who → Asks (Pass m) g who
asked_passed now m who Accepting.awaiting_request h = asked_asking now m who (who_asks m.body) refl h
asked_passed now m who Accepting.connected h = asked_connected now m who m.id m.body h
asked_passed now m who (Accepting.disconnecting f) h = asked_disconnecting now m who (Accepting.disconnecting f) (is_farewell_answer f.id m) h

asked_heard : (now : ℕ) (v : Verdict) (who : Identity) (g : Accepting.Standing) → accepting_outcome g (AcceptMessage now v) (AcceptingSteps.message_step g v) ≡ meets who → Asks v g who
asked_heard now (Pass m) who g h = asked_passed now m who g h
asked_heard now (Carry envelope) who g h = cc
asked_heard now (Silent check) who Accepting.awaiting_request h = cc
asked_heard now (Silent check) who Accepting.connected h = cc
asked_heard now (Silent check) who (Accepting.disconnecting f) h = cc
asked_heard now (Nak check octets) who g h = cc

-- ---- over a link

-- Who is met over a link that was dialled accepts in the message that came; over one that was taken, asks in it.
pub met-dialled : (a : Made) (name : LinkName) (o : List ℕ) (M : Log) (who : Identity) → was_taken name M ≡ false → outcome a (M ++ hears a name o M) name ≡ meets who
    → Accepts (verdict a M name o) (standing (initiating_events M name)) who
met-dialled a name o M who t h =
    accepted_heard (now M) (verdict a M name o) who (standing (initiating_events M name))
    (sym (ap (λ (b : Bool). outcome a (M ++ by_machine (λ n. InitMessage (now M) (verdict a M n o)) (λ n. AcceptMessage (now M) (verdict a M n o)) name b) name) t
    ∙ outcome-initiating a M name (InitMessage (now M) (verdict a M name o)) t) ∙ h)

pub met-taken : (a : Made) (name : LinkName) (o : List ℕ) (M : Log) (who : Identity) → was_taken name M ≡ true → outcome a (M ++ hears a name o M) name ≡ meets who
    → Asks (verdict a M name o) (Accepting.standing (accepting_events M name)) who
met-taken a name o M who t h =
    asked_heard (now M) (verdict a M name o) who (Accepting.standing (accepting_events M name))
    (sym (ap (λ (b : Bool). outcome a (M ++ by_machine (λ n. InitMessage (now M) (verdict a M n o)) (λ n. AcceptMessage (now M) (verdict a M n o)) name b) name) t
    ∙ outcome-accepting a M name (AcceptMessage (now M) (verdict a M name o)) t) ∙ h)

-- Who is met names itself in the message that came.
pub met-named : (a : Made) (name : LinkName) (o : List ℕ) (M : Log) (who : Identity) → outcome a (M ++ hears a name o M) name ≡ meets who → (m : Message) × (verdict a M name o ≡ Pass m)
    × (named_by m.body ≡ Some who)
met-named a name o M who h = by (was_taken name M) refl
  where
    by : (b : Bool) → was_taken name M ≡ b → (m : Message) × (verdict a M name o ≡ Pass m) × (named_by m.body ≡ Some who)
    by false t = let n = met-dialled a name o M who t h in (n.0, n.1, accepts_names n.0.body who n.3)
    by true t = let n = met-taken a name o M who t h in (n.0, n.1, asks_names n.0.body who n.3)
