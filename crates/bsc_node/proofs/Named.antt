-- A peer names itself in the message that came, which passed.
-- It serves the clauses of `broadcasts_keep_off_slots`, `draws_last` and `slots_keep_apart`.
use Rattle.std.proofs.Common.{◌≡◌, ℕ, Bool, true, false, cond, List, ◌++◌, Option, Some, None, refl, ap, sym, ◌∙◌}
use Rattle.std.specs.Prelude.{◌==◌}
use Rattle.bsc_octets.specs.declared.identity.Identity.{Identity}
use Rattle.bsc_octets.specs.Addresses.{same_vmac, broadcast}
use Rattle.bsc_frame.specs.declared.message.Message.{Message}
use Rattle.bsc_frame.specs.declared.body.Body.{Body}
use Rattle.bsc_frame.specs.declared.body.Body.TheVariants.{ConnectRequest, ConnectAccept, DisconnectRequest, HeartbeatRequest, HeartbeatAck}
use Rattle.bsc_checks.specs.declared.verdict.Verdict.{Verdict}
use Rattle.bsc_checks.specs.declared.verdict.Verdict.TheVariants.{Pass, Carry, Silent, Nak}
use Rattle.bsc_accept.specs.declared.event.Event.TheVariants.{Message as AcceptMessage}
use Rattle.bsc_accept.specs.Messages.{who_asks, is_farewell_answer}
use Rattle.bsc_accept.specs.Past as Accepting
use Rattle.bsc_accept.specs.Steps as AcceptingSteps
use Rattle.bsc_initiate.specs.declared.event.InitEvent.TheVariants.{Message as InitMessage}
use Rattle.bsc_initiate.specs.declared.step.InitStep.TheVariants.{Close as InitClose, Nothing as InitNothing}
use Rattle.bsc_accept.specs.declared.step.Step.TheVariants.{Close as StepClose, Nothing as StepNothing}
use Rattle.bsc_initiate.specs.Messages.{who_accepts, refusing_code}
use Rattle.bsc_initiate.specs.Past.{Standing, awaiting_websocket, awaiting_accept, connected, disconnecting, standing}
use Rattle.bsc_initiate.specs.Steps.{answer_step, connected_step, passed_step, message_step}
use Rattle.bsc_node.specs.declared.link_name.LinkName.{LinkName}
use Rattle.bsc_node.specs.Logs.{Made, Log, now}
use Rattle.bsc_node.specs.Links.{was_taken, initiating_events, accepting_events, by_machine, hears, verdict, place, meets, initiating_outcome, accepting_outcome, outcome}
use Rattle.bsc_node.proofs.Told.{outcome-initiating, outcome-accepting}
use Rattle.bsc_node.proofs.Judged.{names, named-unicast}
use Rattle.bsc_node.proofs.Common.{same_who}

-- By this verdict, a message passed in which who names itself.
abbrev IsNamed : Verdict → Identity → Type 0
IsNamed v who = (msg : Message) × (v ≡ Pass msg) × (names msg.body ≡ Some who)

accepts_names : (body : Body) (who : Identity) → who_accepts body ≡ Some who → names body ≡ Some who
accepts_names (ConnectAccept x) who h = h
accepts_names body who h = cc

asks_names : (body : Body) (who : Identity) → who_asks body ≡ Some who → names body ≡ Some who
asks_names (ConnectRequest x) who h = h
asks_names body who h = cc

-- ---- the machine of a link that was dialled

named_answer : (now : ℕ) (m : Message) (who : Identity) (o : Option Identity) (code : Option ℕ) → who_accepts m.body ≡ o
    → initiating_outcome (InitMessage now (Pass m)) (answer_step o code) ≡ meets who → IsNamed (Pass m) who
named_answer now m who (Some x) code is h = (m, refl, accepts_names m.body who (is ∙ same_who x who h))
named_answer now m who None (Some code) is h = cc
named_answer now m who None None is h = cc

named_awaiting : (now : ℕ) (m : Message) (who : Identity) (b : Bool) → initiating_outcome (InitMessage now (Pass m))
    (cond b (answer_step (who_accepts m.body) (refusing_code m.body)) InitNothing) ≡ meets who → IsNamed (Pass m) who
named_awaiting now m who true h = named_answer now m who (who_accepts m.body) (refusing_code m.body) refl h
named_awaiting now m who false h = cc

named_connected : (now : ℕ) (m : Message) (who : Identity) (id : ℕ) (body : Body) → initiating_outcome (InitMessage now (Pass m)) (connected_step id body) ≡ meets who → IsNamed (Pass m) who
named_connected now m who id HeartbeatRequest h = cc
named_connected now m who id DisconnectRequest h = cc
named_connected now m who id HeartbeatAck h = cc
named_connected now m who id body h = cc

named_disconnecting : (now : ℕ) (m : Message) (who : Identity) (b : Bool) → initiating_outcome (InitMessage now (Pass m)) (cond b (InitClose AcceptingSteps.normal) InitNothing) ≡ meets who
    → IsNamed (Pass m) who
named_disconnecting now m who true h = cc
named_disconnecting now m who false h = cc

named_passed : (now : ℕ) (m : Message) (who : Identity) (g : Standing) → initiating_outcome (InitMessage now (Pass m)) (passed_step g m) ≡ meets who → IsNamed (Pass m) who
named_passed now m who awaiting_websocket h = cc
named_passed now m who (awaiting_accept id) h = named_awaiting now m who (m.id == id) h
named_passed now m who connected h = named_connected now m who m.id m.body h
named_passed now m who (disconnecting f) h = named_disconnecting now m who (is_farewell_answer f.id m) h

named_heard : (now : ℕ) (v : Verdict) (who : Identity) (g : Standing) → initiating_outcome (InitMessage now v) (message_step g v) ≡ meets who → IsNamed v who
named_heard now (Pass m) who g h = named_passed now m who g h
named_heard now (Carry envelope) who g h = cc
named_heard now (Silent check) who g h = cc
named_heard now (Nak check octets) who g h = cc

-- ---- the machine of a link that was taken

named_asked : (now : ℕ) (m : Message) (who : Identity) (o : Option Identity) → who_asks m.body ≡ o
    → accepting_outcome Accepting.awaiting_request (AcceptMessage now (Pass m)) (AcceptingSteps.ask_step o) ≡ meets who → IsNamed (Pass m) who
named_asked now m who (Some x) is h = (m, refl, asks_names m.body who (is ∙ same_who x who h))
named_asked now m who None is h = cc

named_taken_connected : (now : ℕ) (m : Message) (who : Identity) (id : ℕ) (body : Body)
    → accepting_outcome Accepting.connected (AcceptMessage now (Pass m)) (AcceptingSteps.connected_step id body) ≡ meets who → IsNamed (Pass m) who
named_taken_connected now m who id HeartbeatRequest h = cc
named_taken_connected now m who id DisconnectRequest h = cc
named_taken_connected now m who id body h = cc

named_taken_disconnecting : (now : ℕ) (m : Message) (who : Identity) (g : Accepting.Standing) (b : Bool)
    → accepting_outcome g (AcceptMessage now (Pass m)) (cond b (StepClose AcceptingSteps.normal) StepNothing) ≡ meets who → IsNamed (Pass m) who
named_taken_disconnecting now m who g true h = cc
named_taken_disconnecting now m who Accepting.awaiting_request false h = cc
named_taken_disconnecting now m who Accepting.connected false h = cc
named_taken_disconnecting now m who (Accepting.disconnecting f) false h = cc

named_taken_passed : (now : ℕ) (m : Message) (who : Identity) (g : Accepting.Standing) → accepting_outcome g (AcceptMessage now (Pass m)) (AcceptingSteps.passed_step g m) ≡ meets who
    → IsNamed (Pass m) who
named_taken_passed now m who Accepting.awaiting_request h = named_asked now m who (who_asks m.body) refl h
named_taken_passed now m who Accepting.connected h = named_taken_connected now m who m.id m.body h
named_taken_passed now m who (Accepting.disconnecting f) h = named_taken_disconnecting now m who (Accepting.disconnecting f) (is_farewell_answer f.id m) h

named_taken_heard : (now : ℕ) (v : Verdict) (who : Identity) (g : Accepting.Standing) → accepting_outcome g (AcceptMessage now v) (AcceptingSteps.message_step g v) ≡ meets who → IsNamed v who
named_taken_heard now (Pass m) who g h = named_taken_passed now m who g h
named_taken_heard now (Carry envelope) who g h = cc
named_taken_heard now (Silent check) who Accepting.awaiting_request h = cc
named_taken_heard now (Silent check) who Accepting.connected h = cc
named_taken_heard now (Silent check) who (Accepting.disconnecting f) h = cc
named_taken_heard now (Nak check octets) who g h = cc

-- Who names itself over a link names itself in what came, and has no broadcast address.
pub met-unicast : (a : Made) (name : LinkName) (o : List ℕ) (M : Log) (who : Identity) → outcome a (M ++ hears a name o M) name ≡ meets who → same_vmac who.vmac broadcast ≡ false
met-unicast a name o M who h = by_named (by (was_taken name M) refl)
  where
    by : (b : Bool) → was_taken name M ≡ b → IsNamed (verdict a M name o) who
    by false t =
        named_heard (now M) (verdict a M name o) who (standing (initiating_events M name))
        (sym (ap (λ (b : Bool). outcome a (M ++ by_machine (λ n. InitMessage (now M) (verdict a M n o)) (λ n. AcceptMessage (now M) (verdict a M n o)) name b) name) t
        ∙ outcome-initiating a M name (InitMessage (now M) (verdict a M name o)) t) ∙ h)
    by true t =
        named_taken_heard (now M) (verdict a M name o) who (Accepting.standing (accepting_events M name))
        (sym (ap (λ (b : Bool). outcome a (M ++ by_machine (λ n. InitMessage (now M) (verdict a M n o)) (λ n. AcceptMessage (now M) (verdict a M n o)) name b) name) t
        ∙ outcome-accepting a M name (AcceptMessage (now M) (verdict a M name o)) t) ∙ h)

    by_named : IsNamed (verdict a M name o) who → same_vmac who.vmac broadcast ≡ false
    by_named n = named-unicast o (place a M name) a.own.max_bvlc n.0 who n.1 n.2
