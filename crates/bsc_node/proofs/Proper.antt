-- A machine that hears a message never puts an Encapsulated-NPDU.
-- It serves the clauses of `npdus_are_put_once`.
use Rattle.std.proofs.Common.{◌≡◌, ℕ, Bool, true, false, not, List, ◌++◌, ◌∙◌, refl, ap}
use Rattle.bsc_octets.specs.Functions.{is_npdu}
use Rattle.bsc_checks.specs.declared.verdict.Verdict.{Verdict}
use Rattle.bsc_checks.specs.declared.verdict.Verdict.TheVariants.{Pass}
use Rattle.bsc_accept.specs.declared.step.Step.{Step}
use Rattle.bsc_accept.specs.declared.step.Step.TheVariants.{Put as AcceptPut, PutClose as AcceptPutClose, Nothing as AcceptNothing}
use Rattle.bsc_accept.specs.declared.event.Event.TheVariants.{Message as AcceptMessage}
use Rattle.bsc_accept.specs.Past as Accepting
use Rattle.bsc_accept.specs.Steps as AcceptingSteps
use Rattle.bsc_accept.proofs.OwnOctets as AcceptingOctets
use Rattle.bsc_initiate.specs.declared.event.InitEvent.TheVariants.{Message as InitMessage}
use Rattle.bsc_initiate.specs.declared.step.InitStep.{InitStep}
use Rattle.bsc_initiate.specs.declared.step.InitStep.TheVariants.{Put as InitPut, PutClose as InitPutClose, Up as InitUp}
use Rattle.bsc_initiate.specs.Past.{standing}
use Rattle.bsc_initiate.specs.Steps as InitiatingSteps
use Rattle.bsc_initiate.proofs.OwnOctets as InitiatingOctets
use Rattle.bsc_node.specs.Logs.{Made, Log, now}
use Rattle.bsc_node.specs.declared.link_name.LinkName.{LinkName}
use Rattle.bsc_node.specs.Links.{was_taken, start, initiating_events, accepting_events, verdict, by_machine, hears, Outcome, puts, puts_and_closes, up_from, up_by_accepting}
use Rattle.bsc_node.specs.Links.{initiating_outcome, accepting_outcome, outcome, place}
use Rattle.bsc_node.proofs.Told.{outcome-initiating, outcome-accepting}

abbrev pub is_proper : Outcome → Bool
is_proper (puts o) = not (is_npdu o)
is_proper (puts_and_closes o closing) = not (is_npdu o)
is_proper outcome = true

-- ---- what a step is to the node, where a message came

proper_up : (v : Verdict) → is_proper (up_from v) ≡ true
proper_up (Pass msg) = refl
proper_up v = refl

-- of the machine of a link that was dialled
proper_dialled : (now : ℕ) (v : Verdict) (st : InitStep) → InitiatingOctets.PutsNone st → is_proper (initiating_outcome (InitMessage now v) st) ≡ true
proper_dialled now v (InitPut o) none = ap not none
proper_dialled now v (InitPutClose o closing) none = ap not none
proper_dialled now v InitUp none = proper_up v
proper_dialled now v st none = refl

proper_up_taken : (now : ℕ) (v : Verdict) (g : Accepting.Standing) → is_proper (up_by_accepting g (AcceptMessage now v)) ≡ true
proper_up_taken now v Accepting.awaiting_request = refl
proper_up_taken now v Accepting.connected = proper_up v
proper_up_taken now v (Accepting.disconnecting f) = refl

-- of the machine of a link that was taken
proper_taken : (now : ℕ) (v : Verdict) (g : Accepting.Standing) (st : Step) → AcceptingOctets.PutsNone st → is_proper (accepting_outcome g (AcceptMessage now v) st) ≡ true
proper_taken now v g (AcceptPut o) none = ap not none
proper_taken now v g (AcceptPutClose o closing) none = ap not none
proper_taken now v g AcceptNothing none = proper_up_taken now v g
proper_taken now v g st none = refl

-- ---- the newest step, where a message came

pub proper-hears : (a : Made) (name : LinkName) (o : List ℕ) (L : Log) → is_proper (outcome a (L ++ hears a name o L) name) ≡ true
proper-hears a name o L = by (was_taken name L) refl
  where
    by : (b : Bool) → was_taken name L ≡ b → is_proper (outcome a (L ++ hears a name o L) name) ≡ true
    by false h =
        ap (λ (b : Bool). is_proper (outcome a (L ++ by_machine (λ n. InitMessage (now L) (verdict a L n o)) (λ n. AcceptMessage (now L) (verdict a L n o)) name b) name)) h
        ∙ ap is_proper (outcome-initiating a L name (InitMessage (now L) (verdict a L name o)) h)
        ∙ proper_dialled (now L) (verdict a L name o) (InitiatingSteps.message_step (standing (initiating_events L name)) (verdict a L name o))
        (InitiatingOctets.none-step (start a L name) (initiating_events L name) (InitMessage (now L) (verdict a L name o)) (o, place a L name, a.own.max_bvlc, refl))
    by true h =
        ap (λ (b : Bool). is_proper (outcome a (L ++ by_machine (λ n. InitMessage (now L) (verdict a L n o)) (λ n. AcceptMessage (now L) (verdict a L n o)) name b) name)) h
        ∙ ap is_proper (outcome-accepting a L name (AcceptMessage (now L) (verdict a L name o)) h)
        ∙ proper_taken (now L) (verdict a L name o) (Accepting.standing (accepting_events L name)) (AcceptingSteps.message_step (Accepting.standing (accepting_events L name)) (verdict a L name o))
        (AcceptingOctets.none-step (start a L name) (accepting_events L name) (AcceptMessage (now L) (verdict a L name o)) (o, place a L name, a.own.max_bvlc, refl))
