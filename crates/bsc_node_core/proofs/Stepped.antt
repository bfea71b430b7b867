-- What a step of a machine that the node dialled with is to the node.
-- It serves the clauses of `step_dialled`.
use Rattle.std.proofs.Common.{◌≡◌, refl}
use Rattle.bsc_checks.specs.declared.verdict.Verdict.TheVariants.{Pass, Carry, Silent, Nak}
use Rattle.bsc_initiate.specs.declared.event.InitEvent.{InitEvent}
use Rattle.bsc_initiate.specs.declared.event.InitEvent.TheVariants.{Opened, Message, Finish, Tick}
use Rattle.bsc_initiate.specs.declared.step.InitStep.{InitStep}
use Rattle.bsc_initiate.specs.declared.step.InitStep.TheVariants.{Put, PutClose, Connected, Refused, Up, Close, Nothing}
use Rattle.bsc_node.specs.Links.{initiating_outcome, origin_of, up_by_initiating}
use Rattle.bsc_node_core.specs.Rules.{message_of, outcome_of, up_from}

up-is : (e : InitEvent) → up_by_initiating e ≡ up_from (message_of e)
up-is (Opened now id) = refl
up-is (Message now (Pass msg)) = refl
up-is (Message now (Carry envelope)) = refl
up-is (Message now (Silent check)) = refl
up-is (Message now (Nak check octets)) = refl
up-is (Finish now id) = refl
up-is (Tick now id) = refl

pub outcome-is : (e : InitEvent) (step : InitStep) → initiating_outcome e step ≡ outcome_of (origin_of e) (message_of e) step
outcome-is e (Put o) = refl
outcome-is e (PutClose o closing) = refl
outcome-is e (Connected who) = refl
outcome-is e (Refused code) = refl
outcome-is e Up = up-is e
outcome-is e (Close closing) = refl
outcome-is e Nothing = refl
