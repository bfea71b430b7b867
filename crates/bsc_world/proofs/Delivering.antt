-- What a step answers as delivered is what its network delivers more, and was sent.
-- It serves the clauses of `step`.
use Rattle.std.proofs.Common.{List, [], ◌∷◌, ◌++◌, Ok, Err, ap, sym, ◌∙◌}
use Rattle.std.specs.Prelude.{Result}
use Rattle.bsc_network.specs.declared.world_delivery.WorldDelivery.{WorldDelivery}
use Rattle.bsc_network.specs.declared.world_step.WorldStep.{WorldStep}
use Rattle.bsc_network.specs.declared.step_refusal.StepRefusal.{StepRefusal}
use Rattle.bsc_network.specs.Networks.{deliveries}
use Rattle.bsc_network_laws.proofs.Adding.{delivers_more}
use Rattle.bsc_network_laws.proofs.Delivered.{networks_deliver_what_was_sent}
use Rattle.bsc_world.specs.declared.step_done.StepDone.{StepDone}
use Rattle.bsc_world.specs.declared.world.World.{World as KeptWorld}
use Rattle.bsc_world.specs.Delivering.{StepDelivers}
use Rattle.bsc_world.specs.Standing.{Steps, timed}

pub step_delivers : (old new : KeptWorld) (step : WorldStep) (r : Result StepDone StepRefusal) → Steps old new step r → StepDelivers old step r
step_delivers old new step (Err refused) answers = tt
step_delivers old new step (Ok done) answers = λ added steps stands.
    let a = answers added steps stands in
    record {
      delivered = delivers_more added steps (timed old step) ∙ ap (λ (ds : List WorldDelivery). deliveries added steps ++ ds) (sym a.0.2);
      sent = networks_deliver_what_was_sent added (steps ++ timed old step ∷ []) a.1.1.course;
    }
