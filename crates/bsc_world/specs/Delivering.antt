-- What a step answers as delivered, in words of its network.
use Rattle.std.specs.Prelude.{List, Result, Ok, Err, ⊤}
use Rattle.bsc_network.specs.declared.timed_step.TimedStep.{TimedStep}
use Rattle.bsc_network.specs.declared.world_step.WorldStep.{WorldStep}
use Rattle.bsc_network.specs.declared.step_refusal.StepRefusal.{StepRefusal}
use Rattle.bsc_network.specs.Settings.{Added}
use Rattle.bsc_network_laws.specs.Deliveries.{AddsWhatWasSent}
use Rattle.bsc_world.specs.declared.step_done.StepDone.{StepDone}
use Rattle.bsc_world.specs.declared.world.World.{World as KeptWorld}
use Rattle.bsc_world.specs.Standing.{WorldStands, timed}

-- For whichever hubs, nodes and steps the world stood, what a step answers as delivered is what the network delivers more by it, and
-- this network delivers what was sent.
abbrev pub StepDelivers : KeptWorld → WorldStep → Result StepDone StepRefusal → Type 0
StepDelivers old step (Ok done) =
    (added : List Added) (steps : List TimedStep) → WorldStands old added steps → AddsWhatWasSent added steps (timed old step) done.deliveries
StepDelivers old step (Err refused) = ⊤
