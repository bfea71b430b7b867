-- A network over a list of steps: what stands after them, and what was delivered.
use Rattle.std.specs.Prelude.{ℕ, ◌+◌, List, [], ◌∷◌, fold, drop, length, Option, Some, None}
use Rattle.bsc_history.specs.declared.call.Call.TheVariants.{Stop as StopCall}
use Rattle.bsc_network.specs.declared.world_step.WorldStep.{WorldStep}
use Rattle.bsc_network.specs.declared.world_step.WorldStep.TheVariants.{Node as OfNode, Arrive, Lose, Take, Stop}
use Rattle.bsc_network.specs.declared.timed_step.TimedStep.{TimedStep}
use Rattle.bsc_network.specs.declared.step_refusal.StepRefusal.{StepRefusal}
use Rattle.bsc_network.specs.declared.dialled.Dialled.{Dialled}
use Rattle.bsc_network.specs.declared.world_delivery.WorldDelivery.{WorldDelivery}
use Rattle.bsc_network.specs.Settings.{Added}
use Rattle.bsc_network.specs.Worlds.{World, Link, new_world}
use Rattle.bsc_network.specs.Changes.{Change}
use Rattle.bsc_network.specs.HubCalls.{called, no_link}
use Rattle.bsc_network.specs.Taking.{takes}
use Rattle.bsc_network.specs.NodeEvents.{comes}
use Rattle.bsc_network.specs.Arriving.{arrives, is_lost}
use Rattle.bsc_network.specs.Refusals.{refusal}

-- ---- a step

-- What a step does that isn't refused.
abbrev pub does : WorldStep → Change
does (OfNode k e) w = comes k None e w
does (Arrive l way) w = arrives l way w
does (Lose l) w = is_lost l w
does (Take l) w = takes l w
does (Stop j) w = called j no_link w.steps StopCall w

-- A step that is refused does nothing.
abbrev pub does_unless : Option StepRefusal → WorldStep → Change
does_unless None step w = does step w
does_unless (Some refused) step w = w

-- the time of the newest step is this
abbrev pub at_time : ℕ → Change
at_time now w = record w { now = now }

-- one step more was made, and has a place
abbrev pub counts_step : Change
counts_step w = record w { steps = w.steps + 1 }

-- A step is made. One that is refused has a place too.
abbrev pub makes : World → TimedStep → World
makes w t = counts_step (does_unless (refusal w t.step) t.step (at_time t.now w))

-- ---- what a step adds

-- links as they were dialled, the first of them with this number
abbrev pub dialled_from : ℕ → List Link → List Dialled
dialled_from number [] = []
dialled_from number (link ∷ links) = record { link = number; from = link.from; to = link.to } ∷ dialled_from (number + 1) links

-- The links that were dialled at a step.
abbrev pub dialled_at : World → TimedStep → List Dialled
dialled_at w t = dialled_from (length w.links) (drop (length w.links) (makes w t).links)

-- What was delivered at a step.
abbrev pub delivered_at : World → TimedStep → List WorldDelivery
delivered_at w t = drop (length w.delivered) (makes w t).delivered

-- ---- all steps

-- What stands after some steps of a network of these hubs and nodes.
abbrev pub world : List Added → List TimedStep → World
world added steps = fold makes (new_world added) steps

-- What was delivered at some steps: each delivery with the place of the Send, and with the node.
abbrev pub deliveries : List Added → List TimedStep → List WorldDelivery
deliveries added steps = (world added steps).delivered
