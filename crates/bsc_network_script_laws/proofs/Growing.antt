-- What a network delivers is what its steps deliver, one after the other.
-- It serves the clauses of `a_script_delivers_what_was_sent` and `a_script_is_of_its_steps`.
use Rattle.std.proofs.Common.{◌≡◌, List, [], ◌∷◌, ◌++◌, fold, ap, sym, ◌∙◌, append-nil, append_assoc}
use Rattle.bsc_network.specs.declared.timed_step.TimedStep.{TimedStep}
use Rattle.bsc_network.specs.declared.world_delivery.WorldDelivery.{WorldDelivery}
use Rattle.bsc_network.specs.Settings.{Added}
use Rattle.bsc_network.specs.Worlds.{World, new_world}
use Rattle.bsc_network.specs.Networks.{makes, delivered_at, deliveries}
use Rattle.bsc_network_laws.proofs.Adding.{added_at}
use Rattle.bsc_network_script_laws.specs.Laws.{steps_delivered}

all_delivered : (w : World) (steps : List TimedStep) → (fold makes w steps).delivered ≡ w.delivered ++ steps_delivered w steps
all_delivered w [] = sym (append-nil w.delivered)
all_delivered w (t ∷ steps) =
    all_delivered (makes w t) steps ∙ ap (λ d. d ++ steps_delivered (makes w t) steps) (added_at w t)
    ∙ append_assoc w.delivered (delivered_at w t) (steps_delivered (makes w t) steps)

-- The deliveries of a network are what its steps deliver, one after the other.
pub deliveries_by_steps : (added : List Added) (steps : List TimedStep) → deliveries added steps ≡ steps_delivered (new_world added) steps
deliveries_by_steps added steps = all_delivered (new_world added) steps
