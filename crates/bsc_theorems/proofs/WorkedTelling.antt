-- What the law of dials that fail says of two networks, whose nodes are told of more of them and of fewer: they are the same.
-- No clause needs it: worked examples.
use Rattle.std.proofs.Common.{◌≡◌, ◌∙◌, ℕ, List, sym}
use Rattle.bsc_network.specs.declared.timed_step.TimedStep.{TimedStep}
use Rattle.bsc_network.specs.Courses.{IsCourse}
use Rattle.bsc_network.specs.Settings.{Added}
use Rattle.bsc_network_laws.specs.Telling.{FailuresAreAllHeard, world_telling}

two_are_the_same : FailuresAreAllHeard → (more less : ℕ) (added : List Added) (steps : List TimedStep) → IsCourse added steps
    → world_telling more added steps ≡ world_telling less added steps
two_are_the_same heard more less added steps course = heard more added steps course ∙ sym (heard less added steps course)
