use Rattle.std.proofs.Common.{refl}
use Rattle.bsc_initiate.proofs.Following.{finish_answers}
use Rattle.bsc_initiate.proofs.initiating.Initiating.finish.Goals as goal

pub returns-in-Connected-clause-step : goal.returns-in-Connected-clause-step
returns-in-Connected-clause-step c = λ s E h. finish_answers _ _ s E _ _ _ h c.requires (rw c.in-Connected.is c.disconnect.ensures.step) (rw c.in-Connected.is c.disconnect.ensures.waits)

pub returns-in-Disconnecting-clause-step : goal.returns-in-Disconnecting-clause-step
returns-in-Disconnecting-clause-step c = λ s E h. finish_answers _ _ s E _ _ _ h c.requires (rw c.in-Disconnecting.is refl) (rw c.in-Disconnecting.is refl)
