use Rattle.std.proofs.Common.{rules}
use Rattle.bsc_accept.proofs.Following.{tick_answers}
use Rattle.bsc_accept.proofs.accepting.Accepting.tick.Goals as goal

pub returns-in-AwaitingRequest-clause-step : goal.returns-in-AwaitingRequest-clause-step
returns-in-AwaitingRequest-clause-step c = λ s E h. tick_answers _ _ s E _ _ h c.requires (rw c.in-AwaitingRequest.is (search rules)) c.close_if.ensures.stage

pub returns-in-Connected-clause-step : goal.returns-in-Connected-clause-step
returns-in-Connected-clause-step c = λ s E h. tick_answers _ _ s E _ _ h c.requires (rw c.in-Connected.is (search rules)) c.close_if-in-Connected.ensures.stage

pub returns-in-Disconnecting-clause-step : goal.returns-in-Disconnecting-clause-step
returns-in-Disconnecting-clause-step c = λ s E h. tick_answers _ _ s E _ _ h c.requires (rw c.in-Disconnecting.is (search rules)) c.close_if-in-Disconnecting.ensures.stage
