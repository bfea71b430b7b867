use Rattle.std.proofs.Common.{inl, inr, refl, rules}
use Rattle.bsc_initiate.proofs.Following.{tick_answers, closing_answers}
use Rattle.bsc_initiate.proofs.initiating.Initiating.tick.Goals as goal

pub returns-in-AwaitingWebsocket-clause-step : goal.returns-in-AwaitingWebsocket-clause-step
returns-in-AwaitingWebsocket-clause-step c = λ s E h. closing_answers _ _ s E _ _ _ h c.requires
    (elim c.in-AwaitingWebsocket.is [ inl e ↦ rw e refl | inr e ↦ rw e.1 refl ])
    (elim c.in-AwaitingWebsocket.is [ inl e ↦ rw e (search rules) | inr e ↦ rw e.1 (search rules) ])
    c.close_if.ensures.stage

pub returns-in-Connected-clause-step : goal.returns-in-Connected-clause-step
returns-in-Connected-clause-step c = λ s E h. tick_answers _ _ s E _ _ _ h c.requires (rw c.in-Connected.is c.beat.ensures.step) (rw c.in-Connected.is c.beat.ensures.stage)

pub returns-in-Disconnecting-clause-step : goal.returns-in-Disconnecting-clause-step
returns-in-Disconnecting-clause-step c = λ s E h. closing_answers _ _ s E _ _ _ h c.requires
    (rw c.in-Disconnecting.is refl)
    (rw c.in-Disconnecting.is (search rules))
    c.close_if-in-Disconnecting.ensures.stage
