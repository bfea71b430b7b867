use Rattle.std.proofs.Common.{inl, inr, refl, rules}
use Rattle.bsc_initiate.proofs.Following.{message_answers, passed_answers}
use Rattle.bsc_initiate.proofs.initiating.Initiating.message.Goals as goal

pub returns-in-Pass-clause-step : goal.returns-in-Pass-clause-step
returns-in-Pass-clause-step c = λ s E h. passed_answers _ _ _ s E _ _ _ _ h c.requires c.in-Pass.is c.hear.ensures c.passed.ensures.step c.passed.ensures.stage

pub returns-in-Nak-clause-step : goal.returns-in-Nak-clause-step
returns-in-Nak-clause-step c = λ s E h. message_answers _ _ s E _ _ _ h c.requires (rw c.in-Nak.is (search rules)) c.hear.ensures

pub returns-in-Carry-clause-step : goal.returns-in-Carry-clause-step
returns-in-Carry-clause-step c = λ s E h. message_answers _ _ s E _ _ _ h c.requires (elim c.in-Carry.is [ inl e ↦ rw e.1 refl | inr e ↦ rw e.1 refl ]) c.hear.ensures
