use Rattle.std.proofs.Common.{refl, rules}
use Rattle.bsc_accept.proofs.Following.{message_answers, left_after}
use Rattle.bsc_accept.proofs.accepting.Accepting.message.Goals as goal

pub returns-in-Pass-clause-step : goal.returns-in-Pass-clause-step
returns-in-Pass-clause-step c = λ s E h. message_answers _ _ s E _ _ _ h c.requires (rw c.in-Pass.is c.passed.ensures.step) (rw c.in-Pass.is (cc))

pub returns-in-Pass-clause-left : goal.returns-in-Pass-clause-left
returns-in-Pass-clause-left c = left_after _ _ _ _ c.requires c.passed.ensures.stage

pub returns-in-Carry-clause-step : goal.returns-in-Carry-clause-step
returns-in-Carry-clause-step c = λ s E h. message_answers _ _ s E _ _ _ h c.requires (rw c.in-Carry.is refl) (rw c.in-Carry.is refl)

pub returns-in-Silent-clause-step : goal.returns-in-Silent-clause-step
returns-in-Silent-clause-step c = λ s E h. message_answers _ _ s E _ _ _ h c.requires (rw c.in-Silent.is refl) (rw c.in-Silent.is refl)

pub returns-in-Nak-clause-step : goal.returns-in-Nak-clause-step
returns-in-Nak-clause-step c = λ s E h. message_answers _ _ s E _ _ _ h c.requires (rw c.in-Nak.is (search rules)) (rw c.in-Nak.is refl)
