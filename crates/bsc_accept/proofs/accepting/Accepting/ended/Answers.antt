use Rattle.std.proofs.Common.{inl, inr}
use Rattle.bsc_accept.proofs.Following.{ended_answers, connected_stage}
use Rattle.bsc_accept.proofs.accepting.Accepting.ended.Goals as goal

pub returns-in-Replaced-clause-step : goal.returns-in-Replaced-clause-step
returns-in-Replaced-clause-step c = λ s E h. ended_answers _ _ s E _ _ _ h (connected_stage _ c.requires.connected)
    (elim c.in-Replaced.is [ inl e ↦ rw e c.disconnect.ensures.step | inr e ↦ rw e c.disconnect.ensures.step ])
    (elim c.in-Replaced.is [ inl e ↦ rw e c.disconnect.ensures.waits | inr e ↦ rw e c.disconnect.ensures.waits ])
