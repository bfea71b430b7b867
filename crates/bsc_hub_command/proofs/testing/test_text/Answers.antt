use Rattle.std.proofs.Common.{List, ℕ, Option, inl, inr, subst}
use Rattle.bsc_player.specs.LastLines.{SaysOrRunsOut}
use Rattle.bsc_session.specs.Jobs.{policy_of}
use Rattle.bsc_settings_told.specs.Told.{hub_told}
use Rattle.bsc_hub_command.proofs.testing.test_text.Goals as goal

pub returns-in-Ok-clause-tested : goal.returns-in-Ok-clause-tested
returns-in-Ok-clause-tested g c f f' =
    let K = g.K.Sink in
    let v = c.in-Ok.settled.hub in
    let policy = policy_of c.in-Ok.settled.policy in
    let is = c.in-Ok.ensures.settled.0 in
    inr (
      v,
      policy,
      is,
      subst (λ (t : Option (List ℕ)). SaysOrRunsOut c.tell.result 0 t (K.held c.tell.new.sink) (hub_told v policy)) c.in-Ok.ensures.settled.1 (c.tell.ensures.says is),
    )

pub returns-in-Err-clause-tested : goal.returns-in-Err-clause-tested
returns-in-Err-clause-tested g c f f' = inl (c.in-Err.ensures.unsettled f f')
