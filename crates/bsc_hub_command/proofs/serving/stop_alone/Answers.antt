use Rattle.std.proofs.Common.{[], subst}
use Rattle.bsc_turn.specs.Passes.{number_of}
use Rattle.bsc_hub.specs.declared.hub.Hub.{Hub}
use Rattle.bsc_hub.specs.Calls.{stop_made}
use Rattle.bsc_hub.specs.Passing.{Passed}
use Rattle.bsc_hub_command.proofs.Stopping.{stop_answers}
use Rattle.bsc_hub_command.proofs.serving.stop_alone.Goals as goal

pub returns : goal.returns
returns g c =
    let n = number_of c.args.pass.now in (
      c.stop-told.result,
      subst (λ (h : Hub). Passed h c.args.pass.now [] (stop_made n c.stop-told.result) c.stop-told.new.pass) c.deref-here.ensures
          c.stop-told.ensures.pass,
      stop_answers n c.stop-told.new.pass c.stop-told.result c.stop-told.ensures.due c.stop-told.ensures.refused c.stop-told.ensures.place,
    )
