use Rattle.std.proofs.Common.{ap}
use Rattle.bsc_initiate.specs.declared.step.InitStep.TheVariants.{Put}
use Rattle.bsc_initiate.proofs.Following.{opened_answers}
use Rattle.bsc_initiate.proofs.initiating.Initiating.opened.Goals as goal

pub returns-clause-step : goal.returns-clause-step
returns-clause-step c = λ s E h. opened_answers c.args.self.now c.enter.new.self s E c.args.now c.args.id _ h c.requires (ap (λ a. Put a) c.connect_request-request.ensures) c.enter.ensures
