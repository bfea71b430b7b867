use Rattle.std.proofs.Common.{ap}
use Rattle.bsc_accept.specs.declared.step.Step.TheVariants.{Put}
use Rattle.bsc_accept.proofs.Following.{joined_answers}
use Rattle.bsc_accept.proofs.accepting.Accepting.joined.Goals as goal

pub returns-clause-step : goal.returns-clause-step
returns-clause-step c = λ s E h. joined_answers c.args.self.now c.enter.new.self s E c.in-Asked.id _ h c.in-Asked.is (ap (λ a. Put a) c.connect_accept-accept.ensures) c.enter.ensures
