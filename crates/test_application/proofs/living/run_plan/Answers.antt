use Rattle.std.proofs.Common.{Some}
use Rattle.test_application.proofs.Given.{ok_then}
use Rattle.test_application.proofs.living.run_plan.Goals as goal

pub returns : goal.returns
returns g c = ok_then c.run_application.result _ _
    (λ end run. (Some c.run_application.new.application.answers.items, rw c.new-application.ensures.answers at run)) c.run_application.ensures.runs
