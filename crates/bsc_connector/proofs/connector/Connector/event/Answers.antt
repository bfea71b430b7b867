use Rattle.std.proofs.Common.{refl}
use Rattle.bsc_connector.proofs.Following.{event_answers}
use Rattle.bsc_connector.proofs.Leaving.{left_by}
use Rattle.bsc_connector.proofs.connector.Connector.event.Goals as goal

pub returns-clause-step : goal.returns-clause-step
returns-clause-step c = λ w E h. event_answers c.args.self.now _ w E c.args.now c.args.event _ h c.requires.order c.step_of-step.ensures
    (rw (c.primary_after-self.ensures, c.failover_after-self.ensures) refl)

pub returns-clause-left : goal.returns-clause-left
returns-clause-left c = rw (c.step_of-step.ensures, c.primary_after-self.ensures, c.failover_after-self.ensures)
    (left_by c.args.self.now.waits c.args.self.now.primary c.args.self.now.failover c.args.now c.args.event)
