use Rattle.std.proofs.Common.{false}
use Rattle.bsc_load.proofs.StormFacts.Stays.{may_run_none, may_run_some}
use Rattle.bsc_load.proofs.storm.working.may_stay.Goals as goal

pub returns-in-None : goal.returns-in-None
returns-in-None g c = may_run_none c.args.hub.now false c.args.rounds c.args.pass c.in-None.is

pub returns-in-Some : goal.returns-in-Some
returns-in-Some g c = may_run_some c.args.hub.now false c.args.rounds c.args.pass c.in-Some.pass c.run_staying.result c.in-Some.is c.run_staying.ensures
