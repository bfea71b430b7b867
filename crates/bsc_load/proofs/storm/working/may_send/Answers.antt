use Rattle.std.proofs.Common.{true}
use Rattle.bsc_load.proofs.StormFacts.Stays.{may_run_none, may_run_some}
use Rattle.bsc_load.proofs.storm.working.may_send.Goals as goal

pub returns-in-None : goal.returns-in-None
returns-in-None g c = may_run_none c.args.hub.now true c.args.rounds c.args.pass c.in-None.is

pub returns-in-Some : goal.returns-in-Some
returns-in-Some g c = may_run_some c.args.hub.now true c.args.rounds c.args.pass c.in-Some.pass c.run_sending.result c.in-Some.is c.run_sending.ensures
