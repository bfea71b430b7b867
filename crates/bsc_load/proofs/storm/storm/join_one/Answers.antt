use Rattle.bsc_load.proofs.StormFacts.Joining.{joined_none, joined_some}
use Rattle.bsc_load.proofs.storm.storm.join_one.Goals as goal

pub returns-in-Some : goal.returns-in-Some
returns-in-Some c = joined_some c.args.hub.now c.args.pass.now c.join.new.pass c.args.work c.in-Some.work c.in-Some.is c.requires.work c.join.ensures.pass c.join.ensures.loaded c.join.ensures.seen.2

pub returns-in-None : goal.returns-in-None
returns-in-None c = joined_none c.args.hub.now c.args.pass.now c.args.work c.in-None.is c.requires.caller
