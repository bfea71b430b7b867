use Rattle.bsc_load.proofs.StormFacts.Joining.{joins_three}
use Rattle.bsc_load.proofs.storm.storm.join_three.Goals as goal

pub returns : goal.returns
returns c =
    joins_three c.args.hub.now c.args.pass.now c.join_one.new.pass c.join_one-2.new.pass c.join_one-3.new.pass c.args.x c.args.y c.args.z
    c.join_one.ensures c.join_one-2.ensures c.join_one-3.ensures
