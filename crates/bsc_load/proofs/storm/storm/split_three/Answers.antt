use Rattle.bsc_load.proofs.StormFacts.Splitting.{splits_three}
use Rattle.bsc_load.proofs.storm.storm.split_three.Goals as goal

pub returns : goal.returns
returns g c =
    splits_three c.args.hub.now c.args.pass.now c.split_one-one.new.pass c.split_one-other.new.pass c.split_one-sends.new.pass c.split_one-one.result c.split_one-other.result c.split_one-sends.result
    c.split_one-one.ensures c.split_one-other.ensures c.split_one-sends.ensures
