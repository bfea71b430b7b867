use Rattle.bsc_load.proofs.StormFacts.Ending.{storms_from}
use Rattle.bsc_load.proofs.storm.storm.run.Goals as goal

pub returns : goal.returns
returns g c =
    let t = c.run_three-x.result in
    storms_from c.args.hub.now c.args.rounds c.args.pass.now c.finish.new.pass c.args.passes.0 c.args.passes.1 c.args.passes.2 t.0.0 t.0.1 t.1 c.finish.result
    c.run_three-x.ensures.one c.run_three-x.ensures.other c.run_three-x.ensures.sends c.finish.ensures
