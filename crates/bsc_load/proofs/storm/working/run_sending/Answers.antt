use Rattle.std.proofs.Common.{true}
use Rattle.bsc_load.specs.declared.storm.works.Work.{Work}
use Rattle.bsc_load.proofs.StormFacts.Stays.{has_run}
use Rattle.bsc_load.proofs.storm.working.run_sending.Goals as goal

pub returns : goal.returns
returns g c =
    let w : Work = record { pass = c.send-taken.new.pass; taken = c.send-taken.result } in
    has_run c.args.hub.now true c.args.rounds c.args.pass w c.requires.new c.send-taken.ensures
