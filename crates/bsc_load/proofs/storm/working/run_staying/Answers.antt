use Rattle.std.proofs.Common.{false}
use Rattle.bsc_load.specs.declared.storm.works.Work.{Work}
use Rattle.bsc_load.proofs.StormFacts.Stays.{has_run, stays_run}
use Rattle.bsc_load.proofs.storm.working.run_staying.Goals as goal

pub returns : goal.returns
returns g c =
    let w : Work = record { pass = c.stay_often-taken.new.pass; taken = c.stay_often-taken.result } in
    has_run c.args.hub.now false c.args.rounds c.args.pass w c.requires
    (stays_run c.args.hub.now c.args.rounds c.args.pass c.stay_often-taken.new.pass c.stay_often-taken.result c.stay_often-taken.ensures)
