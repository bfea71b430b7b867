use Rattle.std.proofs.Common.{arith}
use Rattle.bsc_load.proofs.Ending.{loads_from}
use Rattle.bsc_load.proofs.workload.run_jobs.Goals as goal

pub returns-in-Ok : goal.returns-in-Ok
returns-in-Ok g c =
    loads_from c.args.hub.now c.args.pass.now c.finish.new.pass c.args.workers _ c.args.jobs.items c.in-Ok.works.items c.finish.result c.requires.few
    (omega (arith, c.len.ensures, c.args.jobs.ok.0)) c.in-Ok.ensures c.finish.ensures
