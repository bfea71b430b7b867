use Rattle.std.proofs.Common.{arith}
use Rattle.bsc_load.proofs.Given.{have_run}
use Rattle.bsc_load.proofs.passes.run_all.Goals as goal

pub returns-in-Ok : goal.returns-in-Ok
returns-in-Ok g c =
    have_run c.args.hub.now c.args.jobs.items c.in-Ok.works.items (omega (arith, c.in-Ok.ensures.len, c.args.jobs.ok.0, c.in-Ok.works.ok.0))
    (λ i d l. let k = (c.in-Ok.ensures.each i d l).1 in (k.job, k.job_is, k.call.met))
