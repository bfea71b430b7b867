use Rattle.std.proofs.Common.{ap, ◌∙◌}
use Rattle.bsc_load.proofs.Forwarding.{forwarded_as}
use Rattle.bsc_load.proofs.worker.forward.Goals as goal

pub returns : goal.returns
returns g c =
    forwarded_as c.args.hub.now c.args.i c.args.conn c.args.k c.args.pass.now c.forward_one.new.pass c.forward_one.result c.in-Ok-prepare.ready.message c.goes_on.result
    (ap (λ f. f.message) c.in-Ok-prepare.ensures ∙ c.as_slice.ensures.value ∙ c.in-Ok.ensures)
    c.goes_on.ensures c.requires.caller c.forward_one.ensures.pass c.forward_one.ensures.worn
