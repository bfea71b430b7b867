use Rattle.std.proofs.Common.{ap, ◌∙◌}
use Rattle.bsc_load.proofs.StormFacts.Forwarding.{forwarded_as}
use Rattle.bsc_load.proofs.storm.sending.forward.Goals as goal

pub returns : goal.returns
returns g c =
    forwarded_as c.args.hub.now c.args.conn c.args.id c.args.pass.now c.forward_one.new.pass c.forward_one.result c.in-Ok.ready.message c.goes_on.result
    (ap (λ f. f.message) c.in-Ok.ensures ∙ c.storm_frame-message.ensures)
    c.goes_on.ensures c.requires.caller c.forward_one.ensures.pass c.forward_one.ensures.worn
