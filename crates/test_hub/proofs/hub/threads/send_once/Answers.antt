use Rattle.bsc_hub.specs.Testing.{vmac_at}
use Rattle.bsc_hub.proofs.Owning.{owned_kept}
use Rattle.bsc_hub.proofs.Staying.{one_stays}
use Rattle.test_hub.proofs.hub.threads.send_once.Goals as goal

pub returns : goal.returns
returns g c =
    let f = c.forward_one-told in
    (f.ensures.pass.caller, owned_kept c.args.hub.now c.args.pass.now f.new.pass _ _ c.args.conn (vmac_at c.args.from) c.requires.0 f.ensures.pass (one_stays _ _ _ f.result c.args.conn) c.requires.1)
