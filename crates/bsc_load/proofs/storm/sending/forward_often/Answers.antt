use Rattle.bsc_load.specs.Storm.Peers.{storm_sender}
use Rattle.bsc_load.proofs.StormFacts.Forwarding.{sent_more, sent_none, sent_still}
use Rattle.bsc_load.proofs.storm.sending.forward_often.Goals as goal

pub loop-id-init : goal.loop-id-init
loop-id-init g c = sent_none c.args.hub.now c.args.conn c.args.pass.now c.requires.caller

pub forward-requires-clause-own : goal.forward-requires-clause-own
forward-requires-clause-own g c = c.loop-id.invariant.holds c.args.conn storm_sender.vmac c.requires.own

pub returns-in-Err : goal.returns-in-Err
returns-in-Err g c =
    let f = c.in-Err.ensures in
    (c.loop-id.id, c.loop-id-test.true, sent_still c.args.hub.now c.args.conn c.loop-id.id c.args.pass.now c.loop-id.pass c.forward.new.pass c.loop-id.invariant f.0 f.1, f.2)

pub loop-id-preserved : goal.loop-id-preserved
loop-id-preserved g c = sent_more c.args.hub.now c.args.conn c.loop-id.id c.args.pass.now c.loop-id.pass c.forward.new.pass tt c.loop-id.invariant c.in-Ok.ensures
