use Rattle.bsc_load.proofs.StormFacts.Stays.{stayed_cut, stayed_more, stayed_none}
use Rattle.bsc_load.proofs.storm.staying.stay_often.Goals as goal

pub loop-k-init : goal.loop-k-init
loop-k-init g c = stayed_none c.args.hub.now c.args.pass.now c.requires

pub returns-in-Err : goal.returns-in-Err
returns-in-Err g c = stayed_cut c.args.hub.now c.args.rounds c.loop-k.k c.args.pass.now c.loop-k.pass c.stay.new.pass c.loop-k.taken c.in-Err.cut c.loop-k-test.true c.loop-k.invariant c.in-Err.ensures

pub loop-k-preserved : goal.loop-k-preserved
loop-k-preserved g c =
    stayed_more c.args.hub.now c.loop-k.k c.args.pass.now c.loop-k.pass c.stay.new.pass c.loop-k.taken c.in-Ok.more c.saturating_add-taken.result c.loop-k.invariant c.in-Ok.ensures
    c.saturating_add-taken.ensures
