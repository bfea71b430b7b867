use Rattle.bsc_node_core.proofs.Beginning.{dial-stands}
use Rattle.bsc_node_core.proofs.state.State.dial.Goals as goal

pub returns : goal.returns
returns c = λ b L t n _ h.
    dial-stands b c.args.out.now _ c.args.self.now L c.args.times c.args.now c.args.name c.args.uri c.start-machine.result _ _ c.in_ok-push.ensures.ok c.begin.ensures.sets
    c.begin.ensures.touches c.dropped_begun-self.ensures c.start-machine.ensures.stands t n h
