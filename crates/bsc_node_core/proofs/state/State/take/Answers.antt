use Rattle.bsc_node_core.proofs.Beginning.{take-stands}
use Rattle.bsc_node_core.proofs.state.State.take.Goals as goal

pub returns : goal.returns
returns c = λ b L t n _ h.
    take-stands b c.args.out.now _ c.args.self.now L c.args.times c.args.now c.args.k c.start-machine.result _ c.in_ok-push.ensures.ok c.begin.ensures.sets c.begin.ensures.touches
    c.start-machine.ensures.stands t n h
