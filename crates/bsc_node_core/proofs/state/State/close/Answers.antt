use Rattle.bsc_node_core.proofs.Closing.{close-stands}
use Rattle.bsc_node_core.proofs.state.State.close.Goals as goal

pub returns-clause-goes : goal.returns-clause-goes
returns-clause-goes c = λ b L h. rw c.in_ok-push.ensures.ok (close-stands b c.args.out.now c.args.self.now L c.args.name c.args.closing _ c.end.ensures.sets c.end.ensures.touches h)
