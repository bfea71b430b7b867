use Rattle.bsc_node_core.proofs.Lines.{put-stands}
use Rattle.bsc_node_core.proofs.state.State.put.Goals as goal

pub returns-clause-goes : goal.returns-clause-goes
returns-clause-goes c = λ b L h. rw (c.in_ok-push.ensures.ok, c.number_after-next.ensures, c.as_slice.ensures) (put-stands b c.args.out.now c.args.self.now L c.args.name c.args.octets h)
