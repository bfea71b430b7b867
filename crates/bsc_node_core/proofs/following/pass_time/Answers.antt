use Rattle.bsc_node_core.specs.Resolving.{asked_by}
use Rattle.bsc_node_core.proofs.Followed.{timed}
use Rattle.bsc_node_core.proofs.following.pass_time.Goals as goal

pub returns-clause-goes : goal.returns-clause-goes
returns-clause-goes c = λ b L r h. timed b _ _ c.args.resolve.now _ L c.args.at.now.time r.1 h.resolution (c.in_ok-tick.ensures (asked_by L b) L r h.state) c.tick-2.ensures
