use Rattle.bsc_node_core.proofs.Told.{dialled-told}
use Rattle.bsc_node_core.proofs.Stepped.{outcome-is}
use Rattle.bsc_node_core.proofs.state.State.step_dialled.Goals as goal

pub returns : goal.returns
returns c = λ b out L before e is n a m h.
    dialled-told b out c.args.self.now L c.args.name e before c.args.machine c.args.step _ _ (outcome-is e c.args.step) c.go_on_dialled.ensures.sets c.go_on_dialled.ensures.touches is n a m h
