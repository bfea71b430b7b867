use Rattle.bsc_accept.specs.Past.{standing}
use Rattle.bsc_node.specs.Links.{accepting_events}
use Rattle.bsc_node_core.proofs.Told.{taken-told}
use Rattle.bsc_node_core.proofs.state.State.step_taken.Goals as goal

pub returns : goal.returns
returns c = λ b out L before e origin is n a m up h.
    taken-told b out c.args.self.now L c.args.name e before c.args.machine c.args.step _ _
    (c.as_dialled.ensures origin (standing (accepting_events L c.args.name)) e up) c.go_on_taken.ensures.sets c.go_on_taken.ensures.touches is n a m h
