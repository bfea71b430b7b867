use Rattle.bsc_initiate.specs.declared.event.InitEvent.TheVariants.{Finish}
use Rattle.bsc_node_core.proofs.Hearing.{may-finish}
use Rattle.bsc_node_core.proofs.state.State.finish_dialled.Goals as goal

pub returns : goal.returns
returns c = λ b out L is n h.
    c.step_dialled.ensures b out L c.args.machine (Finish c.args.now c.args.self.now.next) is n c.finish-step.ensures.step
    (may-finish c.args.machine.stage c.args.now c.args.self.now.next c.requires) h
