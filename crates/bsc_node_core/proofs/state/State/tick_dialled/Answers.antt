use Rattle.bsc_initiate.specs.declared.event.InitEvent.TheVariants.{Tick}
use Rattle.bsc_node_core.proofs.Hearing.{may-tick}
use Rattle.bsc_node_core.proofs.state.State.tick_dialled.Goals as goal

pub returns : goal.returns
returns c = λ b out L is n h.
    c.step_dialled.ensures b out L c.args.machine (Tick c.args.now c.args.self.now.next) is n c.tick-step.ensures.step (may-tick c.args.machine.stage c.args.now c.args.self.now.next c.requires) h
