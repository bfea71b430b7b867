use Rattle.std.proofs.Common.{ap, refl, None}
use Rattle.bsc_accept.specs.declared.event.Event.TheVariants.{Finish}
use Rattle.bsc_node_core.specs.Machines.{taken_in}
use Rattle.bsc_node_core.proofs.Hearing.{may-finish-taken}
use Rattle.bsc_node_core.proofs.state.State.finish_taken.Goals as goal

pub returns : goal.returns
returns c = λ b out L is n h.
    c.step_taken.ensures b out L c.args.machine (Finish c.args.now c.args.self.now.next) None (ap taken_in is) n c.finish-step.ensures.step
    (may-finish-taken c.args.machine.stage c.args.now c.args.self.now.next c.requires) refl h
