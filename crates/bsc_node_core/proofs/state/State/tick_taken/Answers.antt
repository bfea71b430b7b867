use Rattle.std.proofs.Common.{ap, refl, None}
use Rattle.bsc_accept.specs.declared.event.Event.TheVariants.{Tick}
use Rattle.bsc_node_core.specs.Machines.{taken_in}
use Rattle.bsc_node_core.proofs.Hearing.{may-tick-taken}
use Rattle.bsc_node_core.proofs.state.State.tick_taken.Goals as goal

pub returns : goal.returns
returns c = λ b out L is n h.
    c.step_taken.ensures b out L c.args.machine (Tick c.args.now) None (ap taken_in is) n c.tick-step.ensures.step (may-tick-taken c.args.machine.stage c.args.now c.requires) refl h
