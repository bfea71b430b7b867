use Rattle.std.proofs.Common.{ap}
use Rattle.bsc_initiate.specs.declared.event.InitEvent.TheVariants.{Opened}
use Rattle.bsc_node_core.specs.Machines.{may_tell_dialled}
use Rattle.bsc_node_core.proofs.state.State.open_dialled.Goals as goal

pub returns : goal.returns
returns c = λ b out L is n h.
    c.step_dialled.ensures b out L c.args.machine (Opened c.args.now c.args.self.now.next) is n c.opened-step.ensures.step
    (ap (λ w. may_tell_dialled w (Opened c.args.now c.args.self.now.next)) c.requires) h
