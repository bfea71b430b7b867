use Rattle.std.proofs.Common.{ap, sym, ◌∙◌, refl}
use Rattle.bsc_accept.specs.declared.event.Event.TheVariants.{Message}
use Rattle.bsc_accept.specs.Past.{standing}
use Rattle.bsc_node.specs.Links.{accepting_events, start, is_in_connected}
use Rattle.bsc_node_core.specs.Machines.{taken_in}
use Rattle.bsc_node_core.specs.Rules.{origin_in}
use Rattle.bsc_node_core.specs.Telling.{busy_with}
use Rattle.bsc_node_core.proofs.Hearing.{goes-up, may-hear-taken, not-over-taken, taken-before}
use Rattle.bsc_node_core.proofs.state.State.hear_taken.Goals as goal

pub returns : goal.returns
returns c = λ b out L is n h.
    let E = accepting_events L c.args.name in
    let before = taken-before (busy_with c.args.name b) out c.args.self.now L c.args.name b.now n refl h c.args.machine is in
    let p = c.phase.ensures.told (start b.made L c.args.name) E before.machine (not-over-taken c.args.machine c.requires) in
    c.step_taken.ensures b out L c.args.machine (Message c.args.now c.args.verdict.now) (origin_in c.args.verdict.now) (ap taken_in is) n c.message-step.ensures.step
    (may-hear-taken c.args.machine.stage c.args.now c.args.verdict.now c.requires)
    (goes-up c.args.now c.args.verdict.now (standing E) ∙ ap is_in_connected (sym p) ∙ sym c.is_in_connected-connected.ensures) h
