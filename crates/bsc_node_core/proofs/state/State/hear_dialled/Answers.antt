use Rattle.bsc_initiate.specs.declared.event.InitEvent.TheVariants.{Message}
use Rattle.bsc_node_core.proofs.Hearing.{told-from}
use Rattle.bsc_node_core.proofs.state.State.hear_dialled.Goals as goal

pub returns : goal.returns
returns c = λ b out L is n m h.
    told-from b out _ _ c.args.name c.args.now c.args.verdict.now _ (c.step_dialled.ensures b out L c.args.machine (Message c.args.now c.args.verdict.now) is n c.message-step.ensures.step m h)
