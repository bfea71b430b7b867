use Rattle.std.proofs.Common.{ap, sym, ◌∙◌}
use Rattle.bsc_node.specs.Ways.{slot_calls}
use Rattle.bsc_node.specs.Meeting.{refuser}
use Rattle.bsc_node_core.proofs.state.State.refuser.Goals as goal

pub returns-in-Hub : goal.returns-in-Hub
returns-in-Hub c = λ b out L h. sym (ap (λ x. refuser x c.args.origin L) c.in-Hub.is)

pub returns-in-Direct : goal.returns-in-Direct
returns-in-Direct c = λ b out L h. c.wanted.ensures (slot_calls L) h.direct ∙ sym (ap (λ x. refuser x c.args.origin L) c.in-Direct.is)
