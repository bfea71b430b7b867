use Rattle.std.proofs.Common.{ap, sym, ◌∙◌}
use Rattle.std.specs.Option.{option_or}
use Rattle.bsc_node_core.specs.Tables.{Kept}
use Rattle.bsc_node_core.proofs.Taking.{direct-sender}
use Rattle.bsc_node_core.proofs.state.State.sender.Goals as goal

pub returns-in-Direct : goal.returns-in-Direct
returns-in-Direct c = λ b out L msg n o h.
    direct-sender c.args.name c.in-Direct.field-0 msg c.args.origin c.get.result.peer L c.in-Direct.is o ((h.links c.args.name n).peer ∙ sym (ap (λ (k : Kept). k.peer) c.get.ensures))
    ∙ ap (λ x. option_or c.args.origin x) (sym c.vmac_of.ensures) ∙ sym c.or.ensures
