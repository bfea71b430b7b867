use Rattle.std.proofs.Common.{◌∙◌}
use Rattle.bsc_node_core.proofs.LinkStages.{open_kept}
use Rattle.bsc_node_core.proofs.node.Node.is_open.Goals as goal

pub returns : goal.returns
returns c = λ a L s n. c.is_open.ensures ∙ open_kept a L c.args.name c.get-link.result _ c.get-link.ensures (s.kept.state.links c.args.name n)
