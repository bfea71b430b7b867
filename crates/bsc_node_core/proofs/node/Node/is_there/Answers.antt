use Rattle.std.proofs.Common.{sym, ◌∙◌}
use Rattle.bsc_node_core.proofs.node.Node.is_there.Goals as goal

pub returns : goal.returns
returns c = λ a L s n. c.is_there.ensures ∙ sym (s.kept.state.links c.args.name n).there
