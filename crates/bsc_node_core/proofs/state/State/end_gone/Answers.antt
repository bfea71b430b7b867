use Rattle.std.proofs.Common.{sym, ◌∙◌}
use Rattle.std.proofs.lemmas.Result.{on_ok_weaker}
use Rattle.bsc_node.specs.Logs.{nothing}
use Rattle.bsc_node.specs.Links.{is_there}
use Rattle.bsc_node.specs.Ending.{ends}
use Rattle.bsc_node_core.specs.Standing.{Stands}
use Rattle.bsc_node_core.proofs.Branching.{still, either-so, either-not}
use Rattle.bsc_node_core.proofs.state.State.end_gone.Goals as goal

pub returns-then-is_there : goal.returns-then-is_there
returns-then-is_there c = λ b L r name h.
    either-so (Stands b _ _) L (is_there c.args.name) nothing (ends b.made c.args.name) ((h.links c.args.name name).there ∙ sym c.is_there.ensures ∙ c.if-is_there.true) (still (Stands b _ _) L h)

pub returns-else-is_there : goal.returns-else-is_there
returns-else-is_there c = on_ok_weaker c.end.result
    (λ g b L r name h.
    either-not (Stands b _ _) L (is_there c.args.name) nothing (ends b.made c.args.name) ((h.links c.args.name name).there ∙ sym c.is_there.ensures ∙ c.if-is_there.false) (g b L r h))
    c.end.ensures
