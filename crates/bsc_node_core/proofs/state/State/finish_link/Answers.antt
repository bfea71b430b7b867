use Rattle.std.proofs.Common.{[], ◌∷◌, sym, ◌∙◌}
use Rattle.std.proofs.lemmas.Result.{on_ok_weaker}
use Rattle.bsc_node.specs.Logs.{in_order, nothing, either}
use Rattle.bsc_node.specs.Links.{is_there}
use Rattle.bsc_node.specs.Ending.{ends, finishes_machine}
use Rattle.bsc_node_core.specs.Standing.{Stands}
use Rattle.bsc_node_core.proofs.Branching.{when-so, when-not}
use Rattle.bsc_node_core.proofs.state.State.finish_link.Goals as goal

pub returns-then-is_there : goal.returns-then-is_there
returns-then-is_there c = on_ok_weaker c.finish_there.result
    (λ g b L r name h.
    when-so (Stands b _ _) L (is_there c.args.name) (in_order (finishes_machine b.made c.args.name ∷ either (is_there c.args.name) nothing (ends b.made c.args.name) ∷ []))
    ((h.links c.args.name name).there ∙ sym c.is_there.ensures ∙ c.if-is_there.true) (g b L r name h))
    c.finish_there.ensures

pub returns-else-is_there : goal.returns-else-is_there
returns-else-is_there c = λ b L r name h.
    when-not (Stands b _ _) L (is_there c.args.name) (in_order (finishes_machine b.made c.args.name ∷ either (is_there c.args.name) nothing (ends b.made c.args.name) ∷ []))
    ((h.links c.args.name name).there ∙ sym c.is_there.ensures ∙ c.if-is_there.false) h
