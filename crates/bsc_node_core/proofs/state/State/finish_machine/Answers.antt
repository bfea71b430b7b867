use Rattle.std.proofs.Common.{sym, ◌∙◌, None}
use Rattle.std.proofs.lemmas.Result.{on_ok_weaker}
use Rattle.bsc_node.specs.Links.{is_there}
use Rattle.bsc_node_core.specs.Standing.{Stands}
use Rattle.bsc_node_core.proofs.Branching.{when-not}
use Rattle.bsc_node_core.proofs.Finishing.{finished}
use Rattle.bsc_node_core.proofs.state.State.finish_machine.Goals as goal

pub returns-then-is_there : goal.returns-then-is_there
returns-then-is_there c = on_ok_weaker c.carry_out.result
    (λ g b L w none n h.
    let t = (h.links c.args.name n).there ∙ sym c.is_there.ensures ∙ c.if-is_there.true in
    finished b c.args.out.now _ _ _ L c.args.name _ none n t (c.finishes-step.ensures b c.args.out.now L w none n t h) (λ d k. g None None d _ k))
    c.carry_out.ensures.goes

pub returns-else-is_there : goal.returns-else-is_there
returns-else-is_there c = λ b L w none n h. when-not (Stands b c.args.out.now c.args.self.now) L (is_there c.args.name) _
    ((h.links c.args.name n).there ∙ sym c.is_there.ensures ∙ c.if-is_there.false) h
