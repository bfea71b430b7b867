use Rattle.std.proofs.Common.{sym, ◌∙◌}
use Rattle.std.proofs.lemmas.Result.{on_ok_weaker}
use Rattle.bsc_node_core.proofs.Wants.{same-lines}
use Rattle.bsc_node_core.proofs.Dialling.{closed-there, not-there}
use Rattle.bsc_node_core.proofs.state.State.close_there.Goals as goal

pub returns-then-is_there : goal.returns-then-is_there
returns-then-is_there c = on_ok_weaker c.close.result
    (λ g b L n h. same-lines b _ _ L _ _ (closed-there c.args.name L ((h.links c.args.name n).there ∙ sym c.is_there.ensures ∙ c.if-is_there.true)) (g b L h))
    c.close.ensures.goes

pub returns-else-is_there : goal.returns-else-is_there
returns-else-is_there c = λ b L n h. not-there b c.args.out.now c.args.self.now c.args.name L ((h.links c.args.name n).there ∙ sym c.is_there.ensures ∙ c.if-is_there.false) h
