use Rattle.std.proofs.Common.{sym, ◌∙◌, ◌++◌, None, refl}
use Rattle.std.proofs.lemmas.Result.{on_ok_weaker}
use Rattle.bsc_node.specs.Links.{is_there, ticks}
use Rattle.bsc_node_core.specs.Standing.{Stands}
use Rattle.bsc_node_core.proofs.Branching.{when-not}
use Rattle.bsc_node_core.proofs.Ticking.{ticked, unmet-ticked}
use Rattle.bsc_node_core.proofs.state.State.tick_link.Goals as goal

pub returns-then-is_there : goal.returns-then-is_there
returns-then-is_there c = on_ok_weaker c.apply_step.result
    (λ g b L r n h.
    let t = (h.links c.args.name n).there ∙ sym c.is_there.ensures ∙ c.if-is_there.true in
    ticked b _ _ L c.args.name t (g b (L ++ ticks c.args.name L) None r n (unmet-ticked b.made c.args.name L) (λ e. refl) (c.ticks-step.ensures b c.args.out.now L r.1 r.2 n t h)))
    c.apply_step.ensures

pub returns-else-is_there : goal.returns-else-is_there
returns-else-is_there c = λ b L r n h.
    when-not (Stands b c.args.out.now c.args.self.now) L (is_there c.args.name) _ ((h.links c.args.name n).there ∙ sym c.is_there.ensures ∙ c.if-is_there.false) h
