use Rattle.std.proofs.Common.{sym, ◌∙◌}
use Rattle.std.proofs.lemmas.Result.{on_ok_weaker}
use Rattle.bsc_node_core.proofs.Refusing.{refusal-told, drawn-stands, not-drawn-stands, with_told}
use Rattle.bsc_node_core.proofs.state.State.be_refused.Goals as goal

pub returns-then-may_draw : goal.returns-then-may_draw
returns-then-may_draw c = on_ok_weaker c.push.result
    (λ o b L r nm h.
    let t = refusal-told b c.args.out.now _ _ c.args.self.now _ L c.args.name c.args.origin _ c.args.code r.2 nm c.in_ok-close.ensures.goes c.refuser-from.ensures c.in_ok-tell.ensures h in
    drawn-stands b _ _ _ L c.args.name c.args.origin c.args.code o (sym (c.may_draw.ensures b _ (with_told c.args.name c.args.origin c.args.code L) t) ∙ c.if-may_draw.true) t)
    c.push.ensures.ok

pub returns-else-may_draw : goal.returns-else-may_draw
returns-else-may_draw c = on_ok_weaker c.end.result
    (λ g b L r nm h.
    let t = refusal-told b c.args.out.now _ _ c.args.self.now _ L c.args.name c.args.origin _ c.args.code r.2 nm c.in_ok-close.ensures.goes c.refuser-from.ensures c.in_ok-tell.ensures h in
    not-drawn-stands b _ _ L c.args.name c.args.origin c.args.code (sym (c.may_draw.ensures b _ (with_told c.args.name c.args.origin c.args.code L) t) ∙ c.if-may_draw.false)
    (g b (with_told c.args.name c.args.origin c.args.code L) r t))
    c.end.ensures
