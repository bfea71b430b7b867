use Rattle.std.proofs.Common.{sym, ◌∙◌}
use Rattle.std.proofs.lemmas.Result.{on_ok_weaker}
use Rattle.bsc_node.specs.Hubs.{waits, hub_events}
use Rattle.bsc_node_core.proofs.Redialling.{use-told, use-kept}
use Rattle.bsc_node_core.proofs.state.State.tell_use.Goals as goal

pub returns-then-is_same_use : goal.returns-then-is_same_use
returns-then-is_same_use c = λ b L before h.
    use-kept b c.args.out.now c.args.self.now L c.args.before c.hub_use-used.result before (c.hub_use-used.ensures (waits b.made) (hub_events L) h.connector)
    (sym c.is_same_use.ensures ∙ c.if-is_same_use.true) h

pub returns-else-is_same_use : goal.returns-else-is_same_use
returns-else-is_same_use c = on_ok_weaker c.tell.result
    (λ t b L before h.
    use-told b c.args.out.now _ c.args.self.now L c.args.before c.hub_use-used.result before (c.hub_use-used.ensures (waits b.made) (hub_events L) h.connector)
    (sym c.is_same_use.ensures ∙ c.if-is_same_use.false) t h)
    c.tell.ensures
