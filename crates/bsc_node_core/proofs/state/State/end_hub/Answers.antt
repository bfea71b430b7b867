use Rattle.std.proofs.Common.{sym, ◌∙◌}
use Rattle.std.proofs.lemmas.Result.{on_ok_weaker}
use Rattle.bsc_node.specs.Hubs.{waits, hub_events}
use Rattle.bsc_node_core.proofs.LinkEnds.{hub-dropped, hub-lost, hub-failed, hub-idle}
use Rattle.bsc_node_core.proofs.state.State.end_hub.Goals as goal

pub returns-then-is_dropped : goal.returns-then-is_dropped
returns-then-is_dropped c = λ b L r h.
    hub-dropped b c.args.out.now c.args.self.now L c.args.side (sym (c.is_dropped.ensures b c.args.out.now L h) ∙ c.if-is_dropped.true) h

pub returns-then-is_up : goal.returns-then-is_up
returns-then-is_up c = on_ok_weaker c.tell_connector.result
    (λ g b L r h.
    hub-lost b _ _ L c.args.side
    (sym (c.is_dropped.ensures b c.args.out.now L h) ∙ c.if-is_dropped.false)
    (sym (c.is_up.ensures.told (waits b.made) (hub_events L) h.connector) ∙ c.if-is_up.true)
    (g b L r h))
    c.tell_connector.ensures

pub returns-then-is_under_way : goal.returns-then-is_under_way
returns-then-is_under_way c = on_ok_weaker c.tell_connector-then-is_under_way.result
    (λ g b L r h.
    hub-failed b _ _ L c.args.side
    (sym (c.is_dropped.ensures b c.args.out.now L h) ∙ c.if-is_dropped.false)
    (sym (c.is_up.ensures.told (waits b.made) (hub_events L) h.connector) ∙ c.if-is_up.false)
    (sym (c.is_under_way.ensures.told (waits b.made) (hub_events L) h.connector) ∙ c.if-is_under_way.true)
    (g b L r h))
    c.tell_connector-then-is_under_way.ensures

pub returns-else-is_under_way : goal.returns-else-is_under_way
returns-else-is_under_way c = λ b L r h.
    hub-idle b c.args.out.now c.args.self.now L c.args.side
    (sym (c.is_dropped.ensures b c.args.out.now L h) ∙ c.if-is_dropped.false)
    (sym (c.is_up.ensures.told (waits b.made) (hub_events L) h.connector) ∙ c.if-is_up.false)
    (sym (c.is_under_way.ensures.told (waits b.made) (hub_events L) h.connector) ∙ c.if-is_under_way.false)
    h
