use Rattle.std.proofs.Common.{sym, ◌∙◌}
use Rattle.std.proofs.lemmas.Result.{on_ok_weaker}
use Rattle.bsc_node.specs.Hubs.{waits, hub_events}
use Rattle.bsc_node_core.proofs.Meets.{hub-told, hub-met, hub-unmet}
use Rattle.bsc_node_core.proofs.state.State.meet_hub.Goals as goal

pub returns-then-is_under_way : goal.returns-then-is_under_way
returns-then-is_under_way c = on_ok_weaker c.tell_connector.result
    (λ g b L who r told.
    let h = hub-told b c.args.out.now c.args.self.now L c.args.side who r.2 told in
    hub-met b _ _ L c.args.side who (sym (c.is_under_way.ensures.told (waits b.made) (hub_events L) h.connector) ∙ c.if-is_under_way.true) (g b L r h))
    c.tell_connector.ensures

pub returns-else-is_under_way : goal.returns-else-is_under_way
returns-else-is_under_way c = λ b L who r told.
    let h = hub-told b c.args.out.now c.args.self.now L c.args.side who r.2 told in
    hub-unmet b c.args.out.now c.args.self.now L c.args.side who (sym (c.is_under_way.ensures.told (waits b.made) (hub_events L) h.connector) ∙ c.if-is_under_way.false) h
