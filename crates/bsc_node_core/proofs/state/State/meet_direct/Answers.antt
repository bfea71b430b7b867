use Rattle.std.proofs.Common.{sym, ◌∙◌}
use Rattle.std.proofs.lemmas.Result.{on_ok_weaker}
use Rattle.bsc_node.specs.Ways.{slot_calls}
use Rattle.bsc_node_core.proofs.Meets.{met-awaited, met-unawaited}
use Rattle.bsc_node_core.proofs.state.State.meet_direct.Goals as goal

pub returns-then-awaits_peer : goal.returns-then-awaits_peer
returns-then-awaits_peer c = on_ok_weaker c.meet_slot.result
    (λ g b L r nm u told.
    met-awaited b _ _ L c.args.k c.args.who (sym (c.awaits_peer.ensures.told (slot_calls L) told.stands.direct) ∙ c.if-awaits_peer.true) (g b L r u told))
    c.meet_slot.ensures

pub returns-else-awaits_peer : goal.returns-else-awaits_peer
returns-else-awaits_peer c = on_ok_weaker c.close_link.result
    (λ g b L r nm u told.
    met-unawaited b _ _ L c.args.k c.args.who (sym (c.awaits_peer.ensures.told (slot_calls L) told.stands.direct) ∙ c.if-awaits_peer.false) (g b L r nm told.stands))
    c.close_link.ensures
