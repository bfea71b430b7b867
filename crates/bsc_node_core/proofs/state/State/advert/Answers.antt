use Rattle.bsc_node.specs.Hubs.{waits, hub_events}
use Rattle.bsc_node_core.proofs.Receipts.{advert-is}
use Rattle.bsc_node_core.proofs.state.State.advert.Goals as goal

pub returns-clause-told : goal.returns-clause-told
returns-clause-told c = λ b out L l h.
    advert-is b out c.args.self.now L c.args.limits.now _ _ _ l (c.hub_use.ensures (waits b.made) (hub_events L) h.connector) c.hub_status.ensures.status c.accepts.ensures.accepts h
