use Rattle.std.proofs.Common.{◌∙◌}
use Rattle.bsc_node.specs.Hubs.{waits, hub_events}
use Rattle.bsc_node_core.proofs.Lines.{told-at}
use Rattle.bsc_node_core.proofs.state.State.told.Goals as goal

pub returns : goal.returns
returns c = λ b out L n h.
    told-at b out c.args.self.now L c.args.now c.args.event _ _ _ _ (h.now ∙ n) c.renewals_after-self.ensures c.dropped_after-self.ensures
    (c.event.ensures.step (waits b.made) (hub_events L) h.connector) h
