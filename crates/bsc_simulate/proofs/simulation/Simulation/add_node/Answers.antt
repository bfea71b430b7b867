-- A node is added.
use Rattle.std.proofs.Common.{refl, sym}
use Rattle.bsc_simulate.proofs.Held.{node_added}
use Rattle.bsc_simulate.proofs.simulation.Simulation.add_node.Goals as goal

pub returns : goal.returns
returns c = λ s b h.
    node_added c.args.self.now _ s c.args.own c.args.direct h (sym c.if-not-may_add_node.ensures) (λ added stood. c.in_ok-add_node.ensures.ok added stood)
    c.add_node.ensures.clock c.add_node.ensures.spent refl refl refl refl b
