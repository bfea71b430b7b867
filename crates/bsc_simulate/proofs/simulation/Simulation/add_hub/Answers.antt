-- A hub is added.
use Rattle.std.proofs.Common.{refl, sym}
use Rattle.bsc_simulate.proofs.Held.{hub_added}
use Rattle.bsc_simulate.proofs.simulation.Simulation.add_hub.Goals as goal

pub returns : goal.returns
returns c = λ s b h.
    hub_added c.args.self.now _ s c.args.who h (sym c.if-not-may_add_hub.ensures) (λ added stood. c.in_ok-add_hub.ensures.ok added stood)
    c.add_hub.ensures.clock c.add_hub.ensures.spent refl refl refl refl b
