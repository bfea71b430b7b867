use Rattle.bsc_node_core.proofs.Starting.{none-in-slots}
use Rattle.bsc_node_core.proofs.links.Links.make.Goals as goal

pub returns-clause-slots : goal.returns-clause-slots
returns-clause-slots c = λ k. none-in-slots c.in_ok-vec.field-0.items c.none-none.result k c.none-none.ensures (c.in_ok-vec.ensures.items_if_clones_equal (λ y e. e))
