use Rattle.std.proofs.Common.{rules, tests}
use Rattle.bsc_direct.specs.declared.bounds.TheConstants.{SLOTS}
use Rattle.bsc_node_run.proofs.Slots.{no_links, no_slots}
use Rattle.bsc_node_run.proofs.link_set.LinkSet.make.Goals as goal

pub returns-clause-links : goal.returns-clause-links
returns-clause-links g c = no_links c.resize_with.new.self.items (no_slots _
    (λ f x k s. search (rules, tests)) c.new-slots.result.items _ SLOTS _ c.new-slots.ensures.items c.in_ok-resize_with.ensures.items)
