use Rattle.bsc_node.specs.declared.link_name.LinkName.TheVariants.{Direct}
use Rattle.bsc_node.specs.Logs.{Log, after}
use Rattle.bsc_node.specs.Ending.{finishes_link}
use Rattle.bsc_node_core.specs.Resting.{IsAtRest}
use Rattle.bsc_node_core.specs.Standing.{Base, Stands}
use Rattle.bsc_node_core.proofs.EachSlot.{slot_rules}
use Rattle.bsc_node_core.proofs.state.State.finish_slots.Given as goal

-- The rules of the slots so far have been followed.
abbrev pub invariant-loop-k : goal.invariant-loop-k
invariant-loop-k l =
    (b : Base) (L : Log) → IsAtRest l.at b → Stands b l.initial.out l.initial.self L
    → Stands b l.out l.self (after (slot_rules (λ k. finishes_link b.made (Direct k)) l.k) L)
