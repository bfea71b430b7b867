use Rattle.std.proofs.Common.{◌≡◌, ℕ, subst, arith}
use Rattle.std.proofs.lemmas.Bool.{lt-ltb}
use Rattle.bsc_direct.specs.declared.bounds.TheConstants.{SLOTS}
use Rattle.bsc_node.specs.declared.link_name.LinkName.TheVariants.{Direct}
use Rattle.bsc_node.specs.Logs.{after}
use Rattle.bsc_node.specs.Events.{ticks_link}
use Rattle.bsc_node_core.specs.Standing.{Stands}
use Rattle.bsc_node_core.proofs.EachSlot.{slot_rules, slots-more, slots-all}
use Rattle.bsc_node_core.proofs.state.State.tick_slots.Goals as goal

pub loop-k-init : goal.loop-k-init
loop-k-init c = λ b L r h. h

pub loop-k-preserved : goal.loop-k-preserved
loop-k-preserved c = λ b L r h.
    slots-more (Stands b _ _) (λ k. ticks_link b.made (Direct k)) c.loop-k.k L
    (c.in_ok-tick_link.ensures b (after (slot_rules (λ k. ticks_link b.made (Direct k)) c.loop-k.k) L) r (lt-ltb c.loop-k.k SLOTS c.loop-k-test.true) (c.loop-k.invariant b L r h))

pub returns : goal.returns
returns c = λ b L r h.
    let past = c.loop-k-test.false in
    let end = c.loop-k.auto.k-end in
    let all : c.loop-k.k ≡ SLOTS = omega (arith, past, end) in
    slots-all (Stands b _ _) (λ k. ticks_link b.made (Direct k)) L
    (subst (λ (n : ℕ). Stands b c.loop-k.out c.loop-k.self (after (slot_rules (λ k. ticks_link b.made (Direct k)) n) L)) all (c.loop-k.invariant b L r h))
