use Rattle.std.proofs.Common.{◌∙◌}
use Rattle.std.proofs.lemmas.Result.{on_ok_weaker}
use Rattle.std.proofs.lemmas.Bool.{lt-ltb}
use Rattle.bsc_direct.specs.declared.bounds.TheConstants.{SLOTS}
use Rattle.bsc_node.specs.declared.link_name.LinkName.TheVariants.{Direct}
use Rattle.bsc_node.specs.Ways.{slot_calls}
use Rattle.bsc_node_core.specs.Telling.{busy_with}
use Rattle.bsc_node_core.proofs.Meets.{answer-is, same-joined, taken-up, taken-down, with_joined, with_refused}
use Rattle.bsc_node_core.proofs.state.State.meet_taken.Goals as goal

pub returns-in_ok-join-in-Up : goal.returns-in_ok-join-in-Up
returns-in_ok-join-in-Up c = on_ok_weaker c.come_up.result
    (λ g b L r is h.
    let e = answer-is (busy_with (Direct c.args.k) b) c.args.out.now c.args.self.now L c.args.k c.args.who _ (c.establishes.ensures (slot_calls L) h.direct) h ∙ c.in-Up.is in
    taken-up b _ _ L c.args.k c.args.who _ e
    (g b (with_joined b.made c.args.k L) _ r (same-joined b.made c.args.k c.args.who L ∙ e) (c.in_ok-join-in-Up.ensures.goes b L r.2 (lt-ltb c.args.k SLOTS c.requires.claimed.within) is h)))
    c.come_up.ensures

pub returns-in_ok-refuse-in-Duplicate : goal.returns-in_ok-refuse-in-Duplicate
returns-in_ok-refuse-in-Duplicate c = on_ok_weaker c.end.result
    (λ g b L r is h.
    let e = answer-is (busy_with (Direct c.args.k) b) c.args.out.now c.args.self.now L c.args.k c.args.who _ (c.establishes.ensures (slot_calls L) h.direct) h in
    taken-down b _ _ L c.args.k c.args.who _ e c.in-Duplicate.is
    (g b (with_refused b.made c.args.k L) r (c.in_ok-refuse-in-Duplicate.ensures b L r.2 (lt-ltb c.args.k SLOTS c.requires.claimed.within) is h)))
    c.end.ensures
