use Rattle.std.proofs.Common.{◌∙◌}
use Rattle.std.proofs.lemmas.Result.{on_ok_weaker}
use Rattle.std.proofs.lemmas.Bool.{lt-ltb}
use Rattle.bsc_direct.specs.declared.bounds.TheConstants.{SLOTS}
use Rattle.bsc_node.specs.declared.link_name.LinkName.TheVariants.{Direct}
use Rattle.bsc_node.specs.Ways.{slot_calls}
use Rattle.bsc_node_core.proofs.Meets.{answer-is, dialled-up, dialled-down}
use Rattle.bsc_node_core.proofs.Settling.{is_busy}
use Rattle.bsc_node_core.proofs.state.State.meet_dialled.Goals as goal

pub returns-in-Up : goal.returns-in-Up
returns-in-Up c = on_ok_weaker c.come_up.result
    (λ g b L r h.
    let e = answer-is b c.args.out.now c.args.self.now L c.args.k c.args.who _ (c.establishes.ensures (slot_calls L) h.direct) h ∙ c.in-Up.is in
    dialled-up b _ _ L c.args.k c.args.who _ e (g b L _ r e h))
    c.come_up.ensures

pub returns-in-Duplicate : goal.returns-in-Duplicate
returns-in-Duplicate c = on_ok_weaker c.close_link.result
    (λ g b L r h.
    let e = answer-is b c.args.out.now c.args.self.now L c.args.k c.args.who _ (c.establishes.ensures (slot_calls L) h.direct) h in
    dialled-down b _ _ L c.args.k c.args.who _ e c.in-Duplicate.is (g b L r (lt-ltb c.args.k SLOTS c.requires.claimed.within) (is_busy b c.args.out.now c.args.self.now L (Direct c.args.k) r.2 h)))
    c.close_link.ensures
