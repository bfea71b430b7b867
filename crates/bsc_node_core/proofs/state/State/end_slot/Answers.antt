use Rattle.std.proofs.Common.{◌++◌, refl}
use Rattle.bsc_direct.specs.declared.call.SlotCall.TheVariants.{Release}
use Rattle.bsc_node.specs.Ways.{slot_calls}
use Rattle.bsc_node_core.specs.Rules.{tells_down}
use Rattle.bsc_node_core.proofs.Lines.{slot-stands}
use Rattle.bsc_node_core.proofs.Claiming.{ended-stands}
use Rattle.bsc_node_core.proofs.state.State.end_slot.Goals as goal

pub returns : goal.returns
returns c = λ b L h.
    let M = L ++ tells_down c.args.k L in
    let s = c.in_ok-tell_down.ensures b L h in
    ended-stands b _ _ L c.args.k (slot-stands b _ _ M (Release c.args.k) _ (λ j. refl) (c.release.ensures.stands (slot_calls M) s.direct) s)
