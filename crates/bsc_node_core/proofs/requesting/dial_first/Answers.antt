use Rattle.std.proofs.Common.{refl, ap, sym, ◌∙◌, not, [], ◌∷◌, ◌++◌, Some, ℕ}
use Rattle.std.proofs.lemmas.Result.{on_ok_weaker}
use Rattle.bsc_direct.specs.declared.call.SlotCall.TheVariants.{Claim}
use Rattle.bsc_direct.specs.Slots.{is_claimed}
use Rattle.bsc_node.specs.declared.node_limits.NodeLimits.{NodeLimits}
use Rattle.bsc_node.specs.Logs.{slot}
use Rattle.bsc_node.specs.Ways.{slot_calls}
use Rattle.bsc_node_core.specs.Resolving.{asked_by}
use Rattle.bsc_node_core.proofs.Wants.{slot-within}
use Rattle.bsc_node_core.proofs.Claiming.{claim-stands}
use Rattle.bsc_node_core.proofs.Connecting.{both-undialled, both-dialled}
use Rattle.bsc_node_core.proofs.requesting.dial_first.Goals as goal

pub returns-in-None : goal.returns-in-None
returns-in-None c = on_ok_weaker c.tell.result
    (λ t b L text free m n e l f h.
    both-undialled b c.args.out.now _ c.args.state.now c.args.resolve.now L c.args.v text free e l f
    (sym c.in-None.is ∙ c.in_ok-learnt_uri.ensures b.made.limits.times.connect_wait L 0 refl h.resolution) t h)
    c.tell.ensures

pub returns-in-Ok : goal.returns-in-Ok
returns-in-Ok c = on_ok_weaker c.dial.result
    (λ g b L text free m n e l f h.
    let a = c.in-Ok.ensures.claimed (slot_calls L) h.state.direct in
    let name = slot-within (λ (j : ℕ). not (is_claimed (slot_calls L) j)) c.in-Ok.k a.0 in
    both-dialled b c.args.out.now _ c.args.state.now _ c.args.resolve.now L c.args.v text c.in-Some.uri c.in-Ok.k e l a.0
    (sym c.in-Some.is ∙ c.in_ok-learnt_uri.ensures b.made.limits.times.connect_wait L 0 refl h.resolution)
    (g (asked_by L b) (L ++ slot (Claim c.in-Ok.k (Some c.args.v)) ∷ []) (ap (λ (x : NodeLimits). x.times) m) n name
    (claim-stands (asked_by L b) c.args.out.now c.args.state.now L c.in-Ok.k (Some c.args.v) _ _ a.1 c.claim-in-Ok.ensures.sets c.claim-in-Ok.ensures.touches h.state)) h)
    c.dial.ensures
