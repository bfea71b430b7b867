use Rattle.std.proofs.Common.{ap, sym, subst, not, [], ◌∷◌, ◌++◌, None, ℕ}
use Rattle.std.proofs.lemmas.Result.{on_ok_weaker}
use Rattle.std.proofs.lemmas.Bool.{ltb-true}
use Rattle.bsc_direct.specs.declared.bounds.TheConstants.{SLOTS}
use Rattle.bsc_direct.specs.declared.direct.Direct.{Direct as SlotTable}
use Rattle.bsc_direct.specs.declared.call.SlotCall.TheVariants.{Claim}
use Rattle.bsc_direct.specs.Slots.{is_claimed}
use Rattle.bsc_node.specs.declared.node_limits.NodeLimits.{NodeLimits}
use Rattle.bsc_node.specs.Logs.{slot}
use Rattle.bsc_node.specs.Ways.{slot_calls}
use Rattle.bsc_node.specs.Events.{arrives}
use Rattle.bsc_node_core.specs.Standing.{Stands}
use Rattle.bsc_node_core.proofs.Wants.{slot-within}
use Rattle.bsc_node_core.proofs.Claiming.{claim-stands, arrival-stands, refusal-stands}
use Rattle.bsc_node_core.proofs.state.State.arrive.Goals as goal

pub returns-in-Ok : goal.returns-in-Ok
returns-in-Ok c = on_ok_weaker c.take.result
    (λ g b L m n h.
    let a = c.in-Ok.ensures.claimed (slot_calls L) h.direct in
    let within = ltb-true c.in-Ok.k SLOTS (slot-within (λ (j : ℕ). not (is_claimed (slot_calls L) j)) c.in-Ok.k a.0) in
    arrival-stands b _ _ L c.in-Ok.k a.0
    (g b (L ++ slot (Claim c.in-Ok.k None) ∷ []) (ap (λ (l : NodeLimits). l.times) m) n within
    (claim-stands b c.args.out.now c.args.self.now L c.in-Ok.k None _ _ a.1 c.claim-in-Ok.ensures.sets c.claim-in-Ok.ensures.touches h)))
    c.take.ensures

pub returns-in-Err : goal.returns-in-Err
returns-in-Err c = on_ok_weaker c.push.result
    (λ o b L m n h.
    subst (λ (d : SlotTable). Stands b c.push.new.self (record c.args.self.now { direct = d }) (L ++ arrives L)) (sym c.in-Err.ensures.err)
    (refusal-stands b c.args.out.now c.push.new.self c.args.self.now L (c.in-Err.ensures.full.1 (slot_calls L) h.direct) o h))
    c.push.ensures.ok
