use Rattle.std.proofs.lemmas.Result.{on_ok_weaker}
use Rattle.std.proofs.Common.{subst}
use Rattle.bsc_resolve.specs.declared.ask_refusal.AskRefusal.{AskRefusal}
use Rattle.bsc_resolve.specs.Standing.{IsAskRefused}
use Rattle.bsc_node_core.specs.Rules.{way_of}
use Rattle.bsc_node_core.proofs.Asking.{both-asked, both-full, both-pending}
use Rattle.bsc_node_core.proofs.requesting.ask.Goals as goal

pub returns-in-Ok-clause-goes : goal.returns-in-Ok-clause-goes
returns-in-Ok-clause-goes c = λ b L n p h.
    rw c.count.ensures (both-asked b c.args.out.now _ c.args.state.now c.args.resolve.now _ L
    (way_of c.args.by) c.args.v _ c.args.at.now.time n p c.in_ok-octets.ensures c.in_ok-push.ensures.ok c.in-Ok.ensures.asked h)

pub returns-in-Err-Full-clause-goes : goal.returns-in-Err-Full-clause-goes
returns-in-Err-Full-clause-goes c = on_ok_weaker c.tell.result
    (λ t b L n p h.
    both-full b c.args.out.now _ _ _ c.args.state.now c.args.resolve.now _ L (way_of c.args.by) c.args.v _ c.in-Err-Full.field-0-0 c.in_ok-push.ensures.ok c.take_back.ensures t p
    (subst (λ (r : AskRefusal). IsAskRefused c.args.resolve.now c.args.v r) c.in-Err-Full.field-0-is c.in-Err-Full.ensures.refused) c.in-Err-Full.ensures.err h)
    c.tell.ensures

pub returns-in-Err-Pending-clause-goes : goal.returns-in-Err-Pending-clause-goes
returns-in-Err-Pending-clause-goes c = on_ok_weaker c.tell-in-Err-Pending.result
    (λ t b L n p h.
    both-pending b c.args.out.now _ _ _ c.args.state.now c.args.resolve.now _ L
    (way_of c.args.by) c.args.v _ c.in-Err-Pending.field-0-0 c.in_ok-push.ensures.ok c.take_back-in-Err-Pending.ensures t p
    (subst (λ (r : AskRefusal). IsAskRefused c.args.resolve.now c.args.v r) c.in-Err-Pending.field-0-is c.in-Err-Pending.ensures.refused)
    c.in-Err-Pending.ensures.err h)
    c.tell-in-Err-Pending.ensures
