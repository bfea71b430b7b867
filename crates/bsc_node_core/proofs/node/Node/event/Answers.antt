use Rattle.std.proofs.Common.{List, sym, subst}
use Rattle.bsc_node.specs.declared.action.Action.{Action}
use Rattle.bsc_node_core.specs.Resolving.{BothStand}
use Rattle.bsc_node_core.specs.declared.state.State.{State}
use Rattle.bsc_node_core.specs.Spares.{KeepsSame}
use Rattle.bsc_node_core.proofs.Between.{answered, unchanged}
use Rattle.bsc_node_core.proofs.node.Node.event.Goals as goal

pub returns-in-Ok-clause-ok : goal.returns-in-Ok-clause-ok
returns-in-Ok-clause-ok c = λ a L h may.
    answered c.args.self.now c.follow.new.self a L c.args.now c.args.event.now c.follow.new.out c.touch_nothing.new.self c.catch_up.new.self c.record_event.new.self c.in-Ok.ensures.limits
    c.in-Ok.ensures.spare c.touch_nothing.ensures c.catch_up.ensures c.record_event.ensures
    (λ b M r f x. c.in-Ok.ensures.goes b M r f (subst (λ (os : List Action). BothStand b os c.record_event.new.self c.args.self.now.resolve M) (sym c.new-out.ensures) x)) h may

pub returns-in-Err-clause-err : goal.returns-in-Err-clause-err
returns-in-Err-clause-err c = λ a L h.
    unchanged c.args.self.now _ a L c.catch_up.new.self c.follow.new.self.state c.in-Err.ensures.limits c.catch_up.ensures
    (subst (λ (s : State). KeepsSame s c.touch_all.new.self) c.in-Err.ensures.spare c.touch_all.ensures.same) c.touch_all.ensures.links c.touch_all.ensures.slots c.catch_up-in-Err.ensures
    c.in-Err.ensures.err h
