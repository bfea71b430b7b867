use Rattle.std.proofs.Common.{subst}
use Rattle.std.proofs.lemmas.Result.{on_ok_weaker}
use Rattle.bsc_node.specs.declared.node_event.NodeEvent.{NodeEvent}
use Rattle.bsc_node_core.specs.Events.{MayFollow}
use Rattle.bsc_node_core.specs.Resolving.{asked_by}
use Rattle.bsc_node_core.proofs.Followed.{by-both, by-state}
use Rattle.bsc_node_core.proofs.Settling.{is_busy}
use Rattle.bsc_node_core.proofs.node.Node.follow.Goals as goal

pub returns-in-Start-clause-goes : goal.returns-in-Start-clause-goes
returns-in-Start-clause-goes c = on_ok_weaker c.tell_connector.result
    (λ g b L r may h. by-state b _ _ c.args.self.now.resolve L c.args.event.now _ c.in-Start.is h.resolution (g (asked_by L b) L r h.state))
    c.tell_connector.ensures

pub returns-in-Arrived-clause-goes : goal.returns-in-Arrived-clause-goes
returns-in-Arrived-clause-goes c = on_ok_weaker c.arrive.result
    (λ g b L r may h. by-state b _ _ c.args.self.now.resolve L c.args.event.now _ c.in-Arrived.is h.resolution (g (asked_by L b) L r.0 r.1 h.state))
    c.arrive.ensures

pub returns-in-Lost-clause-goes : goal.returns-in-Lost-clause-goes
returns-in-Lost-clause-goes c = on_ok_weaker c.end.result
    (λ g b L r may h. by-state b _ _ c.args.self.now.resolve L c.args.event.now _ c.in-Lost.is h.resolution (g (asked_by L b) L r h.state))
    c.end.ensures

pub returns-in-Send-clause-goes : goal.returns-in-Send-clause-goes
returns-in-Send-clause-goes c = on_ok_weaker c.send.result
    (λ g b L r may h. by-state b _ _ c.args.self.now.resolve L c.args.event.now _ c.in-Send.is h.resolution (g (asked_by L b) L h.state))
    c.send.ensures

pub returns-in-Solicit-clause-goes : goal.returns-in-Solicit-clause-goes
returns-in-Solicit-clause-goes c = on_ok_weaker c.solicit.result
    (λ g b L r may h. by-state b _ _ c.args.self.now.resolve L c.args.event.now _ c.in-Solicit.is h.resolution (g (asked_by L b) L h.state))
    c.solicit.ensures

pub returns-in-Finish-clause-goes : goal.returns-in-Finish-clause-goes
returns-in-Finish-clause-goes c = on_ok_weaker c.finish.result
    (λ g b L r may h. by-state b _ _ c.args.self.now.resolve L c.args.event.now _ c.in-Finish.is h.resolution (g (asked_by L b) L r h.state))
    c.finish.ensures

pub returns-in-Random-clause-goes : goal.returns-in-Random-clause-goes
returns-in-Random-clause-goes c = on_ok_weaker c.renew.result
    (λ g b L r may h. by-state b _ _ c.args.self.now.resolve L c.args.event.now _ c.in-Random.is h.resolution (g (asked_by L b) L r h.state))
    c.renew.ensures

pub returns-in-NoRandom-clause-goes : goal.returns-in-NoRandom-clause-goes
returns-in-NoRandom-clause-goes c = on_ok_weaker c.keep_vmac.result
    (λ g b L r may h. by-state b _ _ c.args.self.now.resolve L c.args.event.now _ c.in-NoRandom.is h.resolution (g (asked_by L b) L r h.state))
    c.keep_vmac.ensures

pub returns-in-Opened-clause-goes : goal.returns-in-Opened-clause-goes
returns-in-Opened-clause-goes c = on_ok_weaker c.open.result
    (λ g b L r may h. let k = subst (λ (ev : NodeEvent). MayFollow ev L) c.in-Opened.is may in
    by-state b _ _ c.args.self.now.resolve L c.args.event.now _ c.in-Opened.is h.resolution (g (asked_by L b) L r k.0 k.1 h.state))
    c.open.ensures

pub returns-in-DialFailed-clause-goes : goal.returns-in-DialFailed-clause-goes
returns-in-DialFailed-clause-goes c = on_ok_weaker c.fail_dial.result
    (λ g b L r may h. by-both b _ _ c.args.self.now.resolve L c.args.event.now _ c.in-DialFailed.is (g b L r (subst (λ (ev : NodeEvent). MayFollow ev L) c.in-DialFailed.is may) h))
    c.fail_dial.ensures

pub returns-in-Came-clause-goes : goal.returns-in-Came-clause-goes
returns-in-Came-clause-goes c = on_ok_weaker c.hear.result
    (λ g b L r may h. let k = subst (λ (ev : NodeEvent). MayFollow ev L) c.in-Came.is may in by-both b _ _ _ L c.args.event.now _ c.in-Came.is (g b L r k.0 k.1 h))
    c.hear.ensures.goes

pub returns-in-CameText-clause-goes : goal.returns-in-CameText-clause-goes
returns-in-CameText-clause-goes c = on_ok_weaker c.close_link.result
    (λ g b L r may h. let k = subst (λ (ev : NodeEvent). MayFollow ev L) c.in-CameText.is may in
    by-state b _ _ c.args.self.now.resolve L c.args.event.now _ c.in-CameText.is h.resolution (g (asked_by L b) L r k (is_busy (asked_by L b) _ _ L c.in-CameText.name r.2 h.state)))
    c.close_link.ensures

pub returns-in-Tick-clause-goes : goal.returns-in-Tick-clause-goes
returns-in-Tick-clause-goes c = on_ok_weaker c.pass_time.result
    (λ g b L r may h. by-both b _ _ _ L c.args.event.now _ c.in-Tick.is (g b L r h))
    c.pass_time.ensures.goes

pub returns-in-Resolve-clause-goes : goal.returns-in-Resolve-clause-goes
returns-in-Resolve-clause-goes c = on_ok_weaker c.resolve_vmac.result
    (λ g b L r may h. by-both b _ _ _ L c.args.event.now _ c.in-Resolve.is (g b L r.1 h))
    c.resolve_vmac.ensures.goes

pub returns-in-DirectTo-clause-goes : goal.returns-in-DirectTo-clause-goes
returns-in-DirectTo-clause-goes c = on_ok_weaker c.connect_to.result
    (λ g b L r may h. by-both b _ _ _ L c.args.event.now _ c.in-DirectTo.is (g b L r.0 r.1 h))
    c.connect_to.ensures
