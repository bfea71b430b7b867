use Rattle.std.proofs.Common.{[], Some, Ok, ap, sym, ◌∙◌, subst}
use Rattle.bsc_octets.specs.declared.identity.Identity.{Identity}
use Rattle.bsc_ring.specs.Ends.{outlet_mark}
use Rattle.bsc_turn.specs.Passes.{number_of}
use Rattle.bsc_hub.specs.Calls.{connect_made}
use Rattle.bsc_hub.specs.Passing.{IsOwnAs, Passed}
use Rattle.bsc_hub.proofs.Staying.{connect_stays}
use Rattle.bsc_load.specs.declared.jobs.Cut.{Cut}
use Rattle.bsc_load.specs.Inner.{CutBoth, Unjoined, cut_of}
use Rattle.bsc_load.specs.Peers.{sender}
use Rattle.bsc_load.proofs.Both.{after_both, forwards_went}
use Rattle.bsc_load.proofs.Going.{holds_by, mark_later}
use Rattle.bsc_load.proofs.Unjoined.{both_unjoined, unjoined}
use Rattle.bsc_load.proofs.worker.run_both.Goals as goal

pub forward_all-octets-requires-clause-own : goal.forward_all-octets-requires-clause-own
forward_all-octets-requires-clause-own g c =
    let p = c.args.pass.now in
    let j = c.in-Ok.joined in
    let who = c.receiver.result in
    holds_by c.args.hub.now p c.connect.new.pass (connect_made (number_of p) who (Ok j)) c.requires.caller c.in-Ok.ensures.pass (connect_stays (number_of p) who (Ok j)) c.args.conn
    (sender c.args.i).vmac c.requires.own

pub leave-requires-clause-caller : goal.leave-requires-clause-caller
leave-requires-clause-caller g c =
    (forwards_went c.args.hub.now c.args.i c.args.conn c.connect.new.pass c.forward_all-octets.new.pass c.forward_all-octets.new.outlet c.forward_all-octets.result c.forward_all-octets.ensures.ran).0

pub leave-requires-clause-own : goal.leave-requires-clause-own
leave-requires-clause-own g c =
    let went = forwards_went c.args.hub.now c.args.i c.args.conn c.connect.new.pass c.forward_all-octets.new.pass c.forward_all-octets.new.outlet c.forward_all-octets.result
    c.forward_all-octets.ensures.ran in
    let has = went.2 c.in-Ok.joined.conn c.receiver.result.vmac c.in-Ok.ensures.owns in
    has.0

pub leave-requires-clause-mark : goal.leave-requires-clause-mark
leave-requires-clause-mark g c =
    let went = forwards_went c.args.hub.now c.args.i c.args.conn c.connect.new.pass c.forward_all-octets.new.pass c.forward_all-octets.new.outlet c.forward_all-octets.result
    c.forward_all-octets.ensures.ran in
    mark_later c.connect.new.pass c.forward_all-octets.new.pass c.in-Ok.joined.conn (outlet_mark c.in-Ok.joined.outlet) went.1 c.in-Ok.ensures.mark ∙ ap Some (sym c.forward_all-octets.ensures.mark)

pub returns-in-Err : goal.returns-in-Err
returns-in-Err g c =
    let h = c.args.hub.now in
    let p = c.args.pass.now in
    let q = c.connect.new.pass in
    let refusal = c.in-Err.refusal in
    let none = unjoined h p q c.receiver.result refusal c.requires.caller c.in-Err.ensures.pass c.in-Err.ensures.due in
    subst (λ (cut : Cut). CutBoth h c.args.i c.args.conn p q cut) (sym c.cut_of.ensures)
    (both_unjoined h c.args.i c.args.conn p q (cut_of refusal) c.requires.own (subst (λ (who : Identity). Unjoined h who p q (cut_of refusal)) c.receiver.ensures none))

pub returns-in-Ok : goal.returns-in-Ok
returns-in-Ok g c =
    let h = c.args.hub.now in
    let p = c.args.pass.now in
    let m = c.connect.new.pass in
    let j = c.in-Ok.joined in
    after_both h c.args.i c.args.conn p m c.forward_all-octets.new.pass c.leave.new.pass j c.forward_all-octets.new.outlet c.leave.result c.forward_all-octets.result
    c.requires.index c.requires.caller c.requires.own
    (subst (λ (who : Identity). Passed h p [] (connect_made (number_of p) who (Ok j)) m) c.receiver.ensures c.in-Ok.ensures.pass)
    (subst (λ (who : Identity). IsOwnAs m j.conn who.vmac) c.receiver.ensures c.in-Ok.ensures.owns)
    c.forward_all-octets.ensures.ran c.leave.ensures.pass c.leave.ensures.taken c.leave.ensures.given c.leave.ensures.found
