use Rattle.std.proofs.Common.{true, ◌*◌, [], Ok, Err, sym, subst}
use Rattle.bsc_octets.specs.declared.identity.Identity.{Identity}
use Rattle.bsc_ring.specs.Ends.{outlet_mark}
use Rattle.bsc_turn.specs.Passes.{number_of}
use Rattle.bsc_hub.specs.Calls.{connect_made}
use Rattle.bsc_hub.specs.Passing.{Passed}
use Rattle.bsc_load.specs.Inner.{Unjoined, cut_of as load_cut_of}
use Rattle.bsc_load.proofs.Going.{mark_later}
use Rattle.bsc_load.proofs.Unjoined.{unjoined}
use Rattle.bsc_load.specs.declared.storm.works.Cut.{Cut}
use Rattle.bsc_load.specs.Storm.Inner.{StormWorkerRuns}
use Rattle.bsc_load.proofs.StormFacts.Forwarding.{after_send, sent_went, unsent}
use Rattle.bsc_load.proofs.storm.sending.send.Goals as goal

pub leave-requires-clause-caller : goal.leave-requires-clause-caller
leave-requires-clause-caller g c = (sent_went c.args.hub.now c.in-Ok.joined.conn
    (2 * c.args.rounds) c.connect.new.pass c.forward_often-sent.new.pass c.forward_often-sent.result c.forward_often-sent.ensures).0

pub leave-requires-clause-own : goal.leave-requires-clause-own
leave-requires-clause-own g c =
    let went = sent_went c.args.hub.now c.in-Ok.joined.conn (2 * c.args.rounds) c.connect.new.pass c.forward_often-sent.new.pass c.forward_often-sent.result c.forward_often-sent.ensures in
    (went.2 c.in-Ok.joined.conn c.storm_sender.result.vmac c.in-Ok.ensures.owns).0

pub leave-requires-clause-mark : goal.leave-requires-clause-mark
leave-requires-clause-mark g c =
    let went = sent_went c.args.hub.now c.in-Ok.joined.conn (2 * c.args.rounds) c.connect.new.pass c.forward_often-sent.new.pass c.forward_often-sent.result c.forward_often-sent.ensures in
    mark_later c.connect.new.pass c.forward_often-sent.new.pass c.in-Ok.joined.conn (outlet_mark c.in-Ok.joined.outlet) went.1 c.in-Ok.ensures.mark

pub returns-in-Err : goal.returns-in-Err
returns-in-Err g c =
    let h = c.args.hub.now in
    let p = c.args.pass.now in
    let q = c.connect.new.pass in
    let refusal = c.in-Err.refusal in
    let none = unjoined h p q c.storm_sender.result refusal c.requires.caller c.in-Err.ensures.pass c.in-Err.ensures.due in
    subst (λ (cut : Cut). StormWorkerRuns h true c.args.rounds p q (Err cut)) (sym c.cut_of.ensures)
    (unsent h c.args.rounds p q refusal (subst (λ (who : Identity). Unjoined h who p q (load_cut_of refusal)) c.storm_sender.ensures none))

pub returns-in-Ok : goal.returns-in-Ok
returns-in-Ok g c =
    let h = c.args.hub.now in
    let p = c.args.pass.now in
    let m = c.connect.new.pass in
    let j = c.in-Ok.joined in
    after_send h c.args.rounds p m c.forward_often-sent.new.pass c.leave.new.pass j j.outlet c.leave.result c.forward_often-sent.result
    (subst (λ (who : Identity). Passed h p [] (connect_made (number_of p) who (Ok j)) m) c.storm_sender.ensures c.in-Ok.ensures.pass)
    c.forward_often-sent.ensures c.in-Ok.ensures.outlet c.leave.ensures.pass c.leave.ensures.taken
