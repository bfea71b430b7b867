use Rattle.std.proofs.Common.{[], Ok, Err, sym, subst}
use Rattle.bsc_octets.specs.declared.identity.Identity.{Identity}
use Rattle.bsc_ring.specs.Ends.{outlet_mark}
use Rattle.bsc_turn.specs.Passes.{number_of}
use Rattle.bsc_hub.specs.Calls.{connect_made}
use Rattle.bsc_hub.specs.Passing.{Passed}
use Rattle.bsc_load.specs.declared.jobs.Cut.{Cut}
use Rattle.bsc_load.specs.Inner.{LoadWorkerRuns, Unjoined, cut_of}
use Rattle.bsc_load.proofs.Both.{both_went}
use Rattle.bsc_load.proofs.Going.{mark_later}
use Rattle.bsc_load.proofs.Running.{after_run}
use Rattle.bsc_load.proofs.Unjoined.{runs_unjoined, unjoined}
use Rattle.bsc_load.proofs.worker.run.Goals as goal

pub leave-requires-clause-caller : goal.leave-requires-clause-caller
leave-requires-clause-caller g c = (both_went c.args.hub.now c.args.i c.in-Ok.joined.conn c.connect.new.pass c.run_both-octets.new.pass c.run_both-octets.result c.run_both-octets.ensures).0

pub leave-requires-clause-mark : goal.leave-requires-clause-mark
leave-requires-clause-mark g c =
    let went = both_went c.args.hub.now c.args.i c.in-Ok.joined.conn c.connect.new.pass c.run_both-octets.new.pass c.run_both-octets.result c.run_both-octets.ensures in
    mark_later c.connect.new.pass c.run_both-octets.new.pass c.in-Ok.joined.conn (outlet_mark c.in-Ok.joined.outlet) went.1 c.in-Ok.ensures.mark

pub returns-in-Err : goal.returns-in-Err
returns-in-Err g c =
    let h = c.args.hub.now in
    let p = c.args.pass.now in
    let q = c.connect.new.pass in
    let refusal = c.in-Err.refusal in
    let none = unjoined h p q c.sender.result refusal c.requires.caller c.in-Err.ensures.pass c.in-Err.ensures.due in
    subst (λ (cut : Cut). LoadWorkerRuns h c.args.i p q (Err cut)) (sym c.cut_of.ensures)
    (runs_unjoined h c.args.i p q (cut_of refusal) (subst (λ (who : Identity). Unjoined h who p q (cut_of refusal)) c.sender.ensures none))

pub returns-in-Ok : goal.returns-in-Ok
returns-in-Ok g c =
    let h = c.args.hub.now in
    let p = c.args.pass.now in
    let m = c.connect.new.pass in
    let j = c.in-Ok.joined in
    after_run h c.args.i p m c.run_both-octets.new.pass c.leave.new.pass j j.outlet c.leave.result c.run_both-octets.result
    (subst (λ (who : Identity). Passed h p [] (connect_made (number_of p) who (Ok j)) m) c.sender.ensures c.in-Ok.ensures.pass)
    c.run_both-octets.ensures c.in-Ok.ensures.outlet c.leave.ensures.pass c.leave.ensures.taken
