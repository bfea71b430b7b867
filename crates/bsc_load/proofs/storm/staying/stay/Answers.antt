use Rattle.std.proofs.Common.{[], Ok, sym, subst}
use Rattle.bsc_octets.specs.declared.identity.Identity.{Identity}
use Rattle.bsc_turn.specs.Passes.{number_of}
use Rattle.bsc_hub.specs.Calls.{connect_made}
use Rattle.bsc_hub.specs.Passing.{Passed}
use Rattle.bsc_load.specs.Inner.{Unjoined, cut_of as load_cut_of}
use Rattle.bsc_load.proofs.Unjoined.{unjoined}
use Rattle.bsc_load.specs.declared.storm.works.Cut.{Cut}
use Rattle.bsc_load.specs.Storm.Inner.{NoStay}
use Rattle.bsc_load.proofs.StormFacts.Stays.{no_stay, stays_once}
use Rattle.bsc_load.proofs.storm.staying.stay.Goals as goal

pub returns-in-Err : goal.returns-in-Err
returns-in-Err g c =
    let h = c.args.hub.now in
    let p = c.args.pass.now in
    let q = c.connect.new.pass in
    let refusal = c.in-Err.refusal in
    let none = unjoined h p q c.taken_over.result refusal c.requires c.in-Err.ensures.pass c.in-Err.ensures.due in
    subst (λ (cut : Cut). NoStay h p q cut) (sym c.cut_of.ensures)
    (no_stay h p q refusal (subst (λ (who : Identity). Unjoined h who p q (load_cut_of refusal)) c.taken_over.ensures none))

pub returns-in-Ok : goal.returns-in-Ok
returns-in-Ok g c =
    let h = c.args.hub.now in
    let p = c.args.pass.now in
    let m = c.connect.new.pass in
    let j = c.in-Ok.joined in
    stays_once h p m c.leave-told.new.pass j c.take_some.new.outlet c.leave-told.result
    (subst (λ (who : Identity). Passed h p [] (connect_made (number_of p) who (Ok j)) m) c.taken_over.ensures c.in-Ok.ensures.pass)
    c.leave-told.ensures.pass c.take_some.ensures.took c.leave-told.ensures.taken c.leave-told.ensures.found
