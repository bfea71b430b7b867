use Rattle.std.proofs.Common.{◌≡◌, ◌+◌, IsTrue, None, ap, ◌∙◌}
use Rattle.std.specs.List.{list_all}
use Rattle.bsc_desk.specs.declared.connecting.NewRow.{NewRow}
use Rattle.bsc_desk.specs.Directories.{gives_place}
use Rattle.bsc_desk.proofs.Choosing.{chosen, if_both}
use Rattle.bsc_desk.proofs.Newest.{free_by}
use Rattle.bsc_desk.proofs.desk.Desk.choose.Goals as goal

pub returns-clause-reply : goal.returns-clause-reply
returns-clause-reply c S p = let k = chosen c.args.self.now S c.args.who.now p in cc

pub returns-clause-free : goal.returns-clause-free
returns-clause-free c =
    let d = c.args.self.now in
    let who = c.args.who.now in
    let joined : NewRow = record { conn = 1 + d.tally.counts.joined; replaced = c.number_of.result } in
    if_both c.first_case.result (λ row. c.rival-held.result ≡ None) (λ row. row ≡ joined)
    (λ row. IsTrue (list_all (gives_place who row.replaced) d.rows.items)) c.first_case.ensures.rival c.first_case.ensures.row (λ row none is.
    free_by d.rows.items d.tally.counts.joined d.directory who c.holder.result c.of_device.result c.rival-held.result row.replaced d.filed c.holder.ensures c.of_device.ensures
    c.rival-held.ensures none (ap (λ (r : NewRow). r.replaced) is ∙ c.number_of.ensures))
