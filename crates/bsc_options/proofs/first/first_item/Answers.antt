use Rattle.std.proofs.Common.{sym, subst, arith}
use Rattle.std.proofs.lemmas.List.{nil_from_length}
use Rattle.bsc_options.specs.Walk.{IsCutData, IsCutItem}
use Rattle.bsc_options.proofs.Missing.{cut_marker, cut_item}
use Rattle.bsc_options.proofs.first.first_item.Goals as goal

pub returns-in_err-marker-clause-none : goal.returns-in_err-marker-clause-none
returns-in_err-marker-clause-none c =
    rw c.from_residual.ensures (subst IsCutItem (sym (nil_from_length c.args.o.now c.in_err-marker.ensures.cases)) cut_marker)

pub returns-in_err-content-clause-none : goal.returns-in_err-content-clause-none
returns-in_err-content-clause-none c =
    let cut = subst (λ b. IsCutData b c.in_ok-marker.rest.now) c.has_data.ensures c.in_err-content.ensures.none in
    rw c.from_residual-in_err-content.ensures (cut_item c.args.o.now c.in_ok-marker.marker.now c.in_ok-marker.rest.now
    (λ i. let f = c.type_inv.o i in omega (arith, f)) c.in_ok-marker.ensures.cases.0 cut)
