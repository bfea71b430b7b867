use Rattle.std.proofs.Common.{◌≡◌, ◌∙◌, Option, Some, ap, arith, get_or, length, sym}
use Rattle.bsc_history.specs.declared.ending.End.{End}
use Rattle.bsc_legality.specs.Following.{closed_as}
use Rattle.bsc_legality.proofs.Changes.{changed_all, changed_next, row_with}
use Rattle.bsc_legality.proofs.changing.close_each.Goals as goal

pub loop-row-preserved : goal.loop-row-preserved
loop-row-preserved c =
    let i = c.loop-row.row-index in
    let r = c.row-item.result in
    let g = get_or c.loop-row.rows i r in
    let is = ap (λ (o : Option End). row_with g.connection o g.entered g.looked) c.or-row.ensures ∙ ap (closed_as (Some c.args.ending)) (sym c.row-item.is) in
    changed_next (closed_as (Some c.args.ending)) i c.args.rows.now c.loop-row.rows r _ c.loop-row-test.true c.loop-row.invariant c.row-item.is is

pub returns : goal.returns
returns c =
    let past = c.loop-row-test.false in
    let end = c.loop-row.auto.row-index-end in
    let all : c.loop-row.row-index ≡ length c.args.rows.now = omega arith in
    changed_all (closed_as (Some c.args.ending)) c.loop-row.row-index c.args.rows.now c.loop-row.rows all c.loop-row.invariant
