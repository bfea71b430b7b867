use Rattle.std.proofs.Common.{◌∙◌, Option, Some, ap, get_or, sym}
use Rattle.bsc_history.specs.declared.ending.End.{End}
use Rattle.bsc_legality.specs.Following.{closed_as}
use Rattle.bsc_legality.proofs.Changes.{closed_here, closed_if, closed_still, placed, row_with, unplaced}
use Rattle.bsc_legality.proofs.changing.close_one.Goals as goal

pub returns-in-Some : goal.returns-in-Some
returns-in-Some c =
    let n = c.args.conn in
    let e = c.args.ending in
    let r = c.index-rows-place.result in
    let g = get_or c.args.rows.now c.in-Some.place r in
    placed (closed_if n e) n c.args.rows.now c.in-Some.place r _ (closed_still n e) c.requires (sym c.in-Some.ensures) c.index-rows-place.is
    (λ h. ap (λ (o : Option End). row_with g.connection o g.entered g.looked) c.or-row.ensures ∙ ap (closed_as (Some e)) (sym c.index-rows-place.is) ∙ closed_here n e r h)

pub returns-in-None : goal.returns-in-None
returns-in-None c = let n = c.args.conn in let e = c.args.ending in unplaced (closed_if n e) n c.args.rows.now (closed_still n e) (sym c.in-None.ensures)
