use Rattle.std.proofs.Common.{◌∙◌, ◌+◌, [], ◌∷◌, ap, sym}
use Rattle.bsc_legality.specs.declared.row.Row.{Row}
use Rattle.bsc_legality.specs.Following.{added_to}
use Rattle.bsc_legality.proofs.Changes.{added_here, added_still, placed, row_with, unplaced}
use Rattle.bsc_legality.proofs.changing.add_to.Goals as goal

pub returns-in-Some : goal.returns-in-Some
returns-in-Some c =
    let n = c.args.conn in
    let r = c.index-rows-place.result in
    placed (added_to (n ∷ [])) n c.args.rows.now c.in-Some.place r _ (added_still n) c.requires.rising (sym c.in-Some.ensures) c.index-rows-place.is
    (λ h. ap (λ (g : Row). row_with g.connection g.ending (g.entered + 1) g.looked) (sym c.index-rows-place.is) ∙ added_here n r h)

pub returns-in-None : goal.returns-in-None
returns-in-None c = let n = c.args.conn in unplaced (added_to (n ∷ [])) n c.args.rows.now (added_still n) (sym c.in-None.ensures)
