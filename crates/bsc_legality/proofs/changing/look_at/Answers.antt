use Rattle.std.proofs.Common.{◌∙◌, [], ◌∷◌, ap, sym}
use Rattle.bsc_legality.specs.declared.row.Row.{Row}
use Rattle.bsc_legality.specs.Following.{seen}
use Rattle.bsc_legality.proofs.Changes.{placed, row_with, seen_here, seen_still, unplaced}
use Rattle.bsc_legality.proofs.changing.look_at.Goals as goal

pub returns-in-Some : goal.returns-in-Some
returns-in-Some c =
    let k = c.args.look.now in
    let r = c.index-rows-place.result in
    placed (seen (k ∷ [])) k.conn c.args.rows.now c.in-Some.place r _ (seen_still k) c.requires (sym c.in-Some.ensures) c.index-rows-place.is
    (λ h. ap (λ (g : Row). row_with g.connection g.ending g.entered k.taken) (sym c.index-rows-place.is) ∙ seen_here k r h)

pub returns-in-None : goal.returns-in-None
returns-in-None c = let k = c.args.look.now in unplaced (seen (k ∷ [])) k.conn c.args.rows.now (seen_still k) (sym c.in-None.ensures)
