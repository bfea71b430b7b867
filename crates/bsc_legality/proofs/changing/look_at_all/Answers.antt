use Rattle.std.proofs.Common.{◌∙◌, [], ◌∷◌, ap, map, refl, take}
use Rattle.bsc_legality.specs.Following.{seen}
use Rattle.bsc_legality.specs.Rows.{rising}
use Rattle.bsc_legality.proofs.Changes.{rising-map, seen_more, seen_none}
use Rattle.bsc_legality.proofs.changing.look_at_all.Goals as goal

pub loop-look-init : goal.loop-look-init
loop-look-init c = seen_none c.args.rows.now

pub look_at-requires : goal.look_at-requires
look_at-requires c = ap rising c.loop-look.invariant ∙ rising-map (seen (take c.loop-look.look-index c.args.looks.now)) c.args.rows.now (λ r. refl) ∙ c.requires

pub loop-look-preserved : goal.loop-look-preserved
loop-look-preserved c = c.look_at.ensures ∙ ap (map (seen (_ ∷ []))) c.loop-look.invariant ∙ seen_more c.args.looks.now c.loop-look.look-index _ c.args.rows.now c.loop-look-test.true
