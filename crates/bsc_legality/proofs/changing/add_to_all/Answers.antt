use Rattle.std.proofs.Common.{◌∙◌, ◌^◌, nat_lt, [], ◌∷◌, ap, map, refl, take}
use Rattle.std.specs.List.{list_all}
use Rattle.bsc_legality.specs.declared.row.Row.{Row}
use Rattle.bsc_legality.specs.Following.{added_to}
use Rattle.bsc_legality.specs.Rows.{rising}
use Rattle.bsc_legality.proofs.Changes.{added_more, added_none, few_added, map_each, rising-map}
use Rattle.bsc_legality.proofs.changing.add_to_all.Goals as goal

pub loop-conn-init : goal.loop-conn-init
loop-conn-init c = map_each (added_to []) c.args.rows.now added_none

pub add_to-requires-clause-rising : goal.add_to-requires-clause-rising
add_to-requires-clause-rising c = ap rising c.loop-conn.invariant ∙ rising-map (added_to (take c.loop-conn.conn-index c.args.to.now)) c.args.rows.now (λ r. refl) ∙ c.requires.rising

pub add_to-requires-clause-few : goal.add_to-requires-clause-few
add_to-requires-clause-few c = ap (list_all (λ (r : Row). nat_lt r.entered (2 ^ 53))) c.loop-conn.invariant ∙ few_added (take c.loop-conn.conn-index c.args.to.now) c.args.rows.now c.requires.few

pub loop-conn-preserved : goal.loop-conn-preserved
loop-conn-preserved c = c.add_to.ensures ∙ ap (map (added_to (_ ∷ []))) c.loop-conn.invariant ∙ added_more c.args.to.now c.loop-conn.conn-index _ c.args.rows.now c.requires.once c.loop-conn-test.true
