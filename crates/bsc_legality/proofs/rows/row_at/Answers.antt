use Rattle.std.proofs.Common.{sym, ◌∙◌}
use Rattle.bsc_legality.proofs.Places.{find_placed, no_find}
use Rattle.bsc_legality.proofs.rows.row_at.Goals as goal

pub returns-in-Some : goal.returns-in-Some
returns-in-Some c p is = sym (find_placed p c.args.rows.now c.in-Some.place c.index-rows-place.result (sym is ∙ c.in-Some.is) c.index-rows-place.is)

pub returns-in-None : goal.returns-in-None
returns-in-None c p is = sym (no_find p c.args.rows.now (sym is ∙ c.in-None.is))
