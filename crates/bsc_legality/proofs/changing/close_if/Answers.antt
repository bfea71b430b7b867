use Rattle.std.proofs.Common.{◌∙◌, ℕ, Option, None, Some, ap, cond}
use Rattle.bsc_history.specs.Ends.{is_one}
use Rattle.bsc_legality.specs.Following.{closed_as}
use Rattle.bsc_legality.proofs.Changes.{closed_none, map_each}
use Rattle.bsc_legality.proofs.changing.close_if.Goals as goal

pub returns-in-None : goal.returns-in-None
returns-in-None c = map_each _ c.args.rows.now (λ r. ap (λ (o : Option ℕ). closed_as (cond (is_one r.connection.number o) (Some c.args.ending) None) r) c.in-None.is ∙ closed_none r)
