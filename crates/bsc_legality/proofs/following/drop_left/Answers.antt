use Rattle.bsc_legality.proofs.Changes.{none_leaves}
use Rattle.bsc_legality.proofs.following.drop_left.Goals as goal

pub returns-in_default-clause-items : goal.returns-in_default-clause-items
returns-in_default-clause-items c = none_leaves c.args.call.now c.args.rows.now.items c.in_default.not-Leave
