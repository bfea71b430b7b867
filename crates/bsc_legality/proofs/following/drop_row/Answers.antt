use Rattle.std.proofs.Common.{◌==◌, not, rules, tests}
use Rattle.std.proofs.lemmas.Fn.{filter_same}
use Rattle.bsc_legality.specs.declared.row.Row.{Row}
use Rattle.bsc_legality.proofs.following.drop_row.Goals as goal

pub returns-clause-items : goal.returns-clause-items
returns-clause-items c = filter_same _ (λ (x : Row). not (c.args.conn == x.connection.number)) _ (λ x b q k. search (rules, tests)) _ _ c.retain.ensures.filtered
