use Rattle.std.proofs.Common.{◌∙◌, ap, Option}
use Rattle.bsc_legality.specs.declared.row.Row.{Row}
use Rattle.bsc_legality.specs.Rows.{is_by}
use Rattle.bsc_legality.proofs.Owners.{is_by_row}
use Rattle.bsc_legality.proofs.rows.is_of.Goals as goal

pub returns : goal.returns
returns c = c.is_by.ensures ∙ ap (λ (o : Option Row). is_by o c.args.caller) c.row_of.ensures ∙ is_by_row c.args.caller c.args.conn c.args.rows.now c.requires
