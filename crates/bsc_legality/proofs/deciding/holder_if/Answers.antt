use Rattle.std.proofs.Common.{◌∙◌, sym}
use Rattle.bsc_legality.proofs.Alone.{holds_it}
use Rattle.bsc_legality.proofs.deciding.holder_if.Goals as goal

pub returns-then-eq : goal.returns-then-eq
returns-then-eq c = holds_it c.args.rows.now c.in-Some.conn c.in-Some-row_of.row c.args.vmac c.requires.alone (sym c.in-Some-row_of.ensures) (sym c.is_open.ensures ∙ c.if-is_open.true)
    (sym c.eq.ensures ∙ c.if-eq.true)
