use Rattle.std.proofs.Common.{get_or, ap, ◌∙◌}
use Rattle.std.proofs.lemmas.Bool.{eqb-true}
use Rattle.std.proofs.lemmas.List.{get_or_default}
use Rattle.bsc_legality.specs.declared.row.Row.{Row}
use Rattle.bsc_legality.proofs.Numbers.{at_place}
use Rattle.bsc_legality.proofs.rows.stands_at.Goals as goal

pub returns-then-place-rows : goal.returns-then-place-rows
returns-then-place-rows c passes =
    let rows = c.args.rows.now in
    let i = c.args.place in
    let row = c.index-rows-place.result in
    at_place c.args.conn rows i c.requires c.if-place-rows.true (λ d. ap (λ (r : Row). r.connection.number) (get_or_default rows i d row c.if-place-rows.true)
    ∙ eqb-true (get_or rows i row).connection.number c.args.conn passes)
