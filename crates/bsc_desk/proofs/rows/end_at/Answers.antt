use Rattle.std.proofs.Common.{ap, sym, ◌∙◌}
use Rattle.bsc_desk.specs.declared.row.Row.{Row}
use Rattle.bsc_desk.specs.Live.{end_in}
use Rattle.bsc_desk.proofs.Numbers.{none_found}
use Rattle.bsc_desk.proofs.Places.{find_placed}
use Rattle.bsc_desk.proofs.Walks.{has_number}
use Rattle.bsc_desk.proofs.rows.end_at.Goals as goal

pub returns-in-Some : goal.returns-in-Some
returns-in-Some c = ap (λ (r : Row). r.ending) (sym c.index-rows-place.is)
    ∙ ap end_in (sym (find_placed (has_number c.args.conn) c.args.rows.now c.in-Some.place c.index-rows-place.result (sym c.in-Some.ensures) c.index-rows-place.is))

pub returns-in-None : goal.returns-in-None
returns-in-None c = ap end_in (sym (none_found c.args.conn c.args.rows.now (sym c.in-None.ensures)))
