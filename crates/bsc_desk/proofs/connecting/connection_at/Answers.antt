use Rattle.std.proofs.Common.{ap, sym, Some, ◌∙◌}
use Rattle.std.specs.Option.{option_map}
use Rattle.bsc_desk.specs.declared.row.Row.{Row}
use Rattle.bsc_desk.specs.Live.{connection}
use Rattle.bsc_desk.proofs.Places.{find_placed}
use Rattle.bsc_desk.proofs.Newest.{no_find}
use Rattle.bsc_desk.proofs.connecting.connection_at.Goals as goal

pub returns-in-Some : goal.returns-in-Some
returns-in-Some c p is = ap (λ (r : Row). Some (connection r)) (sym c.index-rows-place.is)
    ∙ sym (ap (option_map connection) (find_placed p c.args.rows.now c.in-Some.place c.index-rows-place.result (sym is ∙ c.in-Some.is) c.index-rows-place.is))

pub returns-in-None : goal.returns-in-None
returns-in-None c p is = sym (ap (option_map connection) (no_find p c.args.rows.now (sym is ∙ c.in-None.is)))
