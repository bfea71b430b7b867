use Rattle.std.proofs.Common.{◌==◌, refl, Some}
use Rattle.std.proofs.lemmas.List.Quantifiers.{position-Some}
use Rattle.bsc_desk.specs.Changes.{Finishes, FinishesIf}
use Rattle.bsc_desk.proofs.Numbers.{rows_rise}
use Rattle.bsc_desk.proofs.Walks.{changes_if, changes_set, has_number, only_number}
use Rattle.bsc_desk.proofs.rows.finish_at.Goals as goal

pub returns-clause-items : goal.returns-clause-items
returns-clause-items c =
    let rows = c.args.rows.now.items in
    let r = c.index_mut-row.result.now in
    let p = position-Some (has_number c.args.conn) rows c.args.place r c.requires.place in
    changes_if (Finishes c.args.ending) (has_number c.args.conn) c.args.place rows _ (λ b x y. FinishesIf b c.args.ending x y) (λ x y h. h) (λ x. refl)
    (only_number c.args.conn c.args.place rows r c.requires.place (rows_rise rows c.requires.rising))
    (changes_set (Finishes c.args.ending) rows c.args.place r c.finish.new.self p.0 c.index_mut-row.ensures.value c.finish.ensures)
