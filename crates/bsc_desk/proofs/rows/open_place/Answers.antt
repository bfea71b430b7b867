use Rattle.std.proofs.Common.{◌≡◌, true, false, find, ap, cond, sym, Some, None, ◌∙◌, Bool}
use Rattle.std.specs.List.{position}
use Rattle.bsc_desk.specs.Directories.{open_in}
use Rattle.bsc_desk.proofs.Numbers.{none_found}
use Rattle.bsc_desk.proofs.Places.{find_placed}
use Rattle.bsc_desk.proofs.Walks.{has_number}
use Rattle.bsc_desk.proofs.rows.open_place.Goals as goal

pub returns-then-is_open : goal.returns-then-is_open
returns-then-is_open c =
    let rows = c.args.rows.now in
    let found = find_placed (has_number c.args.conn) rows c.in-Some.place c.index-rows-place.result (sym c.in-Some.ensures) c.index-rows-place.is in
    let live : open_in (find (has_number c.args.conn) rows) ≡ true = ap open_in found ∙ sym c.is_open.ensures ∙ c.if-is_open.true in
    c.in-Some.ensures ∙ sym (ap (λ (b : Bool). cond b (position (has_number c.args.conn) rows) None) live)

pub returns-else-is_open : goal.returns-else-is_open
returns-else-is_open c =
    let rows = c.args.rows.now in
    let found = find_placed (has_number c.args.conn) rows c.in-Some.place c.index-rows-place.result (sym c.in-Some.ensures) c.index-rows-place.is in
    let shut : open_in (find (has_number c.args.conn) rows) ≡ false = ap open_in found ∙ sym c.is_open.ensures ∙ c.if-is_open.false in
    sym (ap (λ (b : Bool). cond b (position (has_number c.args.conn) rows) None) shut)
