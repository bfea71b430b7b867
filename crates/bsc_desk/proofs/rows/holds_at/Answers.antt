use Rattle.std.proofs.Common.{get_or, ap, sym, ◌∙◌}
use Rattle.std.proofs.lemmas.List.{get_or_default}
use Rattle.bsc_desk.specs.Directories.{gives_way}
use Rattle.bsc_desk.specs.Orders.{address_of}
use Rattle.bsc_desk.proofs.Orders.{order_true}
use Rattle.bsc_desk.proofs.Unicasts.{at_holder, holds}
use Rattle.bsc_desk.proofs.rows.holds_at.Goals as goal

pub returns-then-place-rows : goal.returns-then-place-rows
returns-then-place-rows c passes =
    let rows = c.args.rows.now in
    let i = c.args.place in
    let row = c.index-rows-place.result in
    at_holder c.args.v rows i (order_true (gives_way address_of) rows c.requires) c.if-place-rows.true
    (λ d. ap (holds c.args.v) (get_or_default rows i d row c.if-place-rows.true ∙ sym c.index-rows-place.is) ∙ sym c.is_holder.ensures ∙ passes)
