use Rattle.bsc_frame.proofs.OptionLists.{list_read}
use Rattle.bsc_frame.proofs.lists.read_list.Goals as goal

pub returns-in-Ok : goal.returns-in-Ok
returns-in-Ok c =
    let found = c.in-Ok.ensures.found in
    λ items end p. list_read c.args.announced c.args.m.now c.args.at c.in-Ok.list items end c.in-Ok.field-0-1 c.if-not-announced.false found.0 found.1 p
