use Rattle.bsc_frame.proofs.OptionLists.{shapes_of, item_of_fault}
use Rattle.bsc_frame.proofs.lists.has_fault.Goals as goal

pub returns-in-Ok : goal.returns-in-Ok
returns-in-Ok c =
    let found = c.in-Ok.ensures.found in
    λ items end p. shapes_of c.args.announced c.args.m.now c.args.at found.0 items end c.in-Ok.field-0 c.if-not-announced.false found.1 found.2 p

pub returns-in-Err : goal.returns-in-Err
returns-in-Err c =
    let clauses = c.check_options.ensures in (
      c.if-not-announced.false,
      item_of_fault c.args.announced c.args.m.now c.args.at c.check_options.result c.in-Err.field-0 c.if-not-announced.false c.requires.whole clauses.cut.0 clauses.bad_kind.0
          clauses.bad_shape.0 clauses.memory c.in-Err.is,
    )
