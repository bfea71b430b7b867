use Rattle.std.proofs.Common.{refl, sym, Some}
use Rattle.bsc_desk.proofs.Finishing.{finish_nowhere}
use Rattle.bsc_desk.proofs.rows.finish_one.Goals as goal

pub returns-in-None-clause-items : goal.returns-in-None-clause-items
returns-in-None-clause-items c = finish_nowhere (Some c.args.conn) c.args.conn c.args.ending c.args.rows.now.items refl (rw c.deref.ensures.value at (sym c.in-None.ensures))

pub finish_at-requires-clause-place : goal.finish_at-requires-clause-place
finish_at-requires-clause-place c = rw c.deref.ensures.value at (sym c.in-Some.ensures)
