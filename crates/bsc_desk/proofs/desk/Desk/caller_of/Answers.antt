use Rattle.std.proofs.Common.{sym}
use Rattle.bsc_desk.proofs.LiveRows.{placed}
use Rattle.bsc_desk.proofs.Meets.{row_by}
use Rattle.bsc_desk.proofs.desk.Desk.caller_of.Goals as goal

pub unreachable-requires : goal.unreachable-requires
unreachable-requires c = placed c.args.conn c.args.self.now.rows.items c.requires (rw c.as_slice.ensures.value at (sym c.in-None.ensures))

pub returns : goal.returns
returns c = row_by c.args.conn c.in-Some.place c.args.self.now.rows.items c.index.result.now (rw c.as_slice.ensures.value at (sym c.in-Some.ensures)) c.index.ensures
