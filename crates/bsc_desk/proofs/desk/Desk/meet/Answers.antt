use Rattle.std.proofs.Common.{sym}
use Rattle.bsc_desk.proofs.LiveRows.{placed}
use Rattle.bsc_desk.proofs.desk.Desk.meet.Goals as goal

pub unreachable-requires : goal.unreachable-requires
unreachable-requires c = placed c.args.conn c.args.self.now.rows.items c.requires.row (rw c.as_slice.ensures.value at (sym c.in-None.ensures))
