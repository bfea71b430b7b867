use Rattle.std.proofs.Common.{sym}
use Rattle.bsc_desk.proofs.LiveRows.{has_by, placed}
use Rattle.bsc_desk.proofs.desk.Desk.leave.Goals as goal

pub unreachable-requires : goal.unreachable-requires
unreachable-requires c = placed c.args.conn c.args.self.now.rows.items (has_by c.args.self.now c.args.caller c.args.conn c.requires.unleft) (rw c.as_slice.ensures.value at (sym c.in-None.ensures))
