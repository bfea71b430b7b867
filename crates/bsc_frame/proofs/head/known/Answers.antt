use Rattle.std.proofs.Common.{arith}
use Rattle.bsc_frame.proofs.Heads.{first_reserved, first_unknown}
use Rattle.bsc_frame.proofs.head.known.Goals as goal

pub returns-then-envelope-gt-FLAGS : goal.returns-then-envelope-gt-FLAGS
returns-then-envelope-gt-FLAGS c = first_reserved c.args.m.now c.args.envelope c.requires.spells c.requires.whole (omega arith)

pub returns-then-envelope-gt-PROPRIETARY_MESSAGE : goal.returns-then-envelope-gt-PROPRIETARY_MESSAGE
returns-then-envelope-gt-PROPRIETARY_MESSAGE c = first_unknown c.args.m.now c.args.envelope c.requires.spells c.requires.whole (omega arith) (omega arith)
