use Rattle.std.proofs.Common.{arith}
use Rattle.bsc_checks.proofs.HeadParts.{short_first, long_first, cut_first, placed_first}
use Rattle.bsc_checks.proofs.head.read_head.Goals as goal

pub returns-then-m-lt-LEAST : goal.returns-then-m-lt-LEAST
returns-then-m-lt-LEAST c = short_first c.args.m.now c.args.place.now c.args.max (omega arith)

pub returns-then-m-from : goal.returns-then-m-from
returns-then-m-from c = long_first c.args.m.now c.args.place.now c.args.max (omega arith) (omega arith)

pub returns-in-Ok : goal.returns-in-Ok
returns-in-Ok c = placed_first c.args.m.now c.args.place.now c.args.max c.in-Ok.head c.placed.result (omega arith) (omega arith) c.in-Ok.ensures.found c.in-Ok.ensures.whole c.placed.ensures

pub returns-in-Err : goal.returns-in-Err
returns-in-Err c =
    cut_first c.args.m.now c.args.place.now c.args.max c.read_envelope.result c.in-Err.field-0 (omega arith) (omega arith) c.read_envelope.ensures.short.0 c.read_envelope.ensures.cut.0 c.in-Err.is
