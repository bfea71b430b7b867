use Rattle.std.proofs.Common.{arith}
use Rattle.bsc_frame.proofs.PayloadFirst.{first_short_result, first_unknown_result}
use Rattle.bsc_frame.proofs.answer.read_answer.Goals as goal

pub returns-then-p-lt-ACK_PART : goal.returns-then-p-lt-ACK_PART
returns-then-p-lt-ACK_PART c = first_short_result c.args.p.now (omega arith)

pub returns-in_default : goal.returns-in_default
returns-in_default c = first_unknown_result c.args.p.now (omega arith) (omega arith)
