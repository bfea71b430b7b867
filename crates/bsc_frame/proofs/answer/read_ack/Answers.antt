use Rattle.std.proofs.Common.{◌≡◌, get_or, refl, arith}
use Rattle.bsc_frame.proofs.PayloadFirst.{is_not_expected, first_beyond}
use Rattle.bsc_frame.proofs.answer.read_ack.Goals as goal

pub returns-then-p-gt-ACK_PART : goal.returns-then-p-gt-ACK_PART
returns-then-p-gt-ACK_PART c =
    let code : get_or c.args.p.now 1 0 ≡ 0 = c.requires.code in
    first_beyond 0 c.args.p.now 2 (is_not_expected 0 c.args.p.now refl) (rw code refl) (rw code refl) (omega arith)
