use Rattle.std.proofs.Common.{inr, refl}
use Rattle.std.proofs.lemmas.Result.{err_from_is_err_and}
use Rattle.bsc_frame.proofs.Payloads.{check_answer}
use Rattle.bsc_frame.proofs.connect.read_accept.Goals as goal

pub returns-in_err-read_node : goal.returns-in_err-read_node
returns-in_err-read_node c =
    let e = err_from_is_err_and c.from_residual.result c.from_residual.ensures.1 in
    check_answer 7 c.args.p.now c.from_residual.result e.0 c.in_err-read_node.field-0.0 e.1 e.2 (c.in_err-read_node.ensures 7 (inr refl))
