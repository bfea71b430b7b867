use Rattle.std.proofs.Common.{refl}
use Rattle.bsc_frame.proofs.PayloadFirst.{empty_test, some_test, first_missing}
use Rattle.std.proofs.lemmas.Result.{err_from_is_err_and}
use Rattle.bsc_frame.specs.declared.body.Body.TheVariants.{Npdu}
use Rattle.bsc_frame.proofs.Payloads.{memory_answer}
use Rattle.bsc_frame.proofs.npdu.read_npdu.Goals as goal

pub returns-then-is_empty : goal.returns-then-is_empty
returns-then-is_empty c = first_missing 1 c.args.p.now refl (empty_test c.args.p.now c.is_empty.result c.is_empty.ensures c.if-is_empty.true)

pub returns-in_err-owned : goal.returns-in_err-owned
returns-in_err-owned c =
    let p = c.args.p.now in
    let e = err_from_is_err_and c.from_residual.result c.from_residual.ensures.1 in
    memory_answer 1 p c.from_residual.result e.0 e.1 e.2 (Npdu p, (some_test p c.is_empty.result c.is_empty.ensures c.if-is_empty.false, refl, refl))
