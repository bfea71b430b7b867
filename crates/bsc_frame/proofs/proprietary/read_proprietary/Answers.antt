use Rattle.std.proofs.Common.{rules, get_or, drop, refl, arith}
use Rattle.bsc_frame.proofs.PayloadFirst.{empty_test, some_test, is_there, first_missing, first_below}
use Rattle.std.proofs.lemmas.Result.{err_from_is_err_and}
use Rattle.bsc_frame.specs.declared.body.Body.TheVariants.{Proprietary}
use Rattle.bsc_frame.proofs.Payloads.{memory_answer, proprietary_spelled}
use Rattle.bsc_frame.proofs.proprietary.read_proprietary.Goals as goal

pub returns-then-is_empty : goal.returns-then-is_empty
returns-then-is_empty c = first_missing 12 c.args.p.now refl (empty_test c.args.p.now c.is_empty.result c.is_empty.ensures c.if-is_empty.true)

pub returns-then-p-lt-FIXED_PART : goal.returns-then-p-lt-FIXED_PART
returns-then-p-lt-FIXED_PART c =
    first_below 12 c.args.p.now 3 (is_there 12 c.args.p.now (some_test c.args.p.now c.is_empty.result c.is_empty.ensures c.if-is_empty.false)) refl (omega arith)

pub returns-in_err-owned : goal.returns-in_err-owned
returns-in_err-owned c =
    let p = c.args.p.now in
    let e = err_from_is_err_and c.from_residual.result c.from_residual.ensures.1 in
    memory_answer 12 p c.from_residual.result e.0 e.1 e.2 (
      Proprietary c.read_u16.result (get_or p 2 0) (drop 3 p),
      (
        search rules,
        refl,
        proprietary_spelled p (drop 3 p) c.read_u16.result (omega arith) (λ i. let f = c.type_inv.p i in omega (arith, f)) c.read_u16.ensures refl,
      ),
    )
