use Rattle.std.proofs.Common.{inl, inr, refl, arith}
use Rattle.bsc_frame.proofs.PayloadFirst.{is_not_expected, first_outside}
use Rattle.std.proofs.lemmas.Result.{err_from_is_err_and}
use Rattle.bsc_frame.specs.declared.body.Body.TheVariants.{AddressResolutionAck}
use Rattle.bsc_frame.proofs.Payloads.{memory_answer}
use Rattle.bsc_frame.proofs.uris.read_uris.Goals as goal

pub returns-then-not-is_utf8 : goal.returns-then-not-is_utf8
returns-then-not-is_utf8 c =
    let p = c.args.p.now in
    first_outside 3 p 0 (is_not_expected 3 p refl) refl (omega arith) (inl refl)
    (inr (inr (inl (refl, (λ utf8. let both = c.is_utf8.ensures.1 utf8 in absurd (cc (both, c.if-not-is_utf8.true)))))))

pub returns-in_err-owned : goal.returns-in_err-owned
returns-in_err-owned c =
    let p = c.args.p.now in
    let e = err_from_is_err_and c.from_residual.result c.from_residual.ensures.1 in
    memory_answer 3 p c.from_residual.result e.0 e.1 e.2 (AddressResolutionAck p, (c.is_utf8.ensures.0 c.if-not-is_utf8.false, refl, refl))
