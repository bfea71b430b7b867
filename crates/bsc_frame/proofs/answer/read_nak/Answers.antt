use Rattle.std.proofs.Common.{rules, ◌≡◌, inl, inr, get_or, drop, refl, ap, ◌∙◌, arith}
use Rattle.std.proofs.lemmas.List.{take_rest}
use Rattle.byteorder.specs.Endian.{big_number}
use Rattle.bsc_frame.proofs.PayloadFirst.{is_not_expected, first_below, first_outside}
use Rattle.std.proofs.lemmas.Result.{err_from_is_err_and}
use Rattle.bsc_frame.specs.declared.body.Body.TheVariants.{BvlcResult}
use Rattle.bsc_frame.specs.declared.answer.Answer.TheVariants.{Nak}
use Rattle.bsc_frame.proofs.Payloads.{memory_answer, nak_spelled}
use Rattle.bsc_frame.proofs.answer.read_nak.Goals as goal

pub returns-then-p-lt-NAK_PART : goal.returns-then-p-lt-NAK_PART
returns-then-p-lt-NAK_PART c =
    let code : get_or c.args.p.now 1 0 ≡ 1 = c.requires.code in
    first_below 0 c.args.p.now 7 (is_not_expected 0 c.args.p.now refl) (rw code refl) (omega arith)

pub returns-then-not-is_utf8 : goal.returns-then-not-is_utf8
returns-then-not-is_utf8 c =
    let p = c.args.p.now in
    let code : get_or p 1 0 ≡ 1 = c.requires.code in
    first_outside 0 p 7 (is_not_expected 0 p refl) (rw code refl) (omega arith) (inl (rw code refl))
    (inr (inl (refl, code, (λ utf8. let both = c.is_utf8.ensures.1 (rw take_rest utf8) in absurd (cc (both, c.if-not-is_utf8.true))))))

pub returns-in_err-owned : goal.returns-in_err-owned
returns-in_err-owned c =
    let p = c.args.p.now in
    let e = err_from_is_err_and c.from_residual.result c.from_residual.ensures.1 in
    let class = c.read_u16.ensures ∙ ap (big_number 2) (take_rest p 3) in
    let code = c.read_u16-2.ensures ∙ ap (big_number 2) (take_rest p 5) in
    memory_answer 0 p c.from_residual.result e.0 e.1 e.2 (
      BvlcResult (Nak (get_or p 0 0) (get_or p 2 0) c.read_u16.result c.read_u16-2.result (drop 7 p)),
      (
        (search rules, search rules, rw take_rest at (c.is_utf8.ensures.0 c.if-not-is_utf8.false)),
        refl,
        nak_spelled p (drop 7 p) c.read_u16.result c.read_u16-2.result (omega arith) (λ i. let f = c.type_inv.p i in omega (arith, f)) c.requires.code class code refl,
      ),
    )

pub returns : goal.returns
returns c =
    let p = c.args.p.now in
    let class = c.read_u16.ensures ∙ ap (big_number 2) (take_rest p 3) in
    let code = c.read_u16-2.ensures ∙ ap (big_number 2) (take_rest p 5) in
    let details = c.in_ok-owned.ensures ∙ take_rest p 7 in (
      (search rules, search rules, rw (details, ← take_rest p 7) (c.is_utf8.ensures.0 c.if-not-is_utf8.false)),
      refl,
      nak_spelled p c.in_ok-owned.field-0 c.read_u16.result c.read_u16-2.result (omega arith) (λ i. let f = c.type_inv.p i in omega (arith, f)) c.requires.code class code details,
    )
