use Rattle.std.proofs.Common.{rules, inl, inr, refl, ap, ◌∙◌, arith}
use Rattle.std.proofs.lemmas.List.{take_rest}
use Rattle.byteorder.specs.Endian.{big_number}
use Rattle.bsc_frame.proofs.PayloadFirst.{empty_test, some_test, is_there, first_missing, first_below, first_beyond, first_outside}
use Rattle.bsc_frame.proofs.Payloads.{advert_spelled}
use Rattle.bsc_frame.proofs.advert.read_advert.Goals as goal

pub returns-then-is_empty : goal.returns-then-is_empty
returns-then-is_empty c = first_missing 4 c.args.p.now refl (empty_test c.args.p.now c.is_empty.result c.is_empty.ensures c.if-is_empty.true)

pub returns-then-p-lt-FIXED_PART : goal.returns-then-p-lt-FIXED_PART
returns-then-p-lt-FIXED_PART c =
    first_below 4 c.args.p.now 6 (is_there 4 c.args.p.now (some_test c.args.p.now c.is_empty.result c.is_empty.ensures c.if-is_empty.false)) refl (omega arith)

pub returns-then-p-gt-FIXED_PART : goal.returns-then-p-gt-FIXED_PART
returns-then-p-gt-FIXED_PART c = first_beyond 4 c.args.p.now 6 (is_there 4 c.args.p.now (omega arith)) refl refl (omega arith)

pub returns-then-status-gt2 : goal.returns-then-status-gt2
returns-then-status-gt2 c = first_outside 4 c.args.p.now 6 (is_there 4 c.args.p.now (omega arith)) refl (omega arith) (inr (omega arith)) (inr (inr (inr (inl (refl, omega arith)))))

pub returns-then-accepts-gt1 : goal.returns-then-accepts-gt1
returns-then-accepts-gt1 c = first_outside 4 c.args.p.now 6 (is_there 4 c.args.p.now (omega arith)) refl (omega arith) (inr (omega arith)) (inr (inr (inr (inr (inl (refl, omega arith))))))

pub returns : goal.returns
returns c =
    let p = c.args.p.now in
    let spelled = advert_spelled p c.read_u16.result c.read_u16-2.result (omega arith) (λ i. let f = c.type_inv.p i in omega (arith, f))
    (c.read_u16.ensures ∙ ap (big_number 2) (take_rest p 2)) (c.read_u16-2.ensures ∙ ap (big_number 2) (take_rest p 4)) in
    (search rules, refl, spelled)
