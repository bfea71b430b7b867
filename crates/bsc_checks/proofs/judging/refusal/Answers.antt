use Rattle.bsc_frame.proofs.First.{not_so}
use Rattle.bsc_checks.proofs.Stages.{reserved_first, later_first, out_first, from_flags_pass}
use Rattle.bsc_checks.proofs.judging.refusal.Goals as goal

pub returns-then-head-gt-FLAGS : goal.returns-then-head-gt-FLAGS
returns-then-head-gt-FLAGS c = λ max. reserved_first c.args.m.now c.args.head.now c.args.place.now max c.of.result c.of.ensures c.requires c.if-head-gt-FLAGS.true

pub returns-in-Some : goal.returns-in-Some
returns-in-Some c =
    let carry = c.is_to_carry-to_carry in
    λ max. later_first c.args.m.now c.args.head.now c.args.place.now max carry.result c.in-Some.refusal (carry.ensures c.args.m.now c.requires) c.requires c.if-head-gt-FLAGS.false
    (c.in-Some.ensures c.args.place.now max)

pub returns-then-is_out_of_place : goal.returns-then-is_out_of_place
returns-then-is_out_of_place c =
    let carry = c.is_to_carry-to_carry in
    let r = c.of-then-is_out_of_place in
    λ max. out_first c.args.m.now c.args.head.now c.args.place.now max carry.result r.result (carry.ensures c.args.m.now c.requires) c.requires c.if-head-gt-FLAGS.false
    (c.in_default.ensures c.args.place.now max) r.ensures
    (c.is_out_of_place.ensures.0 c.if-is_out_of_place.true)

pub returns : goal.returns
returns c =
    let carry = c.is_to_carry-to_carry in
    λ max. from_flags_pass c.args.m.now c.args.head.now c.args.place.now max carry.result (carry.ensures c.args.m.now c.requires) c.requires c.if-head-gt-FLAGS.false
    (c.in_default.ensures c.args.place.now max)
    (λ out. not_so _ c.is_out_of_place.result c.is_out_of_place.ensures.1 c.if-is_out_of_place.false out)
