use Rattle.std.proofs.lemmas.List.{take_rest}
use Rattle.bsc_checks.proofs.Stages.{unknown_first, options_first, payload_first, proprietary_first, between_pass}
use Rattle.bsc_checks.proofs.judging.later_refusal.Goals as goal

pub returns-then-head-gt-PROPRIETARY_MESSAGE : goal.returns-then-head-gt-PROPRIETARY_MESSAGE
returns-then-head-gt-PROPRIETARY_MESSAGE c =
    λ place max. unknown_first c.args.m.now c.args.head.now place max c.args.to_carry c.of.result c.if-to_carry.false c.of.ensures c.requires c.if-head-gt-PROPRIETARY_MESSAGE.true

pub returns-in-Err : goal.returns-in-Err
returns-in-Err c = λ place max. options_first c.args.m.now c.args.head.now place max c.args.to_carry c.in-Err.refusal c.if-to_carry.false c.requires c.if-head-gt-PROPRIETARY_MESSAGE.false
    (c.in-Err.ensures.answer place max)

pub returns-in-Some : goal.returns-in-Some
returns-in-Some c =
    let r = c.of-in-Some in
    λ place max. payload_first c.args.m.now c.args.head.now place max c.args.to_carry r.result c.in-Ok.ends _ c.in-Some.check c.if-to_carry.false c.requires c.if-head-gt-PROPRIETARY_MESSAGE.false
    (c.in-Ok.ensures.answer place max) (take_rest c.args.m.now c.in-Ok.ends.data) r.ensures
    c.in-Some.ensures

pub returns-then-head-eq-PROPRIETARY_MESSAGE : goal.returns-then-head-eq-PROPRIETARY_MESSAGE
returns-then-head-eq-PROPRIETARY_MESSAGE c =
    let r = c.of-then-head-eq-PROPRIETARY_MESSAGE in
    λ place max. proprietary_first c.args.m.now c.args.head.now place max c.args.to_carry r.result c.in-Ok.ends _ c.if-to_carry.false c.requires c.if-head-gt-PROPRIETARY_MESSAGE.false
    (c.in-Ok.ensures.answer place max) (take_rest c.args.m.now c.in-Ok.ends.data)
    c.in_default.ensures r.ensures c.if-head-eq-PROPRIETARY_MESSAGE.true

pub returns : goal.returns
returns c =
    λ place max. between_pass c.args.m.now c.args.head.now place max c.args.to_carry c.in-Ok.ends _ c.if-to_carry.false c.requires c.if-head-gt-PROPRIETARY_MESSAGE.false
    (c.in-Ok.ensures.answer place max) (take_rest c.args.m.now c.in-Ok.ends.data)
    c.in_default.ensures c.if-head-eq-PROPRIETARY_MESSAGE.false
