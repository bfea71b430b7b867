use Rattle.bsc_checks.proofs.Lists.{first_answer, has_ends, lists_are_good, not_understood_answer, options_pass}
use Rattle.bsc_checks.proofs.option_checks.read_options.Goals as goal

pub returns-in-Err-clause-answer : goal.returns-in-Err-clause-answer
returns-in-Err-clause-answer c = λ place max. first_answer c.args.m.now place max c.of.result c.in-Err.check c.of.ensures c.in-Err.ensures

pub not_understood-requires-clause-ends : goal.not_understood-requires-clause-ends
not_understood-requires-clause-ends c =
    let lists = c.in-Ok.ensures in
    (lists.0, lists.1, has_ends c.args.m.now c.args.head.now c.in-Ok.ends lists.0 lists.1 c.requires.head lists.2)

pub returns-in-Some-clause-answer : goal.returns-in-Some-clause-answer
returns-in-Some-clause-answer c =
    let lists = c.in-Ok.ensures in
    let pass = lists_are_good c.args.m.now c.args.head.now c.in-Ok.ends lists.0 lists.1 c.requires.head lists.2 in
    λ place max. not_understood_answer c.args.m.now place max c.in-Some.marker pass c.in-Some.ensures.found

pub returns-in-None-clause-answer : goal.returns-in-None-clause-answer
returns-in-None-clause-answer c =
    let m = c.args.m.now in
    let e = c.args.head.now in
    let ends = c.in-Ok.ends in
    let lists = c.in-Ok.ensures in
    let has = has_ends m e ends lists.0 lists.1 c.requires.head lists.2 in
    let pass = lists_are_good m e ends lists.0 lists.1 c.requires.head lists.2 in
    λ place max. options_pass m place max ends lists.0 lists.1 has pass c.in-None.ensures.none
