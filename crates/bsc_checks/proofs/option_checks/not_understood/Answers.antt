use Rattle.bsc_checks.proofs.Lists.{understood_found, understood_none}
use Rattle.bsc_checks.proofs.option_checks.not_understood.Goals as goal

pub returns-clause-found : goal.returns-clause-found
returns-clause-found c =
    let ends = c.requires.ends in
    understood_found c.args.m.now c.args.head.now c.args.ends ends.0 ends.1 c.first_not_understood.result c.requires.head ends.2 c.first_not_understood.ensures

pub returns-clause-none : goal.returns-clause-none
returns-clause-none c =
    let ends = c.requires.ends in
    understood_none c.args.m.now c.args.head.now c.args.ends ends.0 ends.1 c.first_not_understood.result c.requires.head ends.2 c.first_not_understood.ensures
