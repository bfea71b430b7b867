use Rattle.bsc_frame.proofs.PayloadFirst.{some_test, is_not_expected, first_beyond}
use Rattle.bsc_frame.specs.Payloads.{function_of}
use Rattle.bsc_frame.proofs.bare.read_bare.Goals as goal

pub returns-then-not-is_empty : goal.returns-then-not-is_empty
returns-then-not-is_empty c =
    first_beyond (function_of c.args.body) c.args.p.now 0 (is_not_expected (function_of c.args.body) c.args.p.now c.requires.expects) (c.requires.fixed c.args.p.now) (c.requires.rest c.args.p.now)
    (some_test c.args.p.now c.is_empty.result c.is_empty.ensures c.if-not-is_empty.true)
