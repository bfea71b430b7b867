use Rattle.std.proofs.lemmas.List.{take_rest}
use Rattle.bsc_options.proofs.Ends.{looked_fault, looked_whole}
use Rattle.bsc_options.proofs.checking.look_at.Goals as goal

pub returns-in-Some-first_fault : goal.returns-in-Some-first_fault
returns-in-Some-first_fault c =
    looked_fault c.args.m.now _ c.args.at c.in-Some.length c.in-Some-first_fault.fault (take_rest c.args.m.now c.args.at) c.in-Some.ensures.found c.in-Some-first_fault.ensures

pub returns : goal.returns
returns c = looked_whole c.args.m.now _ c.args.at c.in-Some.length (take_rest c.args.m.now c.args.at) c.in-Some.ensures.found c.in_default-first_fault.ensures
