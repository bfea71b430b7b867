use Rattle.bsc_options.specs.Walk.{item_of}
use Rattle.bsc_options.proofs.Rest.{fault_on, fault_here, fault_nowhere}
use Rattle.bsc_options.proofs.reading.first_fault.Goals as goal

pub returns-in-Some-fault_of : goal.returns-in-Some-fault_of
returns-in-Some-fault_of c =
    let first = c.in-Some.first in
    fault_here c.args.list.now c.loop-first.rest.now first.rest.now first.follows
    (item_of first) c.in-Some-fault_of.fault c.loop-first.invariant c.in-Some.ensures.found.0 c.in-Some.ensures.found.1 c.in-Some-fault_of.ensures

pub loop-first-preserved : goal.loop-first-preserved
loop-first-preserved c =
    let first = c.in-Some.first in
    fault_on c.args.list.now c.loop-first.rest.now first.rest.now first.follows (item_of first) c.loop-first.invariant c.in-Some.ensures.found.0 c.in-Some.ensures.found.1 c.in_default-fault_of.ensures

pub returns : goal.returns
returns c = fault_nowhere c.args.list.now c.loop-first.rest.now c.loop-first.invariant c.in_default.ensures.none
