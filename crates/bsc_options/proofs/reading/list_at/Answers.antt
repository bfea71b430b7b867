use Rattle.std.proofs.lemmas.List.{take_rest}
use Rattle.std.proofs.lemmas.Result.{err_from_is_err_and}
use Rattle.bsc_options.proofs.Exact.{list_answers, memory_answers, fault_answers}
use Rattle.bsc_options.proofs.reading.list_at.Goals as goal

pub returns-in-Some-first_fault : goal.returns-in-Some-first_fault
returns-in-Some-first_fault c =
    fault_answers c.args.m.now _ c.args.at c.in-Some.length c.in-Some-first_fault.fault (take_rest c.args.m.now c.args.at) c.in-Some.ensures.found c.in-Some-first_fault.ensures

pub returns-in_err-options : goal.returns-in_err-options
returns-in_err-options c =
    let p = err_from_is_err_and c.from_residual.result c.from_residual.ensures.1 in
    rw (p.1, p.2) (memory_answers c.args.m.now _ c.args.at c.in-Some.length (take_rest c.args.m.now c.args.at) c.in-Some.ensures.found c.in_default-first_fault.ensures)

pub returns : goal.returns
returns c =
    list_answers c.args.m.now _ c.args.at c.in-Some.length c.in_ok-options.options (take_rest c.args.m.now c.args.at) c.in-Some.ensures.found c.in_default-first_fault.ensures c.in_ok-options.ensures
