use Rattle.std.proofs.Common.{Ok, sym, arith}
use Rattle.std.proofs.lemmas.Result.{err_from_is_err_and}
use Rattle.bsc_checks.specs.declared.verdict.Verdict.TheVariants.{Pass, Carry, Silent}
use Rattle.bsc_checks.proofs.Unique.{memory_answers, only_of, carries, silences, refuses}
use Rattle.bsc_checks.proofs.Verdicts.{silent_head, first_of_all, none_of_all, carried, frame_passes, passed}
use Rattle.bsc_checks.proofs.Outcomes.{outcome_is}
use Rattle.bsc_checks.proofs.judging.judge.Goals as goal

pub returns-in-Err-clause-found : goal.returns-in-Err-clause-found
returns-in-Err-clause-found c =
    let m = c.args.m.now in
    silent_head m c.args.place.now c.args.max c.in-Err.check c.in-Err.ensures

pub returns-in-Err-clause-only : goal.returns-in-Err-clause-only
returns-in-Err-clause-only c =
    let m = c.args.m.now in
    only_of m c.args.place.now c.args.max (Ok (Silent c.in-Err.check)) (silent_head m c.args.place.now c.args.max c.in-Err.check c.in-Err.ensures)

pub returns-in-Err-clause-outcome : goal.returns-in-Err-clause-outcome
returns-in-Err-clause-outcome c =
    let m = c.args.m.now in
    outcome_is m c.args.place.now c.args.max (Silent c.in-Err.check) (λ i. let f = c.type_inv.m i in omega (arith, f)) (silent_head m c.args.place.now c.args.max c.in-Err.check c.in-Err.ensures)

pub returns-in-Err-clause-silent : goal.returns-in-Err-clause-silent
returns-in-Err-clause-silent c =
    let m = c.args.m.now in
    silences m c.args.place.now c.args.max (Ok (Silent c.in-Err.check)) (silent_head m c.args.place.now c.args.max c.in-Err.check c.in-Err.ensures)

pub returns-in-Err-clause-nak : goal.returns-in-Err-clause-nak
returns-in-Err-clause-nak c =
    let m = c.args.m.now in
    refuses m c.args.place.now c.args.max (Ok (Silent c.in-Err.check)) (silent_head m c.args.place.now c.args.max c.in-Err.check c.in-Err.ensures)

pub returns-in-Some-clause-found : goal.returns-in-Some-clause-found
returns-in-Some-clause-found c =
    let m = c.args.m.now in
    let why = c.in-Some.ensures c.args.max in
    c.refused.ensures m c.args.max c.in-Ok.ensures.0 (first_of_all m c.args.place.now c.args.max c.in-Some.refusal c.in-Ok.ensures.1 why) why.1

pub returns-in-Some-clause-only : goal.returns-in-Some-clause-only
returns-in-Some-clause-only c =
    let m = c.args.m.now in
    let why = c.in-Some.ensures c.args.max in
    only_of m c.args.place.now c.args.max (Ok c.refused.result) (c.refused.ensures m c.args.max c.in-Ok.ensures.0
    (first_of_all m c.args.place.now c.args.max c.in-Some.refusal c.in-Ok.ensures.1 why) why.1)

pub returns-in-Some-clause-outcome : goal.returns-in-Some-clause-outcome
returns-in-Some-clause-outcome c =
    let m = c.args.m.now in
    let why = c.in-Some.ensures c.args.max in
    outcome_is m c.args.place.now c.args.max c.refused.result (λ i. let f = c.type_inv.m i in omega (arith, f))
    (c.refused.ensures m c.args.max c.in-Ok.ensures.0 (first_of_all m c.args.place.now c.args.max c.in-Some.refusal c.in-Ok.ensures.1 why) why.1)

pub returns-in-Some-clause-carry : goal.returns-in-Some-clause-carry
returns-in-Some-clause-carry c =
    let m = c.args.m.now in
    let why = c.in-Some.ensures c.args.max in
    carries m c.args.place.now c.args.max (Ok c.refused.result) (c.refused.ensures m c.args.max c.in-Ok.ensures.0
    (first_of_all m c.args.place.now c.args.max c.in-Some.refusal c.in-Ok.ensures.1 why) why.1)

pub returns-in-Some-clause-silent : goal.returns-in-Some-clause-silent
returns-in-Some-clause-silent c =
    let m = c.args.m.now in
    let why = c.in-Some.ensures c.args.max in
    silences m c.args.place.now c.args.max (Ok c.refused.result) (c.refused.ensures m c.args.max c.in-Ok.ensures.0
    (first_of_all m c.args.place.now c.args.max c.in-Some.refusal c.in-Ok.ensures.1 why) why.1)

pub returns-in-Some-clause-nak : goal.returns-in-Some-clause-nak
returns-in-Some-clause-nak c =
    let m = c.args.m.now in
    let why = c.in-Some.ensures c.args.max in
    refuses m c.args.place.now c.args.max (Ok c.refused.result) (c.refused.ensures m c.args.max c.in-Ok.ensures.0
    (first_of_all m c.args.place.now c.args.max c.in-Some.refusal c.in-Ok.ensures.1 why) why.1)

pub returns-then-is_to_carry-clause-found : goal.returns-then-is_to_carry-clause-found
returns-then-is_to_carry-clause-found c =
    let m = c.args.m.now in
    let none = none_of_all m c.args.place.now c.args.max c.in-Ok.ensures.1 (c.in_default.ensures c.args.max) in
    let to_carry = c.is_to_carry.ensures m c.in-Ok.ensures.0 in
    carried m c.in-Ok.head c.args.place.now c.args.max c.is_to_carry.result to_carry c.if-is_to_carry.true c.in-Ok.ensures.0 none

pub returns-then-is_to_carry-clause-only : goal.returns-then-is_to_carry-clause-only
returns-then-is_to_carry-clause-only c =
    let m = c.args.m.now in
    let none = none_of_all m c.args.place.now c.args.max c.in-Ok.ensures.1 (c.in_default.ensures c.args.max) in
    let to_carry = c.is_to_carry.ensures m c.in-Ok.ensures.0 in
    only_of m c.args.place.now c.args.max (Ok (Carry c.in-Ok.head)) (carried m c.in-Ok.head c.args.place.now c.args.max c.is_to_carry.result to_carry c.if-is_to_carry.true c.in-Ok.ensures.0 none)

pub returns-then-is_to_carry-clause-outcome : goal.returns-then-is_to_carry-clause-outcome
returns-then-is_to_carry-clause-outcome c =
    let m = c.args.m.now in
    let none = none_of_all m c.args.place.now c.args.max c.in-Ok.ensures.1 (c.in_default.ensures c.args.max) in
    let to_carry = c.is_to_carry.ensures m c.in-Ok.ensures.0 in
    outcome_is m c.args.place.now c.args.max (Carry c.in-Ok.head) (λ i. let f = c.type_inv.m i in omega (arith, f))
    (carried m c.in-Ok.head c.args.place.now c.args.max c.is_to_carry.result to_carry c.if-is_to_carry.true c.in-Ok.ensures.0 none)

pub returns-then-is_to_carry-clause-carry : goal.returns-then-is_to_carry-clause-carry
returns-then-is_to_carry-clause-carry c =
    let m = c.args.m.now in
    let none = none_of_all m c.args.place.now c.args.max c.in-Ok.ensures.1 (c.in_default.ensures c.args.max) in
    let to_carry = c.is_to_carry.ensures m c.in-Ok.ensures.0 in
    carries m c.args.place.now c.args.max (Ok (Carry c.in-Ok.head)) (carried m c.in-Ok.head c.args.place.now c.args.max c.is_to_carry.result to_carry c.if-is_to_carry.true c.in-Ok.ensures.0 none)

pub returns-then-is_to_carry-clause-silent : goal.returns-then-is_to_carry-clause-silent
returns-then-is_to_carry-clause-silent c =
    let m = c.args.m.now in
    let none = none_of_all m c.args.place.now c.args.max c.in-Ok.ensures.1 (c.in_default.ensures c.args.max) in
    let to_carry = c.is_to_carry.ensures m c.in-Ok.ensures.0 in
    silences m c.args.place.now c.args.max (Ok (Carry c.in-Ok.head)) (carried m c.in-Ok.head c.args.place.now c.args.max c.is_to_carry.result to_carry c.if-is_to_carry.true c.in-Ok.ensures.0 none)

pub returns-then-is_to_carry-clause-nak : goal.returns-then-is_to_carry-clause-nak
returns-then-is_to_carry-clause-nak c =
    let m = c.args.m.now in
    let none = none_of_all m c.args.place.now c.args.max c.in-Ok.ensures.1 (c.in_default.ensures c.args.max) in
    let to_carry = c.is_to_carry.ensures m c.in-Ok.ensures.0 in
    refuses m c.args.place.now c.args.max (Ok (Carry c.in-Ok.head)) (carried m c.in-Ok.head c.args.place.now c.args.max c.is_to_carry.result to_carry c.if-is_to_carry.true c.in-Ok.ensures.0 none)

pub passed-requires : goal.passed-requires
passed-requires c =
    let m = c.args.m.now in
    let none = none_of_all m c.args.place.now c.args.max c.in-Ok.ensures.1 (c.in_default.ensures c.args.max) in
    let to_carry = c.is_to_carry.ensures m c.in-Ok.ensures.0 in
    frame_passes m c.args.place.now c.args.max c.is_to_carry.result to_carry c.if-is_to_carry.false none

pub returns-in_err-message-clause-memory : goal.returns-in_err-message-clause-memory
returns-in_err-message-clause-memory c =
    let m = c.args.m.now in
    let none = none_of_all m c.args.place.now c.args.max c.in-Ok.ensures.1 (c.in_default.ensures c.args.max) in
    let to_carry = c.is_to_carry.ensures m c.in-Ok.ensures.0 in
    let found = c.in_err-message.ensures.memory in
    let passes = passed m c.args.place.now c.args.max c.is_to_carry.result found.0 to_carry c.if-is_to_carry.false none found.1 in
    let e = err_from_is_err_and c.from_residual.result c.from_residual.ensures.1 in
    rw e.1 (found.0, passes)

pub returns-in_err-message-clause-passes : goal.returns-in_err-message-clause-passes
returns-in_err-message-clause-passes c =
    let m = c.args.m.now in
    let none = none_of_all m c.args.place.now c.args.max c.in-Ok.ensures.1 (c.in_default.ensures c.args.max) in
    let to_carry = c.is_to_carry.ensures m c.in-Ok.ensures.0 in
    let found = c.in_err-message.ensures.memory in
    let passes = passed m c.args.place.now c.args.max c.is_to_carry.result found.0 to_carry c.if-is_to_carry.false none found.1 in
    let e = err_from_is_err_and c.from_residual.result c.from_residual.ensures.1 in
    rw e.1 (found.0, sym (outcome_is m c.args.place.now c.args.max (Pass found.0) (λ i. let f = c.type_inv.m i in omega (arith, f)) passes))

pub returns-in_err-message-clause-silent : goal.returns-in_err-message-clause-silent
returns-in_err-message-clause-silent c =
    let m = c.args.m.now in
    let none = none_of_all m c.args.place.now c.args.max c.in-Ok.ensures.1 (c.in_default.ensures c.args.max) in
    let to_carry = c.is_to_carry.ensures m c.in-Ok.ensures.0 in
    let found = c.in_err-message.ensures.memory in
    let passes = passed m c.args.place.now c.args.max c.is_to_carry.result found.0 to_carry c.if-is_to_carry.false none found.1 in
    let e = err_from_is_err_and c.from_residual.result c.from_residual.ensures.1 in
    silences m c.args.place.now c.args.max c.from_residual.result (memory_answers m c.args.place.now c.args.max c.from_residual.result e.0 e.1 (found.0, passes))

pub returns-in_err-message-clause-nak : goal.returns-in_err-message-clause-nak
returns-in_err-message-clause-nak c =
    let m = c.args.m.now in
    let none = none_of_all m c.args.place.now c.args.max c.in-Ok.ensures.1 (c.in_default.ensures c.args.max) in
    let to_carry = c.is_to_carry.ensures m c.in-Ok.ensures.0 in
    let found = c.in_err-message.ensures.memory in
    let passes = passed m c.args.place.now c.args.max c.is_to_carry.result found.0 to_carry c.if-is_to_carry.false none found.1 in
    let e = err_from_is_err_and c.from_residual.result c.from_residual.ensures.1 in
    refuses m c.args.place.now c.args.max c.from_residual.result (memory_answers m c.args.place.now c.args.max c.from_residual.result e.0 e.1 (found.0, passes))

pub returns-clause-found : goal.returns-clause-found
returns-clause-found c =
    let m = c.args.m.now in
    let none = none_of_all m c.args.place.now c.args.max c.in-Ok.ensures.1 (c.in_default.ensures c.args.max) in
    let to_carry = c.is_to_carry.ensures m c.in-Ok.ensures.0 in
    passed m c.args.place.now c.args.max c.is_to_carry.result c.in_ok-message.message to_carry c.if-is_to_carry.false none c.in_ok-message.ensures.found

pub returns-clause-only : goal.returns-clause-only
returns-clause-only c =
    let m = c.args.m.now in
    let none = none_of_all m c.args.place.now c.args.max c.in-Ok.ensures.1 (c.in_default.ensures c.args.max) in
    let to_carry = c.is_to_carry.ensures m c.in-Ok.ensures.0 in
    only_of m c.args.place.now c.args.max (Ok (Pass c.in_ok-message.message))
    (passed m c.args.place.now c.args.max c.is_to_carry.result c.in_ok-message.message to_carry c.if-is_to_carry.false none c.in_ok-message.ensures.found)

pub returns-clause-outcome : goal.returns-clause-outcome
returns-clause-outcome c =
    let m = c.args.m.now in
    let none = none_of_all m c.args.place.now c.args.max c.in-Ok.ensures.1 (c.in_default.ensures c.args.max) in
    let to_carry = c.is_to_carry.ensures m c.in-Ok.ensures.0 in
    outcome_is m c.args.place.now c.args.max (Pass c.in_ok-message.message) (λ i. let f = c.type_inv.m i in omega (arith, f))
    (passed m c.args.place.now c.args.max c.is_to_carry.result c.in_ok-message.message to_carry c.if-is_to_carry.false none c.in_ok-message.ensures.found)

pub returns-clause-silent : goal.returns-clause-silent
returns-clause-silent c =
    let m = c.args.m.now in
    let none = none_of_all m c.args.place.now c.args.max c.in-Ok.ensures.1 (c.in_default.ensures c.args.max) in
    let to_carry = c.is_to_carry.ensures m c.in-Ok.ensures.0 in
    silences m c.args.place.now c.args.max (Ok (Pass c.in_ok-message.message))
    (passed m c.args.place.now c.args.max c.is_to_carry.result c.in_ok-message.message to_carry c.if-is_to_carry.false none c.in_ok-message.ensures.found)

pub returns-clause-nak : goal.returns-clause-nak
returns-clause-nak c =
    let m = c.args.m.now in
    let none = none_of_all m c.args.place.now c.args.max c.in-Ok.ensures.1 (c.in_default.ensures c.args.max) in
    let to_carry = c.is_to_carry.ensures m c.in-Ok.ensures.0 in
    refuses m c.args.place.now c.args.max (Ok (Pass c.in_ok-message.message))
    (passed m c.args.place.now c.args.max c.is_to_carry.result c.in_ok-message.message to_carry c.if-is_to_carry.false none c.in_ok-message.ensures.found)
