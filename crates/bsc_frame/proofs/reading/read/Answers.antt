use Rattle.std.proofs.Common.{subst, Ok}
use Rattle.std.proofs.lemmas.List.{take_rest}
use Rattle.std.proofs.lemmas.Result.{err_from_is_err_and}
use Rattle.bsc_frame.specs.Layout.{announces_dest_options, announces_data_options}
use Rattle.bsc_frame.specs.Walk.{IsBody}
use Rattle.bsc_frame.proofs.Exact.{head_first, lists_first, check_answers, memory_answers, payload_answers, list_answers, message_answers, memory_then, only_of, fails_where}
use Rattle.bsc_frame.proofs.Whole.{message_of}
use Rattle.bsc_frame.proofs.reading.read.Goals as goal

pub returns-in_err-head-clause-only : goal.returns-in_err-head-clause-only
returns-in_err-head-clause-only c =
    let m = c.args.m.now in
    let e = err_from_is_err_and c.from_residual.result c.from_residual.ensures.1 in
    let k = c.in_err-head.field-0.0 in
    only_of m c.from_residual.result (check_answers m c.from_residual.result e.0 k e.1 e.2 (head_first m k c.in_err-head.ensures))

pub returns-in_err-head-clause-fails : goal.returns-in_err-head-clause-fails
returns-in_err-head-clause-fails c =
    let m = c.args.m.now in
    let e = err_from_is_err_and c.from_residual.result c.from_residual.ensures.1 in
    let k = c.in_err-head.field-0.0 in
    fails_where m c.from_residual.result (check_answers m c.from_residual.result e.0 k e.1 e.2 (head_first m k c.in_err-head.ensures))

pub returns-in_err-ends-clause-only : goal.returns-in_err-ends-clause-only
returns-in_err-ends-clause-only c =
    let m = c.args.m.now in
    let r = c.from_residual-in_err-ends.result in
    let e = err_from_is_err_and r c.from_residual-in_err-ends.ensures.1 in
    let k = c.in_err-ends.field-0.0 in
    only_of m c.from_residual-in_err-ends.result (check_answers m r e.0 k e.1 e.2 (lists_first m c.in_ok-head.head k c.in_ok-head.ensures c.in_err-ends.ensures))

pub returns-in_err-ends-clause-fails : goal.returns-in_err-ends-clause-fails
returns-in_err-ends-clause-fails c =
    let m = c.args.m.now in
    let r = c.from_residual-in_err-ends.result in
    let e = err_from_is_err_and r c.from_residual-in_err-ends.ensures.1 in
    let k = c.in_err-ends.field-0.0 in
    fails_where m c.from_residual-in_err-ends.result (check_answers m r e.0 k e.1 e.2 (lists_first m c.in_ok-head.head k c.in_ok-head.ensures c.in_err-ends.ensures))

pub returns-in_err-body-clause-only : goal.returns-in_err-body-clause-only
returns-in_err-body-clause-only c =
    let m = c.args.m.now in
    let r = c.from_residual-in_err-body.result in
    let e = err_from_is_err_and r c.from_residual-in_err-body.ensures.1 in
    let ends = c.in_ok-ends.ends in
    let lists = c.in_ok-ends.ensures in
    only_of m c.from_residual-in_err-body.result (payload_answers m r e.0 c.in_err-body.field-0.0 c.in_ok-head.head ends.dest ends.data lists.0 lists.1 _ e.1 e.2
    (take_rest m ends.data) c.in_ok-head.ensures lists.2 c.in_err-body.ensures)

pub returns-in_err-body-clause-memory : goal.returns-in_err-body-clause-memory
returns-in_err-body-clause-memory c =
    let m = c.args.m.now in
    let r = c.from_residual-in_err-body.result in
    let e = err_from_is_err_and r c.from_residual-in_err-body.ensures.1 in
    let ends = c.in_ok-ends.ends in
    let lists = c.in_ok-ends.ensures in
    memory_then m c.from_residual-in_err-body.result (payload_answers m r e.0 c.in_err-body.field-0.0 c.in_ok-head.head ends.dest ends.data lists.0 lists.1 _ e.1 e.2
    (take_rest m ends.data) c.in_ok-head.ensures lists.2 c.in_err-body.ensures)

pub returns-in_err-body-clause-fails : goal.returns-in_err-body-clause-fails
returns-in_err-body-clause-fails c =
    let m = c.args.m.now in
    let r = c.from_residual-in_err-body.result in
    let e = err_from_is_err_and r c.from_residual-in_err-body.ensures.1 in
    let ends = c.in_ok-ends.ends in
    let lists = c.in_ok-ends.ensures in
    fails_where m c.from_residual-in_err-body.result (payload_answers m r e.0 c.in_err-body.field-0.0 c.in_ok-head.head ends.dest ends.data lists.0 lists.1 _ e.1 e.2
    (take_rest m ends.data) c.in_ok-head.ensures lists.2 c.in_err-body.ensures)

pub returns-in_err-dest_options-clause-memory : goal.returns-in_err-dest_options-clause-memory
returns-in_err-dest_options-clause-memory c =
    let m = c.args.m.now in
    let r = c.from_residual-in_err-dest_options.result in
    let e = err_from_is_err_and r c.from_residual-in_err-dest_options.ensures.1 in
    let ends = c.in_ok-ends.ends in
    let lists = c.in_ok-ends.ensures in
    let head = c.in_ok-head.head in
    memory_then m c.from_residual-in_err-dest_options.result (memory_answers m r e.0 head ends.dest ends.data lists.0 lists.1 c.in_ok-body.body e.1 e.2 c.in_ok-head.ensures lists.2
    (subst (λ p. IsBody head.function p c.in_ok-body.body) (take_rest m ends.data) c.in_ok-body.ensures))

pub returns-in_err-dest_options-clause-fails : goal.returns-in_err-dest_options-clause-fails
returns-in_err-dest_options-clause-fails c =
    let m = c.args.m.now in
    let r = c.from_residual-in_err-dest_options.result in
    let e = err_from_is_err_and r c.from_residual-in_err-dest_options.ensures.1 in
    let ends = c.in_ok-ends.ends in
    let lists = c.in_ok-ends.ensures in
    let head = c.in_ok-head.head in
    fails_where m c.from_residual-in_err-dest_options.result (memory_answers m r e.0 head ends.dest ends.data lists.0 lists.1 c.in_ok-body.body e.1 e.2 c.in_ok-head.ensures lists.2
    (subst (λ p. IsBody head.function p c.in_ok-body.body) (take_rest m ends.data) c.in_ok-body.ensures))

pub returns-in_err-data_options-clause-memory : goal.returns-in_err-data_options-clause-memory
returns-in_err-data_options-clause-memory c =
    let m = c.args.m.now in
    let r = c.from_residual-in_err-data_options.result in
    let e = err_from_is_err_and r c.from_residual-in_err-data_options.ensures.1 in
    let ends = c.in_ok-ends.ends in
    let lists = c.in_ok-ends.ensures in
    let head = c.in_ok-head.head in
    memory_then m c.from_residual-in_err-data_options.result (memory_answers m r e.0 head ends.dest ends.data lists.0 lists.1 c.in_ok-body.body e.1 e.2 c.in_ok-head.ensures lists.2
    (subst (λ p. IsBody head.function p c.in_ok-body.body) (take_rest m ends.data) c.in_ok-body.ensures))

pub returns-in_err-data_options-clause-fails : goal.returns-in_err-data_options-clause-fails
returns-in_err-data_options-clause-fails c =
    let m = c.args.m.now in
    let r = c.from_residual-in_err-data_options.result in
    let e = err_from_is_err_and r c.from_residual-in_err-data_options.ensures.1 in
    let ends = c.in_ok-ends.ends in
    let lists = c.in_ok-ends.ensures in
    let head = c.in_ok-head.head in
    fails_where m c.from_residual-in_err-data_options.result (memory_answers m r e.0 head ends.dest ends.data lists.0 lists.1 c.in_ok-body.body e.1 e.2 c.in_ok-head.ensures lists.2
    (subst (λ p. IsBody head.function p c.in_ok-body.body) (take_rest m ends.data) c.in_ok-body.ensures))

pub returns-clause-found : goal.returns-clause-found
returns-clause-found c =
    let m = c.args.m.now in
    let ends = c.in_ok-ends.ends in
    let lists = c.in_ok-ends.ensures in
    let head = c.in_ok-head.head in
    let dest = c.announces_dest_options-dest_announced in
    let more = c.announces_data_options-data_announced in
    let first = list_answers c.in_ok-dest_options.dest_options m head.rest_at ends.dest lists.0 dest.result
    (announces_dest_options head.flags) dest.ensures c.in_ok-dest_options.ensures lists.2.dest_list in
    let second = list_answers c.in_ok-data_options.data_options m ends.dest ends.data lists.1 more.result
    (announces_data_options head.flags) more.ensures c.in_ok-data_options.ensures lists.2.data_list in
    message_answers m head ends.dest ends.data lists.0 lists.1 c.in_ok-body.body c.in_ok-dest_options.dest_options c.in_ok-data_options.data_options _
    (take_rest m ends.data) first second c.in_ok-head.ensures lists.2 c.in_ok-body.ensures

pub returns-clause-only : goal.returns-clause-only
returns-clause-only c =
    let m = c.args.m.now in
    let ends = c.in_ok-ends.ends in
    let lists = c.in_ok-ends.ensures in
    let head = c.in_ok-head.head in
    let dest = c.announces_dest_options-dest_announced in
    let more = c.announces_data_options-data_announced in
    let first = list_answers c.in_ok-dest_options.dest_options m head.rest_at ends.dest lists.0 dest.result
    (announces_dest_options head.flags) dest.ensures c.in_ok-dest_options.ensures lists.2.dest_list in
    let second = list_answers c.in_ok-data_options.data_options m ends.dest ends.data lists.1 more.result
    (announces_data_options head.flags) more.ensures c.in_ok-data_options.ensures lists.2.data_list in
    only_of m (Ok (message_of head c.in_ok-dest_options.dest_options c.in_ok-data_options.data_options c.in_ok-body.body))
    (message_answers m head ends.dest ends.data lists.0 lists.1 c.in_ok-body.body c.in_ok-dest_options.dest_options c.in_ok-data_options.data_options _
    (take_rest m ends.data) first second c.in_ok-head.ensures lists.2 c.in_ok-body.ensures)

pub returns-clause-fails : goal.returns-clause-fails
returns-clause-fails c =
    let m = c.args.m.now in
    let ends = c.in_ok-ends.ends in
    let lists = c.in_ok-ends.ensures in
    let head = c.in_ok-head.head in
    let dest = c.announces_dest_options-dest_announced in
    let more = c.announces_data_options-data_announced in
    let first = list_answers c.in_ok-dest_options.dest_options m head.rest_at ends.dest lists.0 dest.result
    (announces_dest_options head.flags) dest.ensures c.in_ok-dest_options.ensures lists.2.dest_list in
    let second = list_answers c.in_ok-data_options.data_options m ends.dest ends.data lists.1 more.result
    (announces_data_options head.flags) more.ensures c.in_ok-data_options.ensures lists.2.data_list in
    fails_where m (Ok (message_of head c.in_ok-dest_options.dest_options c.in_ok-data_options.data_options c.in_ok-body.body))
    (message_answers m head ends.dest ends.data lists.0 lists.1 c.in_ok-body.body c.in_ok-dest_options.dest_options c.in_ok-data_options.data_options _
    (take_rest m ends.data) first second c.in_ok-head.ensures lists.2 c.in_ok-body.ensures)
