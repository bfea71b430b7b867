-- The head of one more file is put among the heads.
use Rattle.std.proofs.Common.{rules, ◌≡◌, ◌<◌, ◌^◌, ◌++◌, true, length, option_to_list, IsPermutation, arith}
use Rattle.std.specs.Prelude.{is_ok}
use Rattle.std.specs.BinaryHeap.{heap_items}
use Rattle.bsc_audit.proofs.FileFacts.MergedAll.{found_within, heads_next, on_ok}
use Rattle.bsc_audit.proofs.FileFacts.SaidLines.{file_there}
use Rattle.bsc_audit.proofs.files.merging.first_heads.Goals as goal

pub returns-in-Err-clause-stops : goal.returns-in-Err-clause-stops
returns-in-Err-clause-stops g c = λ fs said holds long all.
    let within : c.files.file < length fs = (let less = c.files-test.true in omega (arith, less, long)) in
    let there = file_there fs said c.files.file within all in
    c.in-Err.ensures.stops fs there.0 holds there.1

pub files-preserved : goal.files-preserved
files-preserved g c =
    let less = c.files-test.true in
    let was = c.files.invariant.later in
    let now = c.find_head.ensures.later in
    let old = heap_items c.files.heads.heap in
    let new = heap_items c.put_head.new.heads.heap in
    let ok : is_ok c.put_head.result ≡ true = search rules in
    let perm : IsPermutation (option_to_list c.in-Ok.found ++ old) new = on_ok c.put_head.result (IsPermutation (option_to_list c.in-Ok.found ++ old) new) ok c.put_head.ensures in
    record {
      room = c.find_head.ensures.room;
      within = omega (arith, less);
      reach = found_within (2 ^ 63) c.files.file c.in-Ok.found old new c.in-Ok.ensures.within c.files.invariant.reach perm;
      heads = λ fs said holds long all.
          let within : c.files.file < length fs = omega (arith, less, long) in
          let there = file_there fs said c.files.file within all in
          heads_next fs c.files.file c.in-Ok.found old new within (c.files.invariant.heads fs said (c.find_head.ensures.stays fs holds) long all)
          (c.in-Ok.ensures.head fs there.0 holds there.1) perm;
      stays = λ fs holds. c.files.invariant.stays fs (c.find_head.ensures.stays fs holds);
      later = omega (arith, was, now);
    }
