-- The entry of a head is taken behind those that were, and weighed.
use Rattle.std.proofs.Common.{rules, ◌≡◌, ◌++◌, true, option_to_list, IsPermutation}
use Rattle.std.specs.Prelude.{is_ok}
use Rattle.std.specs.BinaryHeap.{heap_items}
use Rattle.bsc_audit.specs.Merging.{TakesEntry}
use Rattle.bsc_audit.proofs.FileFacts.MergedAll.{merges_on, on_ok}
use Rattle.bsc_audit.proofs.files.merging.merge_one.Goals as goal

pub returns-clause-merged : goal.returns-clause-merged
returns-clause-merged g c = λ fs about done holds next w.
    let h = c.args.head in
    let old = heap_items c.args.heads.now.heap in
    let new = heap_items c.put_head.new.heads.heap in
    let found = c.in-Ok-find_head.found in
    let ok : is_ok c.put_head.result ≡ true = search rules in
    let perm : IsPermutation (option_to_list found ++ old) new = on_ok c.put_head.result (IsPermutation (option_to_list found ++ old) new) ok c.put_head.ensures in
    let takes : TakesEntry fs h c.in-Ok.taken.0 c.in-Ok.taken.1 = c.in-Ok.ensures.entry fs (c.find_head.ensures.stays fs holds) next.merged.each.0 in
    merges_on fs about done h old c.in-Ok.taken.0 c.in-Ok.taken.1 found new c.weigh.new.weighing next takes (c.in-Ok-find_head.ensures.head fs takes.said holds takes.says) perm
    (c.weigh.ensures.weighs about done w)
