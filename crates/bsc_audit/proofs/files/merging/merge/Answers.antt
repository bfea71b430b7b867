-- Each entry that is taken is the next of all, and no more are taken than there are.
use Rattle.std.proofs.Common.{◌≤◌, ◌^◌, ◌++◌, ◌∷◌, [], inl, inr, arith}
use Rattle.std.specs.BinaryHeap.{heap_items}
use Rattle.bsc_audit.specs.declared.files.head.Head.{Head}
use Rattle.bsc_audit.specs.Merging.{MergesOn, TakesNext}
use Rattle.bsc_audit.proofs.FileFacts.MergedAll.{HasMerged, all_permuted, come_to, some_left, takes_next}
use Rattle.bsc_audit.proofs.files.merging.merge.Goals as goal

pub returns-then-weighing-entries-clause-comes : goal.returns-then-weighing-entries-clause-comes
returns-then-weighing-entries-clause-comes g c = λ fs holds heads long many.
    let old = heap_items c.heads.heads.heap in
    let new = heap_items c.take_head.new.heads.heap in
    let m : HasMerged fs c.args.about.now old c.heads.weighing = c.heads.invariant.merged fs holds heads long in
    let next : TakesNext fs m.done c.in-Some.head new = takes_next fs m.done old c.in-Some.head new m.merged c.in-Some.ensures.0 c.in-Some.ensures.1 in
    let more = some_left fs m.done c.in-Some.head new next in
    let count = m.weighs.count in
    let all = c.if-weighing-entries.true in
    let no : ⊥ = omega (arith, more, count, all, many) in
    absurd no

pub merge_one-requires-clause-offset : goal.merge_one-requires-clause-offset
merge_one-requires-clause-offset g c =
    (all_permuted (λ (h : Head). h.at ≤ 2 ^ 63) (heap_items c.heads.heads.heap) (c.in-Some.head ∷ heap_items c.take_head.new.heads.heap) c.in-Some.ensures.0 c.heads.invariant.reach).0

pub merge_one-requires-clause-within : goal.merge_one-requires-clause-within
merge_one-requires-clause-within g c =
    (all_permuted (λ (h : Head). h.at ≤ 2 ^ 63) (heap_items c.heads.heads.heap) (c.in-Some.head ∷ heap_items c.take_head.new.heads.heap) c.in-Some.ensures.0 c.heads.invariant.reach).1

pub returns-in-Err-clause-comes : goal.returns-in-Err-clause-comes
returns-in-Err-clause-comes g c = λ fs holds heads long many.
    let old = heap_items c.heads.heads.heap in
    let new = heap_items c.take_head.new.heads.heap in
    let m : HasMerged fs c.args.about.now old c.heads.weighing = c.heads.invariant.merged fs (c.merge_one.ensures.stays fs holds) heads long in
    let next : TakesNext fs m.done c.in-Some.head new = takes_next fs m.done old c.in-Some.head new m.merged c.in-Some.ensures.0 c.in-Some.ensures.1 in
    inl (c.in-Err.ensures.stops fs holds next.merged.each.0)

pub heads-preserved : goal.heads-preserved
heads-preserved g c =
    let old = heap_items c.heads.heads.heap in
    let new = heap_items c.take_head.new.heads.heap in
    let was = c.heads.invariant.later in
    let now = c.merge_one.ensures.later in
    let before = c.heads.invariant.count in
    let other = c.if-weighing-entries.false in
    let more = c.in_default-merge_one.ensures.count in
    record {
      room = c.merge_one.ensures.room;
      reach = c.in_default-merge_one.ensures.within;
      some = c.in_default-merge_one.ensures.some;
      few = c.in_default-merge_one.ensures.few;
      count = omega (arith, before, other, more);
      merged = λ fs holds heads long.
          let m : HasMerged fs c.args.about.now old c.heads.weighing = c.heads.invariant.merged fs (c.merge_one.ensures.stays fs holds) heads long in
          let next : TakesNext fs m.done c.in-Some.head new = takes_next fs m.done old c.in-Some.head new m.merged c.in-Some.ensures.0 c.in-Some.ensures.1 in
          let on : MergesOn fs c.args.about.now m.done (heap_items c.merge_one.new.heads.heap) c.merge_one.new.weighing =
          c.in_default-merge_one.ensures.merged fs c.args.about.now m.done holds next m.weighs in
          record { done = m.done ++ on.entry ∷ []; merged = on.merged; weighs = on.weighs };
      stays = λ fs holds. c.heads.invariant.stays fs (c.merge_one.ensures.stays fs holds);
      later = omega (arith, was, now);
    }

pub returns-clause-comes : goal.returns-clause-comes
returns-clause-comes g c = λ fs holds heads long many.
    let old = heap_items c.heads.heads.heap in
    inr (come_to fs c.args.about.now old c.heads.weighing c.end_of_weighing.result c.args.count c.in_default-take_head.ensures long (c.heads.invariant.merged fs holds heads long) c.end_of_weighing.ensures.weighs)

pub returns-clause-fault : goal.returns-clause-fault
returns-clause-fault g c = λ k e. absurd (c.end_of_weighing.ensures.read k e)
