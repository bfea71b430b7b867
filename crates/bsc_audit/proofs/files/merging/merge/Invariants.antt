-- The entries so far were taken in the order of their places, and weighed.
use Rattle.std.proofs.Common.{◌≡◌, ◌-◌, ◌≤◌, ◌<◌, ◌^◌, ℕ, List, length}
use Rattle.std.specs.BinaryHeap.{heap_items}
use Rattle.std.specs.List.{AllByRecursion}
use Rattle.bsc_history.specs.declared.entry.Entry.{Entry}
use Rattle.bsc_history.specs.declared.limits.About.{About}
use Rattle.bsc_legality.specs.Standing.{LegalityStands}
use Rattle.bsc_audit.specs.Merging.{AreHeads}
use Rattle.bsc_audit.proofs.FileFacts.MergedAll.{HasMerged}
use Rattle.bsc_audit.proofs.files.merging.merge.Given as goal

abbrev pub invariant-heads : goal.invariant-heads
invariant-heads g l = record {
  room : 0 < length l.room.chunk.items;
  reach : AllByRecursion (λ h. h.at ≤ 2 ^ 63) (heap_items l.heads.heap);
  some : (about : About) × (H : List Entry) × LegalityStands l.weighing.legality about H;
  few : l.weighing.legality.entries ≤ l.weighing.count;
  count : l.weighing.count ≤ l.entries;
  merged : (fs : List (List ℕ)) → g.F.Pieces.holds l.files fs → AreHeads fs l.count (heap_items l.initial.heads.heap) → length fs ≡ l.count → HasMerged fs l.about (heap_items l.heads.heap) l.weighing;
  stays : (fs : List (List ℕ)) → g.F.Pieces.holds l.files fs → g.F.Pieces.holds l.fn.files fs;
  later : g.F.Pieces.faults l.fn.files ≤ g.F.Pieces.faults l.files;
}

abbrev pub decreases-heads : goal.decreases-heads
decreases-heads g l = l.entries - l.weighing.count
