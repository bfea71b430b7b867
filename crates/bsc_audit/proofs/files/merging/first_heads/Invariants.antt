-- These are the heads of the files so far.
use Rattle.std.proofs.Common.{◌≡◌, ◌-◌, ◌≤◌, ◌<◌, ◌^◌, ℕ, List, length}
use Rattle.std.specs.BinaryHeap.{heap_items}
use Rattle.std.specs.List.{AllByRecursion}
use Rattle.bsc_journal.specs.declared.journal_record.JournalRecord.{JournalRecord}
use Rattle.bsc_audit.specs.Merging.{AreHeads}
use Rattle.bsc_audit.specs.Together.{FilesSay}
use Rattle.bsc_audit.proofs.files.merging.first_heads.Given as goal

abbrev pub invariant-files : goal.invariant-files
invariant-files g l = record {
  room : 0 < length l.room.chunk.items;
  within : l.file ≤ l.count;
  reach : AllByRecursion (λ h. h.at ≤ 2 ^ 63) (heap_items l.heads.heap);
  heads : (fs : List (List ℕ)) (said : List (List JournalRecord)) → g.F.Pieces.holds l.files fs → length fs ≡ l.count → FilesSay fs said → AreHeads fs l.file (heap_items l.heads.heap);
  stays : (fs : List (List ℕ)) → g.F.Pieces.holds l.files fs → g.F.Pieces.holds l.fn.files fs;
  later : g.F.Pieces.faults l.fn.files ≤ g.F.Pieces.faults l.files;
}

abbrev pub decreases-files : goal.decreases-files
decreases-files g l = l.count - l.file
