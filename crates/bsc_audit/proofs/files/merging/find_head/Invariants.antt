-- No entry stands up to an offset; a line that is read leaves less.
use Rattle.std.proofs.Common.{◌-◌, ◌≤◌, ◌<◌, ◌^◌, ℕ, List, length, drop}
use Rattle.bsc_journal.specs.declared.journal_record.JournalRecord.{JournalRecord}
use Rattle.bsc_audit.specs.Pieces.{file_at}
use Rattle.bsc_audit.specs.Together.{FileSays}
use Rattle.bsc_audit.proofs.FileFacts.Heading.{IsPassed}
use Rattle.bsc_audit.proofs.files.merging.find_head.Given as goal

abbrev pub invariant-lines : goal.invariant-lines
invariant-lines g l = record {
  room : 0 < length l.room.chunk.items;
  reach : l.at ≤ 2 ^ 63;
  passed : (fs : List (List ℕ)) (said : List JournalRecord) → g.F.Pieces.holds l.files fs → FileSays (drop l.from (file_at fs l.file)) said → IsPassed (file_at fs l.file) l.from l.at;
  stays : (fs : List (List ℕ)) → g.F.Pieces.holds l.files fs → g.F.Pieces.holds l.fn.files fs;
  later : g.F.Pieces.faults l.fn.files ≤ g.F.Pieces.faults l.files;
}

abbrev pub decreases-lines : goal.decreases-lines
decreases-lines g l = 2 ^ 63 - l.at
