-- The lines so far were good and were summed up; a line that is read leaves less.
use Rattle.std.proofs.Common.{◌-◌, ◌≤◌, ◌<◌, ◌^◌, ℕ, List, length}
use Rattle.bsc_audit.specs.Pieces.{file_at}
use Rattle.bsc_audit.proofs.FileFacts.Checked.{ChecksTo}
use Rattle.bsc_audit.proofs.files.checking.check_file.Given as goal

abbrev pub invariant-lines : goal.invariant-lines
invariant-lines g l = record {
  room : 0 < length l.room.chunk.items;
  reach : l.at ≤ 2 ^ 63;
  few : l.line ≤ l.at;
  checks : (fs : List (List ℕ)) → g.F.Pieces.holds l.files fs → ChecksTo (file_at fs l.file) l.at l.line l.last l.fn.sums l.sums;
  stays : (fs : List (List ℕ)) → g.F.Pieces.holds l.files fs → g.F.Pieces.holds l.fn.files fs;
  later : g.F.Pieces.faults l.fn.files ≤ g.F.Pieces.faults l.files;
}

abbrev pub decreases-lines : goal.decreases-lines
decreases-lines g l = 2 ^ 63 - l.at
