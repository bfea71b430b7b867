-- The files so far are good and were summed up.
use Rattle.std.proofs.Common.{◌≡◌, ◌-◌, ◌≤◌, ◌<◌, ℕ, List, length, take}
use Rattle.bsc_audit.specs.Merging.{AddsFiles}
use Rattle.bsc_audit.proofs.files.checking.check_files.Given as goal

abbrev pub invariant-files : goal.invariant-files
invariant-files g l = record {
  room : 0 < length l.room.chunk.items;
  within : l.file ≤ l.count;
  adds : (fs : List (List ℕ)) → g.F.Pieces.holds l.files fs → length fs ≡ l.count → AddsFiles (take l.file fs) l.sums;
  stays : (fs : List (List ℕ)) → g.F.Pieces.holds l.files fs → g.F.Pieces.holds l.fn.files fs;
  later : g.F.Pieces.faults l.fn.files ≤ g.F.Pieces.faults l.files;
}

abbrev pub decreases-files : goal.decreases-files
decreases-files g l = l.count - l.file
