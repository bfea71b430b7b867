-- What was read so far stands at the offset; a read that gives octets leaves less to be read.
use Rattle.std.proofs.Common.{◌+◌, ◌-◌, ◌≤◌, ◌<◌, ◌^◌, ℕ, List, length}
use Rattle.bsc_journal.specs.declared.bounds.TheConstants.{MOST_IN_LINE}
use Rattle.bsc_audit.specs.Pieces.{StandsAt, file_at}
use Rattle.bsc_audit.proofs.files.piece_reading.read_piece.Given as goal

abbrev pub invariant-reading : goal.invariant-reading
invariant-reading g l = record {
  room : 0 < length l.room.chunk.items;
  reach : l.at + length l.room.octets.items ≤ 2 ^ 63;
  stands : (fs : List (List ℕ)) → g.F.Pieces.holds l.files fs → StandsAt (file_at fs l.file) l.at l.room.octets.items;
  stays : (fs : List (List ℕ)) → g.F.Pieces.holds l.files fs → g.F.Pieces.holds l.fn.files fs;
  later : g.F.Pieces.faults l.fn.files ≤ g.F.Pieces.faults l.files;
}

abbrev pub decreases-reading : goal.decreases-reading
decreases-reading g l = (MOST_IN_LINE + 2) - length l.room.octets.items
