-- What was read so far was heard; a read that gives octets leaves less to be read.
use Rattle.std.proofs.Common.{◌≤◌, ◌<◌, ◌+◌, ◌-◌, false, length}
use Rattle.std.specs.Io.KnownBytes.{Consumes}
use Rattle.bsc_journal.specs.declared.bounds.TheConstants.{MOST_IN_ALL}
use Rattle.bsc_audit.specs.Hearing.{HasHeard}
use Rattle.bsc_audit.proofs.Told.{HasRead}
use Rattle.bsc_audit.proofs.taking.take_in.Given as goal

abbrev pub invariant-reading : goal.invariant-reading
invariant-reading g l = record {
  heard : HasHeard l.octets.items l.heard;
  read : Consumes (g.S.Source.left l.fn.source) (g.S.Source.left l.source) l.octets.items;
  later : g.S.Source.faults l.fn.source ≤ g.S.Source.faults l.source;
  room : 0 < length l.chunk.items;
  told : HasRead (g.S.Source.reads l.fn.source) (g.S.Source.reads l.source) l.octets.items false;
}

abbrev pub decreases-reading : goal.decreases-reading
decreases-reading g l = (MOST_IN_ALL + 1) - length l.octets.items
