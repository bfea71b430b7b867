-- The entries so far were judged, of each history whose lines stand at the spots.
use Rattle.std.proofs.Common.{◌≡◌, ◌+◌, List, length}
use Rattle.bsc_history.specs.declared.entry.Entry.{Entry}
use Rattle.bsc_audit.specs.Hearing.{AreInOrder}
use Rattle.bsc_audit.proofs.InTurn.{Judged}
use Rattle.bsc_audit.proofs.judging.judge_entries.Given as goal

abbrev pub invariant-loop-spot : goal.invariant-loop-spot
invariant-loop-spot l = record {
  judged : (H : List Entry) → AreInOrder l.octets l.initial.spots H → Judged l.about l.octets l.spots l.legality l.place H;
  counted : l.place + length l.spots ≡ length l.initial.spots;
}

abbrev pub decreases-loop-spot : goal.decreases-loop-spot
decreases-loop-spot l = length l.spots
