-- What the spots that are left come to is what all come to.
use Rattle.std.proofs.Common.{◌≡◌, ◌+◌, length, map}
use Rattle.bsc_audit.specs.Places.Walking.{skipped}
use Rattle.bsc_audit.proofs.places.walking.skipped.Given as goal

abbrev pub invariant-loop-spots : goal.invariant-loop-spots
invariant-loop-spots l = record {
  walked : skipped l.next (map (λ s. s.place) l.spots) ≡ skipped 0 (map (λ s. s.place) l.initial.spots);
  counted : l.next + length l.spots ≡ length l.initial.spots;
}

abbrev pub decreases-loop-spots : goal.decreases-loop-spots
decreases-loop-spots l = length l.spots
