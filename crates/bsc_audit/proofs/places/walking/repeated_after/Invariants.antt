-- What the spots that are left come to is what all come to.
use Rattle.std.proofs.Common.{◌≡◌, length, map}
use Rattle.bsc_audit.specs.Places.Walking.{repeated_after}
use Rattle.bsc_audit.proofs.places.walking.repeated_after.Given as goal

abbrev pub invariant-loop-spots : goal.invariant-loop-spots
invariant-loop-spots l = repeated_after l.last (map (λ s. s.place) l.spots) ≡ repeated_after l.initial.last (map (λ s. s.place) l.initial.spots)

abbrev pub decreases-loop-spots : goal.decreases-loop-spots
decreases-loop-spots l = length l.spots
