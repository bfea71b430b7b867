-- What the looks that are left come to is what all come to.
use Rattle.std.proofs.Common.{◌≡◌, length}
use Rattle.bsc_legality.specs.BreachesIn.{look_breach_in}
use Rattle.bsc_legality.proofs.breaching.look_breach.Given as goal

abbrev pub invariant-loop-looks : goal.invariant-loop-looks
invariant-loop-looks l = look_breach_in l.rows l.looks ≡ look_breach_in l.rows l.initial.looks

abbrev pub decreases-loop-looks : goal.decreases-loop-looks
decreases-loop-looks l = length l.looks
