use Rattle.std.proofs.Common.{◌≡◌, ℕ}
use Rattle.bsc_ring.specs.Ends.{outlet_mark}
use Rattle.bsc_load.specs.Inner.{Emptied, IsCounted}
use Rattle.bsc_load.proofs.taking.take_all.Given as goal

abbrev pub invariant-loop : goal.invariant-loop
invariant-loop g l =
    (goal.iterator-loop g).can_next l.iterator' × (goal.iterator-loop g).is_finite l.iterator' × (outlet_mark l.outlet ≡ outlet_mark l.fn.outlet) × IsCounted l.outlet l.octets
    × ((n : ℕ) → Emptied n l.fn.outlet → Emptied n l.outlet)
