use Rattle.std.proofs.Common.{◌≡◌, length}
use Rattle.bsc_ring.specs.Ends.{empties_of, given, outlet_mark}
use Rattle.bsc_load.proofs.storm.staying.take_some.Given as goal

abbrev pub invariant-loop-k : goal.invariant-loop-k
invariant-loop-k l = (outlet_mark l.outlet ≡ outlet_mark l.fn.outlet) × (length (given l.outlet) ≡ l.k) × (empties_of l.outlet ≡ 0)
