use Rattle.std.proofs.Common.{◌≡◌}
use Rattle.bsc_ring.specs.Ends.{outlet_mark}
use Rattle.bsc_load.specs.Inner.{Emptied, IsCounted, RanForwards}
use Rattle.bsc_load.proofs.worker.forward_all.Given as goal

abbrev pub invariant-loop-k : goal.invariant-loop-k
invariant-loop-k g l = RanForwards l.hub l.i l.conn l.k l.fn.pass l.pass × IsCounted l.outlet l.octets × (outlet_mark l.outlet ≡ outlet_mark l.fn.outlet) × Emptied l.k l.outlet
