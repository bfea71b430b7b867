use Rattle.std.proofs.Common.{◌≤◌, ◌-◌, length}
use Rattle.std.specs.Io.KnownBytes.{Keeps}
use Rattle.bsc_live.specs.Written.{written}
use Rattle.bsc_live.proofs.held.put_from.Given as goal

-- What has left so far stood in front.
abbrev pub invariant-loop-at : goal.invariant-loop-at
invariant-loop-at g l = (l.at ≤ length l.octets) × Keeps (written (g.T.Wire.left l.fn.wire) l.octets l.fn.place) (written (g.T.Wire.left l.wire) l.octets l.at)

abbrev pub decreases-loop-at : goal.decreases-loop-at
decreases-loop-at g l = length l.octets - l.at
