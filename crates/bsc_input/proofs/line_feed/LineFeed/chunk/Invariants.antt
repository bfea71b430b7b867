use Rattle.std.proofs.Common.{◌≡◌, ℕ, List, ◌++◌, length}
use Rattle.bsc_ring.specs.Ends.{inlet_mark}
use Rattle.bsc_input.proofs.line_feed.LineFeed.chunk.Given as goal

-- These octets of the chunk were read, and the others are left.
abbrev pub invariant-loop-left : goal.invariant-loop-left
invariant-loop-left g l = record {
  done : List ℕ;
  parts : l.chunk ≡ done ++ l.left;
  read : l.self.cutter.read.items ≡ l.initial.self.cutter.read.items ++ done;
  mark : inlet_mark l.self.inlet ≡ inlet_mark l.initial.self.inlet;
}

abbrev pub decreases-loop-left : goal.decreases-loop-left
decreases-loop-left g l = length l.left
