use Rattle.std.proofs.Common.{◌≡◌, ◌≤◌, ◌<◌, ◌++◌, ℕ, List, length}
use Rattle.std.specs.List.{concat}
use Rattle.bsc_text.specs.Gave.{Gave}
use Rattle.bsc_ring.specs.Ends.{inlet_mark}
use Rattle.bsc_input.proofs.line_feed.LineFeed.read_all.Given as goal

-- What was read is what the reads gave.
abbrev pub invariant-loop : goal.invariant-loop
invariant-loop g l = (goal.iterator-loop g).can_next l.iterator' × (goal.iterator-loop g).is_finite l.iterator' × record {
  gave : List (List ℕ);
  told : Gave (g.S.Source.reads l.initial.source) (g.S.Source.reads l.source) gave;
  read : l.self.cutter.read.items ≡ l.initial.self.cutter.read.items ++ concat gave;
  mark : inlet_mark l.self.inlet ≡ inlet_mark l.initial.self.inlet;
  room : 0 < length l.room;
  later : g.S.Source.faults l.initial.source ≤ g.S.Source.faults l.source;
}
