use Rattle.std.proofs.Common.{◌≡◌, ◌≤◌, List, ◌++◌, length}
use Rattle.bsc_node_run.specs.Drawing.{Draws, GoesDrawing}
use Rattle.bsc_node_run.specs.Handling.{IsSameHand, node_in, world_in}
use Rattle.bsc_node_run.specs.declared.due.Due.{Due}
use Rattle.bsc_node_run.specs.Stopping.{LinesStop}
use Rattle.bsc_node_run.specs.Turning.{AreDue, GivesLines}
use Rattle.bsc_node_run.specs.Worlds.{World, dialling}
use Rattle.bsc_node_run.proofs.in_hand.InHand.give_due.Given as goal

-- What is due of the lines that are left, with those before, is all that is due.
abbrev pub invariant-loop-left : goal.invariant-loop-left
invariant-loop-left g l = record {
  gives : (lines rest : List Due) (m : _) (v : World _) → l.left ≡ lines ++ rest → AreDue l.at.passed lines
      → GivesLines (GoesDrawing g.N.Core.goes (Draws g.W.Words.gives g.W.Words.faults)) g.L.Link.talk l.at.time lines (node_in l.self)
      (world_in (dialling g.D.Dialer.calls g.D.Dialer.left g.D.Dialer.came g.D.Dialer.faults) g.K.Sink.held l.self) m v
      → (all : List Due) × (l.initial.left ≡ all ++ rest) × AreDue l.at.passed all
      × GivesLines (GoesDrawing g.N.Core.goes (Draws g.W.Words.gives g.W.Words.faults)) g.L.Link.talk l.at.time all (node_in l.initial.self)
      (world_in (dialling g.D.Dialer.calls g.D.Dialer.left g.D.Dialer.came g.D.Dialer.faults) g.K.Sink.held l.initial.self) m v;
  stops : (lines rest : List Due) (v : World _) → l.left ≡ lines ++ rest → AreDue l.at.passed lines
      → LinesStop (GoesDrawing g.N.Core.goes (Draws g.W.Words.gives g.W.Words.faults)) g.L.Link.talk l.at.time lines (node_in l.self)
      (world_in (dialling g.D.Dialer.calls g.D.Dialer.left g.D.Dialer.came g.D.Dialer.faults) g.K.Sink.held l.self) v
      → (all rest : List Due) × (l.initial.left ≡ all ++ rest) × AreDue l.at.passed all
      × LinesStop (GoesDrawing g.N.Core.goes (Draws g.W.Words.gives g.W.Words.faults)) g.L.Link.talk l.at.time all (node_in l.initial.self)
      (world_in (dialling g.D.Dialer.calls g.D.Dialer.left g.D.Dialer.came g.D.Dialer.faults) g.K.Sink.held l.initial.self) v;
  later : g.K.Sink.faults l.initial.self.sink.now ≤ g.K.Sink.faults l.self.sink.now;
  same : IsSameHand l.initial.self l.self;
}

abbrev pub decreases-loop-left : goal.decreases-loop-left
decreases-loop-left g l = length l.left
