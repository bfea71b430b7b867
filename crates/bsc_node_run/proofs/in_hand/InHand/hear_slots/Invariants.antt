use Rattle.std.proofs.Common.{◌≤◌, ◌-◌}
use Rattle.bsc_direct.specs.declared.bounds.TheConstants.{SLOTS}
use Rattle.bsc_node_run.specs.Drawing.{Draws, GoesDrawing}
use Rattle.bsc_node_run.specs.Handling.{IsSameHand, node_in, world_in}
use Rattle.bsc_node_run.specs.Stopping.{EachStop}
use Rattle.bsc_node_run.specs.Turning.{HearsEach, slots_from}
use Rattle.bsc_node_run.specs.Worlds.{World, dialling}
use Rattle.bsc_node_run.proofs.in_hand.InHand.hear_slots.Given as goal

-- What comes of the slots that are left, with what came of those before, is all that comes.
abbrev pub invariant-loop-k : goal.invariant-loop-k
invariant-loop-k g l = record {
  hears : (m : _) (v : World _) → HearsEach (GoesDrawing g.N.Core.goes (Draws g.W.Words.gives g.W.Words.faults)) g.L.Link.talk l.at.time (slots_from (SLOTS - l.k) l.k) (node_in l.self)
      (world_in (dialling g.D.Dialer.calls g.D.Dialer.left g.D.Dialer.came g.D.Dialer.faults) g.K.Sink.held l.self) m v
      → HearsEach (GoesDrawing g.N.Core.goes (Draws g.W.Words.gives g.W.Words.faults)) g.L.Link.talk l.at.time (slots_from SLOTS 0) (node_in l.initial.self)
      (world_in (dialling g.D.Dialer.calls g.D.Dialer.left g.D.Dialer.came g.D.Dialer.faults) g.K.Sink.held l.initial.self) m v;
  stops : (v : World _) → EachStop (GoesDrawing g.N.Core.goes (Draws g.W.Words.gives g.W.Words.faults)) g.L.Link.talk l.at.time (slots_from (SLOTS - l.k) l.k) (node_in l.self)
      (world_in (dialling g.D.Dialer.calls g.D.Dialer.left g.D.Dialer.came g.D.Dialer.faults) g.K.Sink.held l.self) v
      → EachStop (GoesDrawing g.N.Core.goes (Draws g.W.Words.gives g.W.Words.faults)) g.L.Link.talk l.at.time (slots_from SLOTS 0) (node_in l.initial.self)
      (world_in (dialling g.D.Dialer.calls g.D.Dialer.left g.D.Dialer.came g.D.Dialer.faults) g.K.Sink.held l.initial.self) v;
  later : g.K.Sink.faults l.initial.self.sink.now ≤ g.K.Sink.faults l.self.sink.now;
  same : IsSameHand l.initial.self l.self;
}
