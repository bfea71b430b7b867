use Rattle.std.proofs.Common.{◌≤◌, List, length}
use Rattle.bsc_node_run.specs.Drawing.{Draws, GoesDrawing}
use Rattle.bsc_node_run.specs.Handling.{IsSameHand, node_in, world_in}
use Rattle.bsc_node_run.specs.declared.news.News.{News}
use Rattle.bsc_node_run.specs.Stopping.{NewsStop}
use Rattle.bsc_node_run.specs.Turning.{GivesNews}
use Rattle.bsc_node_run.specs.Worlds.{World, dialling}
use Rattle.bsc_node_run.proofs.in_hand.InHand.give_news.Given as goal

-- What is new from here on, with what was before, is all that is new.
abbrev pub invariant-loop-news : goal.invariant-loop-news
invariant-loop-news g l = record {
  gives : (more : List News) (m : _) (v : World _) → GivesNews (GoesDrawing g.N.Core.goes (Draws g.W.Words.gives g.W.Words.faults)) g.L.Link.talk l.at.time more (node_in l.self)
      (world_in (dialling g.D.Dialer.calls g.D.Dialer.left g.D.Dialer.came g.D.Dialer.faults) g.K.Sink.held l.self) m v
      → (all : List News) × GivesNews (GoesDrawing g.N.Core.goes (Draws g.W.Words.gives g.W.Words.faults)) g.L.Link.talk l.at.time all (node_in l.initial.self)
      (world_in (dialling g.D.Dialer.calls g.D.Dialer.left g.D.Dialer.came g.D.Dialer.faults) g.K.Sink.held l.initial.self) m v;
  stops : (more : List News) (v : World _) → NewsStop (GoesDrawing g.N.Core.goes (Draws g.W.Words.gives g.W.Words.faults)) g.L.Link.talk l.at.time more (node_in l.self)
      (world_in (dialling g.D.Dialer.calls g.D.Dialer.left g.D.Dialer.came g.D.Dialer.faults) g.K.Sink.held l.self) v
      → (all : List News) × NewsStop (GoesDrawing g.N.Core.goes (Draws g.W.Words.gives g.W.Words.faults)) g.L.Link.talk l.at.time all (node_in l.initial.self)
      (world_in (dialling g.D.Dialer.calls g.D.Dialer.left g.D.Dialer.came g.D.Dialer.faults) g.K.Sink.held l.initial.self) v;
  later : g.K.Sink.faults l.initial.self.sink.now ≤ g.K.Sink.faults l.self.sink.now;
  same : IsSameHand l.initial.self l.self;
}

-- Nothing that a node does makes more news due in the same turn.
abbrev pub decreases-loop-news : goal.decreases-loop-news
decreases-loop-news g l = length l.self.set.now.due.items
