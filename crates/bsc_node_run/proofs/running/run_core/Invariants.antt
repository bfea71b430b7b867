use Rattle.std.proofs.Common.{◌≡◌, ◌≤◌, ℕ, false, List, None, ◌++◌, length}
use Rattle.bsc_edge.specs.Told.{Grows, Stays}
use Rattle.bsc_node_run.specs.Drawing.{Draws, GoesDrawing, at_rest}
use Rattle.bsc_node_run.specs.Resting.{rest_before}
use Rattle.bsc_node_run.specs.Running.{DontFall, Turns}
use Rattle.bsc_node_run.specs.Stopping.{TurnsStop}
use Rattle.bsc_node_run.specs.Worlds.{Admitting, World, admitting, dialling, world_of}
use Rattle.bsc_node_run.specs.Moments.{in_hands, moment}
use Rattle.bsc_node_run.proofs.Resting.{GoOn}
use Rattle.bsc_node_run.proofs.running.run_core.Given as goal

-- Turns were made at these times, each behind its wait. Turns and waits from here on go on with them, as do readings that don't
-- fall.
abbrev pub invariant-loop-made : goal.invariant-loop-made
invariant-loop-made g l = record {
  times : List ℕ;
  readings : Grows (g.C.Clock.readings l.initial.clock) (g.C.Clock.readings l.clock) times;
  count : length times ≡ l.made;
  going : l.set.finished ≡ false;
  turns : (more : List ℕ) (m : _) (v : World _) (door : Admitting _)
      → Turns (GoesDrawing g.N.Core.goes (Draws g.W.Words.gives g.W.Words.faults)) g.L.Link.talk l.fn.terms.listens more l.start l.left
      (moment (at_rest l.node l.parts.random) (world_of l.set (dialling g.D.Dialer.calls g.D.Dialer.left g.D.Dialer.came g.D.Dialer.faults l.parts.dialer) (g.K.Sink.held l.sink))
      (admitting g.A.Acceptor.left g.A.Acceptor.came g.A.Acceptor.waits l.acceptor)) (moment m v door)
      → Turns (GoesDrawing g.N.Core.goes (Draws g.W.Words.gives g.W.Words.faults)) g.L.Link.talk l.fn.terms.listens (times ++ more) None l.initial.left
      (moment (at_rest l.initial.node l.initial.parts.random) (world_of l.initial.set (dialling g.D.Dialer.calls g.D.Dialer.left g.D.Dialer.came g.D.Dialer.faults l.initial.parts.dialer)
      (g.K.Sink.held l.initial.sink)) (admitting g.A.Acceptor.left g.A.Acceptor.came g.A.Acceptor.waits l.initial.acceptor)) (moment m v door);
  stops : (more : List ℕ) (v : World _) (door : Admitting _)
      → TurnsStop (GoesDrawing g.N.Core.goes (Draws g.W.Words.gives g.W.Words.faults)) g.L.Link.talk l.fn.terms.listens more l.start l.left
      (moment (at_rest l.node l.parts.random) (world_of l.set (dialling g.D.Dialer.calls g.D.Dialer.left g.D.Dialer.came g.D.Dialer.faults l.parts.dialer) (g.K.Sink.held l.sink))
      (admitting g.A.Acceptor.left g.A.Acceptor.came g.A.Acceptor.waits l.acceptor)) (in_hands v door)
      → TurnsStop (GoesDrawing g.N.Core.goes (Draws g.W.Words.gives g.W.Words.faults)) g.L.Link.talk l.fn.terms.listens (times ++ more) None l.initial.left
      (moment (at_rest l.initial.node l.initial.parts.random) (world_of l.initial.set (dialling g.D.Dialer.calls g.D.Dialer.left g.D.Dialer.came g.D.Dialer.faults l.initial.parts.dialer)
      (g.K.Sink.held l.initial.sink)) (admitting g.A.Acceptor.left g.A.Acceptor.came g.A.Acceptor.waits l.initial.acceptor)) (in_hands v door);
  rise : (more : List ℕ) → DontFall (g.C.Clock.newest l.clock) more → DontFall 0 (times ++ more);
  waits : List ℕ;
  asked : Grows (g.V.Waiter.waits l.initial.parts.waiter) (g.V.Waiter.waits l.parts.waiter) waits;
  newest : ℕ;
  rest : l.wait_ms ≡ rest_before l.start newest l.left l.set.waiting.items;
  rests : GoOn (GoesDrawing g.N.Core.goes (Draws g.W.Words.gives g.W.Words.faults)) g.L.Link.talk l.fn.terms.listens l.initial.left
      (moment (at_rest l.initial.node l.initial.parts.random) (world_of l.initial.set (dialling g.D.Dialer.calls g.D.Dialer.left g.D.Dialer.came g.D.Dialer.faults l.initial.parts.dialer)
      (g.K.Sink.held l.initial.sink)) (admitting g.A.Acceptor.left g.A.Acceptor.came g.A.Acceptor.waits l.initial.acceptor))
      times waits l.start newest l.left (moment (at_rest l.node l.parts.random)
      (world_of l.set (dialling g.D.Dialer.calls g.D.Dialer.left g.D.Dialer.came g.D.Dialer.faults l.parts.dialer) (g.K.Sink.held l.sink))
      (admitting g.A.Acceptor.left g.A.Acceptor.came g.A.Acceptor.waits l.acceptor));
  writes_later : g.K.Sink.faults l.initial.sink ≤ g.K.Sink.faults l.sink;
  links_later : g.A.Acceptor.faults l.initial.acceptor ≤ g.A.Acceptor.faults l.acceptor;
  bound : Stays (g.A.Acceptor.bound l.initial.acceptor) (g.A.Acceptor.bound l.acceptor);
}
