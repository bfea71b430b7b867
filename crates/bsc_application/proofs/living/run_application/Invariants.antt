use Rattle.std.proofs.Common.{◌≡◌, ◌≤◌, ℕ, false, List, ◌++◌, length}
use Rattle.bsc_edge.specs.Told.{Grows, Stays}
use Rattle.bsc_node_run.specs.declared.due.Due.{Due}
use Rattle.bsc_node_run.specs.Drawing.{Draws, GoesDrawing, at_rest}
use Rattle.bsc_node_run.specs.Moments.{moment}
use Rattle.bsc_node_run.specs.Running.{DontFall}
use Rattle.bsc_node_run.specs.Worlds.{admitting, dialling, world_of}
use Rattle.bsc_application.specs.Asking.{answers_to}
use Rattle.bsc_application.specs.Pausing.{pause_before}
use Rattle.bsc_application.proofs.Lives.{BreakOn, LiveOn}
use Rattle.bsc_application.proofs.Pauses.{PauseOn}
use Rattle.bsc_application.proofs.living.run_application.Given as goal

-- Turns were made at these times with these requests, each behind its wait. Turns and waits from here on go on with them, as do
-- readings that don't fall.
abbrev pub invariant-loop-made : goal.invariant-loop-made
invariant-loop-made g l = record {
  times : List ℕ;
  batches : List (List Due);
  readings : Grows (g.C.Clock.readings l.initial.clock) (g.C.Clock.readings l.clock) times;
  gave : Grows (g.P.Application.answers l.initial.application) (g.P.Application.answers l.application) (answers_to batches);
  count : length times ≡ l.made;
  going : l.set.finished ≡ false;
  turns : LiveOn (GoesDrawing g.N.Core.goes (Draws g.W.Words.gives g.W.Words.faults)) g.L.Link.talk l.fn.terms.listens
      (moment (at_rest l.initial.node l.initial.parts.random) (world_of l.initial.set (dialling g.D.Dialer.calls g.D.Dialer.left g.D.Dialer.came g.D.Dialer.faults l.initial.parts.dialer)
      (g.K.Sink.held l.initial.sink)) (admitting g.A.Acceptor.left g.A.Acceptor.came g.A.Acceptor.waits l.initial.acceptor)) times batches l.start
      (moment (at_rest l.node l.parts.random) (world_of l.set (dialling g.D.Dialer.calls g.D.Dialer.left g.D.Dialer.came g.D.Dialer.faults l.parts.dialer) (g.K.Sink.held l.sink))
      (admitting g.A.Acceptor.left g.A.Acceptor.came g.A.Acceptor.waits l.acceptor));
  stops : BreakOn (GoesDrawing g.N.Core.goes (Draws g.W.Words.gives g.W.Words.faults)) g.L.Link.talk l.fn.terms.listens
      (moment (at_rest l.initial.node l.initial.parts.random) (world_of l.initial.set (dialling g.D.Dialer.calls g.D.Dialer.left g.D.Dialer.came g.D.Dialer.faults l.initial.parts.dialer)
      (g.K.Sink.held l.initial.sink)) (admitting g.A.Acceptor.left g.A.Acceptor.came g.A.Acceptor.waits l.initial.acceptor)) times batches l.start
      (moment (at_rest l.node l.parts.random) (world_of l.set (dialling g.D.Dialer.calls g.D.Dialer.left g.D.Dialer.came g.D.Dialer.faults l.parts.dialer) (g.K.Sink.held l.sink))
      (admitting g.A.Acceptor.left g.A.Acceptor.came g.A.Acceptor.waits l.acceptor));
  rise : (more : List ℕ) → DontFall (g.C.Clock.newest l.clock) more → DontFall 0 (times ++ more);
  waits : List ℕ;
  asked : Grows (g.V.Waiter.waits l.initial.parts.waiter) (g.V.Waiter.waits l.parts.waiter) waits;
  last : List Due;
  rest : l.wait_ms ≡ pause_before l.start last l.set.waiting.items;
  rests : PauseOn (GoesDrawing g.N.Core.goes (Draws g.W.Words.gives g.W.Words.faults)) g.L.Link.talk l.fn.terms.listens
      (moment (at_rest l.initial.node l.initial.parts.random) (world_of l.initial.set (dialling g.D.Dialer.calls g.D.Dialer.left g.D.Dialer.came g.D.Dialer.faults l.initial.parts.dialer)
      (g.K.Sink.held l.initial.sink)) (admitting g.A.Acceptor.left g.A.Acceptor.came g.A.Acceptor.waits l.initial.acceptor)) times waits l.start last
      (moment (at_rest l.node l.parts.random) (world_of l.set (dialling g.D.Dialer.calls g.D.Dialer.left g.D.Dialer.came g.D.Dialer.faults l.parts.dialer) (g.K.Sink.held l.sink))
      (admitting g.A.Acceptor.left g.A.Acceptor.came g.A.Acceptor.waits l.acceptor));
  writes_later : g.K.Sink.faults l.initial.sink ≤ g.K.Sink.faults l.sink;
  links_later : g.A.Acceptor.faults l.initial.acceptor ≤ g.A.Acceptor.faults l.acceptor;
  bound : Stays (g.A.Acceptor.bound l.initial.acceptor) (g.A.Acceptor.bound l.acceptor);
}
