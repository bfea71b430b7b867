use Rattle.std.proofs.Common.{ap, arith, inl, inr, refl, sym, ◌∙◌, Some, ◌∷◌, [], ◌++◌, map, unwrap_or}
use Rattle.bsc_edge.proofs.Common.{grows_none, grows_then, stays_same, stays_then}
use Rattle.bsc_node_run.specs.Drawing.{Draws, GoesDrawing, at_rest}
use Rattle.bsc_node_run.specs.Moments.{in_hands, moment}
use Rattle.bsc_node_run.specs.Worlds.{admitting, dialling, world_of}
use Rattle.bsc_node_run.proofs.Resting.{empty_yet, nothing_yet}
use Rattle.bsc_node_run.proofs.Runs.{grows_still, one_longer, rise_all, rise_before, rise_more}
use Rattle.bsc_node_run.proofs.Stops.{at_err, rise_now}
use Rattle.bsc_application.proofs.Asking.{gave_stopped, gave_turn}
use Rattle.bsc_application.proofs.Lives.{breaks_before, breaks_more, breaks_now, lives_all, lives_more}
use Rattle.bsc_application.proofs.Pauses.{pause_so, pauses_all, pauses_before, pauses_more, pauses_now}
use Rattle.bsc_application.proofs.Turns.{told_stop, told_turn}
use Rattle.bsc_application.proofs.living.run_application.Goals as goal

pub loop-made-init : goal.loop-made-init
loop-made-init g c = record {
  times = [];
  batches = [];
  readings = grows_none (g.C.Clock.readings c.args.clock.now);
  gave = grows_none (g.P.Application.answers c.args.application.now);
  count = refl;
  going = c.in_ok-set.ensures.finished;
  turns = λ more others last k. k;
  stops = λ more others taken v door k. k;
  rise = λ more r. rise_before 0 (g.C.Clock.newest c.args.clock.now) more (omega arith) r;
  waits = [];
  asked = grows_none (g.V.Waiter.waits c.args.parts.now.waiter);
  last = [];
  rest = refl;
  rests = λ more others k. k;
  writes_later = omega arith;
  links_later = omega arith;
  bound = stays_same (g.A.Acceptor.bound c.args.acceptor.now);
}

pub returns-then-has_finished-clause-runs : goal.returns-then-has_finished-clause-runs
returns-then-has_finished-clause-runs g c = record {
  times = c.loop-made.invariant.times ++ c.in_ok-turn.turn.time ∷ [];
  batches = c.loop-made.invariant.batches ++ c.in_ok-batch.batch.items ∷ [];
  first = (world_of c.in_ok-set.set (dialling g.D.Dialer.calls g.D.Dialer.left g.D.Dialer.came g.D.Dialer.faults c.args.parts.now.dialer) (g.K.Sink.held c.args.sink.now));
  last = (world_of c.node_turn.new.set (dialling g.D.Dialer.calls g.D.Dialer.left g.D.Dialer.came g.D.Dialer.faults c.node_turn.new.parts.dialer) (g.K.Sink.held c.node_turn.new.sink));
  empty = record {
    link = c.in_ok-set.ensures.links;
    arrived = c.in_ok-set.ensures.arrived;
    due = c.in_ok-set.ensures.due;
    waiting = c.in_ok-set.ensures.waiting;
    finished = c.in_ok-set.ensures.finished;
    dialled = refl;
    held = refl;
  };
  went = lives_all (GoesDrawing g.N.Core.goes (Draws g.W.Words.gives g.W.Words.faults)) g.L.Link.talk c.args.terms.listens (moment (at_rest c.args.node.now c.args.parts.now.random)
      (world_of c.in_ok-set.set (dialling g.D.Dialer.calls g.D.Dialer.left g.D.Dialer.came g.D.Dialer.faults c.args.parts.now.dialer) (g.K.Sink.held c.args.sink.now))
      (admitting g.A.Acceptor.left g.A.Acceptor.came g.A.Acceptor.waits c.args.acceptor.now)) (c.loop-made.invariant.times ++ c.in_ok-turn.turn.time ∷ [])
      (c.loop-made.invariant.batches ++ c.in_ok-batch.batch.items ∷ []) (Some (unwrap_or c.loop-made.start c.in_ok-turn.turn.time))
      (at_rest c.node_turn.new.node c.node_turn.new.parts.random)
      (world_of c.node_turn.new.set (dialling g.D.Dialer.calls g.D.Dialer.left g.D.Dialer.came g.D.Dialer.faults c.node_turn.new.parts.dialer) (g.K.Sink.held c.node_turn.new.sink))
      (admitting g.A.Acceptor.left g.A.Acceptor.came g.A.Acceptor.waits c.node_turn.new.acceptor)
      (lives_more (GoesDrawing g.N.Core.goes (Draws g.W.Words.gives g.W.Words.faults)) g.L.Link.talk c.args.terms.listens (moment (at_rest c.args.node.now c.args.parts.now.random)
      (world_of c.in_ok-set.set (dialling g.D.Dialer.calls g.D.Dialer.left g.D.Dialer.came g.D.Dialer.faults c.args.parts.now.dialer) (g.K.Sink.held c.args.sink.now))
      (admitting g.A.Acceptor.left g.A.Acceptor.came g.A.Acceptor.waits c.args.acceptor.now)) c.loop-made.invariant.times c.loop-made.invariant.batches c.loop-made.start c.in_ok-turn.turn.time
      (unwrap_or c.loop-made.start c.in_ok-turn.turn.time) c.in_ok-batch.batch.items
      (at_rest c.loop-made.node c.loop-made.parts.random) (at_rest c.node_turn.new.node c.node_turn.new.parts.random)
      (world_of c.loop-made.set (dialling g.D.Dialer.calls g.D.Dialer.left g.D.Dialer.came g.D.Dialer.faults c.loop-made.parts.dialer) (g.K.Sink.held c.loop-made.sink))
      (world_of c.node_turn.new.set (dialling g.D.Dialer.calls g.D.Dialer.left g.D.Dialer.came g.D.Dialer.faults c.node_turn.new.parts.dialer) (g.K.Sink.held c.node_turn.new.sink))
      (admitting g.A.Acceptor.left g.A.Acceptor.came g.A.Acceptor.waits c.loop-made.acceptor)
      (admitting g.A.Acceptor.left g.A.Acceptor.came g.A.Acceptor.waits c.node_turn.new.acceptor) c.loop-made.invariant.turns c.loop-made.invariant.going c.in_ok-batch.ensures.batch refl
      (told_turn (GoesDrawing g.N.Core.goes
      (Draws g.W.Words.gives g.W.Words.faults)) g.L.Link.talk c.in_ok-turn.turn.time c.loop-made.start c.as_slice.result.now c.in_ok-batch.batch.items c.as_slice.ensures.value c.args.terms.listens
      (moment (at_rest c.loop-made.node c.loop-made.parts.random)
      (world_of c.loop-made.set (dialling g.D.Dialer.calls g.D.Dialer.left g.D.Dialer.came g.D.Dialer.faults c.loop-made.parts.dialer) (g.K.Sink.held c.loop-made.sink))
      (admitting g.A.Acceptor.left g.A.Acceptor.came g.A.Acceptor.waits c.loop-made.acceptor))
      c.in_ok-turn.turn.left.now
      (moment (at_rest c.node_turn.new.node c.node_turn.new.parts.random)
      (world_of c.node_turn.new.set (dialling g.D.Dialer.calls g.D.Dialer.left g.D.Dialer.came g.D.Dialer.faults c.node_turn.new.parts.dialer) (g.K.Sink.held c.node_turn.new.sink))
      (admitting g.A.Acceptor.left g.A.Acceptor.came g.A.Acceptor.waits c.node_turn.new.acceptor)) c.in_ok-batch.ensures.batch.0 c.in_ok-turn.ensures.turns));
  asked = gave_turn (g.P.Application.answers c.args.application.now) (g.P.Application.answers c.loop-made.application)
      (g.P.Application.answers c.take_requests.new.application) c.loop-made.invariant.batches c.in_ok-batch.batch.items c.loop-made.invariant.gave c.in_ok-batch.ensures.took;
  dials = refl;
  holds = refl;
  readings = grows_then (g.C.Clock.readings c.args.clock.now) (g.C.Clock.readings c.loop-made.clock) (g.C.Clock.readings c.node_turn.new.clock) c.loop-made.invariant.times
      (c.in_ok-turn.turn.time ∷ [])
      c.loop-made.invariant.readings c.in_ok-turn.ensures.reading;
  rise = rise_all 0 (c.loop-made.invariant.times ++ c.in_ok-turn.turn.time ∷ []) (g.C.Clock.newest c.node_turn.new.clock)
      (rise_more 0 c.loop-made.invariant.times (g.C.Clock.newest c.loop-made.clock) c.in_ok-turn.turn.time (g.C.Clock.newest c.node_turn.new.clock)
      c.loop-made.invariant.rise c.in_ok-turn.ensures.rises c.in_ok-turn.ensures.below c.in_ok-turn.ensures.newest);
  ends = sym c.has_finished.ensures ∙ c.if-has_finished.true;
}

pub returns-clause-runs : goal.returns-clause-runs
returns-clause-runs g c = record {
  times = c.loop-made.invariant.times;
  batches = c.loop-made.invariant.batches;
  first = (world_of c.in_ok-set.set (dialling g.D.Dialer.calls g.D.Dialer.left g.D.Dialer.came g.D.Dialer.faults c.args.parts.now.dialer) (g.K.Sink.held c.args.sink.now));
  last = (world_of c.loop-made.set (dialling g.D.Dialer.calls g.D.Dialer.left g.D.Dialer.came g.D.Dialer.faults c.loop-made.parts.dialer) (g.K.Sink.held c.loop-made.sink));
  empty = record {
    link = c.in_ok-set.ensures.links;
    arrived = c.in_ok-set.ensures.arrived;
    due = c.in_ok-set.ensures.due;
    waiting = c.in_ok-set.ensures.waiting;
    finished = c.in_ok-set.ensures.finished;
    dialled = refl;
    held = refl;
  };
  went = lives_all (GoesDrawing g.N.Core.goes (Draws g.W.Words.gives g.W.Words.faults)) g.L.Link.talk c.args.terms.listens (moment (at_rest c.args.node.now c.args.parts.now.random)
      (world_of c.in_ok-set.set (dialling g.D.Dialer.calls g.D.Dialer.left g.D.Dialer.came g.D.Dialer.faults c.args.parts.now.dialer) (g.K.Sink.held c.args.sink.now))
      (admitting g.A.Acceptor.left g.A.Acceptor.came g.A.Acceptor.waits c.args.acceptor.now)) c.loop-made.invariant.times c.loop-made.invariant.batches c.loop-made.start
      (at_rest c.loop-made.node c.loop-made.parts.random)
      (world_of c.loop-made.set (dialling g.D.Dialer.calls g.D.Dialer.left g.D.Dialer.came g.D.Dialer.faults c.loop-made.parts.dialer) (g.K.Sink.held c.loop-made.sink))
      (admitting g.A.Acceptor.left g.A.Acceptor.came g.A.Acceptor.waits c.loop-made.acceptor)
      c.loop-made.invariant.turns;
  asked = c.loop-made.invariant.gave;
  dials = refl;
  holds = refl;
  readings = c.loop-made.invariant.readings;
  rise = rise_all 0 c.loop-made.invariant.times (g.C.Clock.newest c.loop-made.clock) c.loop-made.invariant.rise;
  ends = (omega (arith, c.loop-made.invariant.count, c.loop-made-test.false, c.loop-made.auto.made-end), c.loop-made.invariant.going);
}

pub loop-made-preserved : goal.loop-made-preserved
loop-made-preserved g c = record {
  times = c.loop-made.invariant.times ++ c.in_ok-turn.turn.time ∷ [];
  batches = c.loop-made.invariant.batches ++ c.in_ok-batch.batch.items ∷ [];
  readings = grows_then (g.C.Clock.readings c.args.clock.now) (g.C.Clock.readings c.loop-made.clock) (g.C.Clock.readings c.node_turn.new.clock) c.loop-made.invariant.times
      (c.in_ok-turn.turn.time ∷ [])
      c.loop-made.invariant.readings c.in_ok-turn.ensures.reading;
  gave = gave_turn (g.P.Application.answers c.args.application.now) (g.P.Application.answers c.loop-made.application)
      (g.P.Application.answers c.take_requests.new.application) c.loop-made.invariant.batches c.in_ok-batch.batch.items c.loop-made.invariant.gave c.in_ok-batch.ensures.took;
  count = (one_longer c.loop-made.invariant.times c.in_ok-turn.turn.time c.loop-made.made c.loop-made.invariant.count);
  going = sym c.has_finished.ensures ∙ c.if-has_finished.false;
  turns = lives_more (GoesDrawing g.N.Core.goes (Draws g.W.Words.gives g.W.Words.faults)) g.L.Link.talk c.args.terms.listens (moment (at_rest c.args.node.now c.args.parts.now.random)
      (world_of c.in_ok-set.set (dialling g.D.Dialer.calls g.D.Dialer.left g.D.Dialer.came g.D.Dialer.faults c.args.parts.now.dialer) (g.K.Sink.held c.args.sink.now))
      (admitting g.A.Acceptor.left g.A.Acceptor.came g.A.Acceptor.waits c.args.acceptor.now)) c.loop-made.invariant.times c.loop-made.invariant.batches c.loop-made.start
      c.in_ok-turn.turn.time c.unwrap_or.result c.in_ok-batch.batch.items
      (at_rest c.loop-made.node c.loop-made.parts.random) (at_rest c.node_turn.new.node c.node_turn.new.parts.random)
      (world_of c.loop-made.set (dialling g.D.Dialer.calls g.D.Dialer.left g.D.Dialer.came g.D.Dialer.faults c.loop-made.parts.dialer) (g.K.Sink.held c.loop-made.sink))
      (world_of c.node_turn.new.set (dialling g.D.Dialer.calls g.D.Dialer.left g.D.Dialer.came g.D.Dialer.faults c.node_turn.new.parts.dialer) (g.K.Sink.held c.node_turn.new.sink))
      (admitting g.A.Acceptor.left g.A.Acceptor.came g.A.Acceptor.waits c.loop-made.acceptor)
      (admitting g.A.Acceptor.left g.A.Acceptor.came g.A.Acceptor.waits c.node_turn.new.acceptor) c.loop-made.invariant.turns c.loop-made.invariant.going c.in_ok-batch.ensures.batch
      c.unwrap_or.ensures
      (told_turn (GoesDrawing g.N.Core.goes
      (Draws g.W.Words.gives g.W.Words.faults)) g.L.Link.talk c.in_ok-turn.turn.time c.loop-made.start c.as_slice.result.now c.in_ok-batch.batch.items c.as_slice.ensures.value c.args.terms.listens
      (moment (at_rest c.loop-made.node c.loop-made.parts.random)
      (world_of c.loop-made.set (dialling g.D.Dialer.calls g.D.Dialer.left g.D.Dialer.came g.D.Dialer.faults c.loop-made.parts.dialer) (g.K.Sink.held c.loop-made.sink))
      (admitting g.A.Acceptor.left g.A.Acceptor.came g.A.Acceptor.waits c.loop-made.acceptor))
      c.in_ok-turn.turn.left.now
      (moment (at_rest c.node_turn.new.node c.node_turn.new.parts.random)
      (world_of c.node_turn.new.set (dialling g.D.Dialer.calls g.D.Dialer.left g.D.Dialer.came g.D.Dialer.faults c.node_turn.new.parts.dialer) (g.K.Sink.held c.node_turn.new.sink))
      (admitting g.A.Acceptor.left g.A.Acceptor.came g.A.Acceptor.waits c.node_turn.new.acceptor)) c.in_ok-batch.ensures.batch.0 c.in_ok-turn.ensures.turns);
  stops = breaks_more (GoesDrawing g.N.Core.goes (Draws g.W.Words.gives g.W.Words.faults)) g.L.Link.talk c.args.terms.listens (moment (at_rest c.args.node.now c.args.parts.now.random)
      (world_of c.in_ok-set.set (dialling g.D.Dialer.calls g.D.Dialer.left g.D.Dialer.came g.D.Dialer.faults c.args.parts.now.dialer) (g.K.Sink.held c.args.sink.now))
      (admitting g.A.Acceptor.left g.A.Acceptor.came g.A.Acceptor.waits c.args.acceptor.now)) c.loop-made.invariant.times c.loop-made.invariant.batches c.loop-made.start
      c.in_ok-turn.turn.time c.unwrap_or.result c.in_ok-batch.batch.items
      (at_rest c.loop-made.node c.loop-made.parts.random) (at_rest c.node_turn.new.node c.node_turn.new.parts.random)
      (world_of c.loop-made.set (dialling g.D.Dialer.calls g.D.Dialer.left g.D.Dialer.came g.D.Dialer.faults c.loop-made.parts.dialer) (g.K.Sink.held c.loop-made.sink))
      (world_of c.node_turn.new.set (dialling g.D.Dialer.calls g.D.Dialer.left g.D.Dialer.came g.D.Dialer.faults c.node_turn.new.parts.dialer) (g.K.Sink.held c.node_turn.new.sink))
      (admitting g.A.Acceptor.left g.A.Acceptor.came g.A.Acceptor.waits c.loop-made.acceptor)
      (admitting g.A.Acceptor.left g.A.Acceptor.came g.A.Acceptor.waits c.node_turn.new.acceptor) c.loop-made.invariant.stops c.loop-made.invariant.going c.in_ok-batch.ensures.batch
      c.unwrap_or.ensures
      (told_turn (GoesDrawing g.N.Core.goes
      (Draws g.W.Words.gives g.W.Words.faults)) g.L.Link.talk c.in_ok-turn.turn.time c.loop-made.start c.as_slice.result.now c.in_ok-batch.batch.items c.as_slice.ensures.value c.args.terms.listens
      (moment (at_rest c.loop-made.node c.loop-made.parts.random)
      (world_of c.loop-made.set (dialling g.D.Dialer.calls g.D.Dialer.left g.D.Dialer.came g.D.Dialer.faults c.loop-made.parts.dialer) (g.K.Sink.held c.loop-made.sink))
      (admitting g.A.Acceptor.left g.A.Acceptor.came g.A.Acceptor.waits c.loop-made.acceptor))
      c.in_ok-turn.turn.left.now
      (moment (at_rest c.node_turn.new.node c.node_turn.new.parts.random)
      (world_of c.node_turn.new.set (dialling g.D.Dialer.calls g.D.Dialer.left g.D.Dialer.came g.D.Dialer.faults c.node_turn.new.parts.dialer) (g.K.Sink.held c.node_turn.new.sink))
      (admitting g.A.Acceptor.left g.A.Acceptor.came g.A.Acceptor.waits c.node_turn.new.acceptor)) c.in_ok-batch.ensures.batch.0 c.in_ok-turn.ensures.turns);
  rise = rise_more 0 c.loop-made.invariant.times (g.C.Clock.newest c.loop-made.clock) c.in_ok-turn.turn.time (g.C.Clock.newest c.node_turn.new.clock)
      c.loop-made.invariant.rise c.in_ok-turn.ensures.rises c.in_ok-turn.ensures.below c.in_ok-turn.ensures.newest;
  waits = c.loop-made.invariant.waits ++ c.loop-made.wait_ms ∷ [];
  asked = grows_still (g.V.Waiter.waits c.args.parts.now.waiter) (g.V.Waiter.waits c.wait.new.self) (g.V.Waiter.waits c.node_turn.new.parts.waiter)
      (c.loop-made.invariant.waits ++ c.loop-made.wait_ms ∷ []) (ap g.V.Waiter.waits c.node_turn.ensures.waiter)
      (grows_then (g.V.Waiter.waits c.args.parts.now.waiter) (g.V.Waiter.waits c.loop-made.parts.waiter) (g.V.Waiter.waits c.wait.new.self) c.loop-made.invariant.waits
      (c.loop-made.wait_ms ∷ []) c.loop-made.invariant.asked c.wait.ensures.told);
  last = c.in_ok-batch.batch.items;
  rest = pause_so c.as_slice-in-loop-made.result.now c.in_ok-batch.batch.items c.has_news.result c.node_turn.new.set.waiting.items c.pause_ms-wait_ms.result c.unwrap_or.result
      c.as_slice-in-loop-made.ensures.value c.has_news.ensures c.pause_ms-wait_ms.ensures;
  rests = pauses_more (GoesDrawing g.N.Core.goes (Draws g.W.Words.gives g.W.Words.faults)) g.L.Link.talk c.args.terms.listens (moment (at_rest c.args.node.now c.args.parts.now.random)
      (world_of c.in_ok-set.set (dialling g.D.Dialer.calls g.D.Dialer.left g.D.Dialer.came g.D.Dialer.faults c.args.parts.now.dialer) (g.K.Sink.held c.args.sink.now))
      (admitting g.A.Acceptor.left g.A.Acceptor.came g.A.Acceptor.waits c.args.acceptor.now)) c.loop-made.invariant.times c.loop-made.invariant.waits c.loop-made.start c.in_ok-turn.turn.time
      c.unwrap_or.result c.loop-made.wait_ms c.loop-made.invariant.last c.in_ok-batch.batch.items
      (at_rest c.loop-made.node c.loop-made.parts.random) (at_rest c.node_turn.new.node c.node_turn.new.parts.random)
      (world_of c.loop-made.set (dialling g.D.Dialer.calls g.D.Dialer.left g.D.Dialer.came g.D.Dialer.faults c.loop-made.parts.dialer) (g.K.Sink.held c.loop-made.sink))
      (world_of c.node_turn.new.set (dialling g.D.Dialer.calls g.D.Dialer.left g.D.Dialer.came g.D.Dialer.faults c.node_turn.new.parts.dialer) (g.K.Sink.held c.node_turn.new.sink))
      (admitting g.A.Acceptor.left g.A.Acceptor.came g.A.Acceptor.waits c.loop-made.acceptor)
      (admitting g.A.Acceptor.left g.A.Acceptor.came g.A.Acceptor.waits c.node_turn.new.acceptor) c.loop-made.invariant.rests c.loop-made.invariant.rest c.in_ok-batch.ensures.batch c.unwrap_or.ensures
      (told_turn (GoesDrawing g.N.Core.goes
      (Draws g.W.Words.gives g.W.Words.faults)) g.L.Link.talk c.in_ok-turn.turn.time c.loop-made.start c.as_slice.result.now c.in_ok-batch.batch.items c.as_slice.ensures.value c.args.terms.listens
      (moment (at_rest c.loop-made.node c.loop-made.parts.random)
      (world_of c.loop-made.set (dialling g.D.Dialer.calls g.D.Dialer.left g.D.Dialer.came g.D.Dialer.faults c.loop-made.parts.dialer) (g.K.Sink.held c.loop-made.sink))
      (admitting g.A.Acceptor.left g.A.Acceptor.came g.A.Acceptor.waits c.loop-made.acceptor))
      c.in_ok-turn.turn.left.now
      (moment (at_rest c.node_turn.new.node c.node_turn.new.parts.random)
      (world_of c.node_turn.new.set (dialling g.D.Dialer.calls g.D.Dialer.left g.D.Dialer.came g.D.Dialer.faults c.node_turn.new.parts.dialer) (g.K.Sink.held c.node_turn.new.sink))
      (admitting g.A.Acceptor.left g.A.Acceptor.came g.A.Acceptor.waits c.node_turn.new.acceptor)) c.in_ok-batch.ensures.batch.0 c.in_ok-turn.ensures.turns);
  writes_later = omega (arith, c.loop-made.invariant.writes_later, c.node_turn.ensures.later);
  links_later = omega (arith, c.loop-made.invariant.links_later, c.node_turn.ensures.arrivals);
  bound = stays_then (g.A.Acceptor.bound c.args.acceptor.now) (g.A.Acceptor.bound c.loop-made.acceptor)
      (g.A.Acceptor.bound c.node_turn.new.acceptor) c.loop-made.invariant.bound c.node_turn.ensures.bound;
}

pub returns-in_err-set-clause-fails : goal.returns-in_err-set-clause-fails
returns-in_err-set-clause-fails g c = at_err _ (inl (refl, refl))

pub returns-in_err-batch-clause-fails : goal.returns-in_err-batch-clause-fails
returns-in_err-batch-clause-fails g c =
    let k = c.in_err-batch.ensures.lost in
    at_err _ (inr (
    record {
      times = c.loop-made.invariant.times;
      batches = c.loop-made.invariant.batches;
      taken = k.0;
      first = (world_of c.in_ok-set.set (dialling g.D.Dialer.calls g.D.Dialer.left g.D.Dialer.came g.D.Dialer.faults c.args.parts.now.dialer) (g.K.Sink.held c.args.sink.now));
      last = (world_of c.loop-made.set (dialling g.D.Dialer.calls g.D.Dialer.left g.D.Dialer.came g.D.Dialer.faults c.loop-made.parts.dialer) (g.K.Sink.held c.loop-made.sink));
      empty = record {
        link = c.in_ok-set.ensures.links;
        arrived = c.in_ok-set.ensures.arrived;
        due = c.in_ok-set.ensures.due;
        waiting = c.in_ok-set.ensures.waiting;
        finished = c.in_ok-set.ensures.finished;
        dialled = refl;
        held = refl;
      };
      went = breaks_before (GoesDrawing g.N.Core.goes (Draws g.W.Words.gives g.W.Words.faults)) g.L.Link.talk c.args.terms.listens (moment (at_rest c.args.node.now c.args.parts.now.random)
          (world_of c.in_ok-set.set (dialling g.D.Dialer.calls g.D.Dialer.left g.D.Dialer.came g.D.Dialer.faults c.args.parts.now.dialer) (g.K.Sink.held c.args.sink.now))
          (admitting g.A.Acceptor.left g.A.Acceptor.came g.A.Acceptor.waits c.args.acceptor.now)) c.loop-made.invariant.times c.loop-made.invariant.batches c.loop-made.start k.0
          (at_rest c.loop-made.node c.loop-made.parts.random)
          (world_of c.loop-made.set (dialling g.D.Dialer.calls g.D.Dialer.left g.D.Dialer.came g.D.Dialer.faults c.loop-made.parts.dialer) (g.K.Sink.held c.loop-made.sink))
          (admitting g.A.Acceptor.left g.A.Acceptor.came g.A.Acceptor.waits c.loop-made.acceptor)
          c.loop-made.invariant.stops c.loop-made.invariant.going;
      asked = grows_then (g.P.Application.answers c.args.application.now) (g.P.Application.answers c.loop-made.application) (g.P.Application.answers c.take_requests.new.application) _
          (map Some k.0) c.loop-made.invariant.gave k.1;
      dials = refl;
      holds = refl;
      readings = c.loop-made.invariant.readings;
      rise = rise_all 0 c.loop-made.invariant.times (g.C.Clock.newest c.loop-made.clock) c.loop-made.invariant.rise;
      within = omega (arith, c.loop-made.invariant.count, c.loop-made-test.true);
    }
    ))

pub returns-in_err-turn-clause-fails : goal.returns-in_err-turn-clause-fails
returns-in_err-turn-clause-fails g c =
    let k = c.in_err-turn.ensures.stops in
    at_err _ (inr (
    record {
      times = c.loop-made.invariant.times ++ k.0 ∷ [];
      batches = c.loop-made.invariant.batches ++ c.in_ok-batch.batch.items ∷ [];
      taken = [];
      first = (world_of c.in_ok-set.set (dialling g.D.Dialer.calls g.D.Dialer.left g.D.Dialer.came g.D.Dialer.faults c.args.parts.now.dialer) (g.K.Sink.held c.args.sink.now));
      last = (world_of c.node_turn.new.set (dialling g.D.Dialer.calls g.D.Dialer.left g.D.Dialer.came g.D.Dialer.faults c.node_turn.new.parts.dialer) (g.K.Sink.held c.node_turn.new.sink));
      empty = record {
        link = c.in_ok-set.ensures.links;
        arrived = c.in_ok-set.ensures.arrived;
        due = c.in_ok-set.ensures.due;
        waiting = c.in_ok-set.ensures.waiting;
        finished = c.in_ok-set.ensures.finished;
        dialled = refl;
        held = refl;
      };
      went = breaks_now (GoesDrawing g.N.Core.goes (Draws g.W.Words.gives g.W.Words.faults)) g.L.Link.talk c.args.terms.listens (moment (at_rest c.args.node.now c.args.parts.now.random)
          (world_of c.in_ok-set.set (dialling g.D.Dialer.calls g.D.Dialer.left g.D.Dialer.came g.D.Dialer.faults c.args.parts.now.dialer) (g.K.Sink.held c.args.sink.now))
          (admitting g.A.Acceptor.left g.A.Acceptor.came g.A.Acceptor.waits c.args.acceptor.now)) c.loop-made.invariant.times c.loop-made.invariant.batches c.loop-made.start k.0
          c.in_ok-batch.batch.items
          (at_rest c.loop-made.node c.loop-made.parts.random)
          (world_of c.loop-made.set (dialling g.D.Dialer.calls g.D.Dialer.left g.D.Dialer.came g.D.Dialer.faults c.loop-made.parts.dialer) (g.K.Sink.held c.loop-made.sink))
          (world_of c.node_turn.new.set (dialling g.D.Dialer.calls g.D.Dialer.left g.D.Dialer.came g.D.Dialer.faults c.node_turn.new.parts.dialer) (g.K.Sink.held c.node_turn.new.sink))
          (admitting g.A.Acceptor.left g.A.Acceptor.came g.A.Acceptor.waits c.loop-made.acceptor)
          (admitting g.A.Acceptor.left g.A.Acceptor.came g.A.Acceptor.waits c.node_turn.new.acceptor) c.loop-made.invariant.stops c.loop-made.invariant.going c.in_ok-batch.ensures.batch
          (told_stop (GoesDrawing g.N.Core.goes
          (Draws g.W.Words.gives g.W.Words.faults)) g.L.Link.talk k.0 c.loop-made.start c.as_slice.result.now c.in_ok-batch.batch.items c.as_slice.ensures.value c.args.terms.listens
          (moment (at_rest c.loop-made.node c.loop-made.parts.random)
          (world_of c.loop-made.set (dialling g.D.Dialer.calls g.D.Dialer.left g.D.Dialer.came g.D.Dialer.faults c.loop-made.parts.dialer) (g.K.Sink.held c.loop-made.sink))
          (admitting g.A.Acceptor.left g.A.Acceptor.came g.A.Acceptor.waits c.loop-made.acceptor))
          (in_hands (world_of c.node_turn.new.set (dialling g.D.Dialer.calls g.D.Dialer.left g.D.Dialer.came g.D.Dialer.faults c.node_turn.new.parts.dialer) (g.K.Sink.held c.node_turn.new.sink))
          (admitting g.A.Acceptor.left g.A.Acceptor.came g.A.Acceptor.waits c.node_turn.new.acceptor)) k.4);
      asked = gave_stopped (g.P.Application.answers c.args.application.now) (g.P.Application.answers c.loop-made.application)
          (g.P.Application.answers c.take_requests.new.application) c.loop-made.invariant.batches c.in_ok-batch.batch.items c.loop-made.invariant.gave c.in_ok-batch.ensures.took;
      dials = refl;
      holds = refl;
      readings = grows_then (g.C.Clock.readings c.args.clock.now) (g.C.Clock.readings c.loop-made.clock) (g.C.Clock.readings c.node_turn.new.clock) c.loop-made.invariant.times (k.0 ∷ [])
          c.loop-made.invariant.readings k.1;
      rise = rise_now 0 c.loop-made.invariant.times (g.C.Clock.newest c.loop-made.clock) k.0 c.loop-made.invariant.rise k.3 k.2;
      within = omega (arith, one_longer c.loop-made.invariant.times k.0 c.loop-made.made c.loop-made.invariant.count, c.loop-made-test.true);
    }
    ))

pub returns-in_err-set-clause-rests : goal.returns-in_err-set-clause-rests
returns-in_err-set-clause-rests g c =
    let dialled = (dialling g.D.Dialer.calls g.D.Dialer.left g.D.Dialer.came g.D.Dialer.faults c.args.parts.now.dialer) in
    let held = g.K.Sink.held c.args.sink.now in
    ([], [], nothing_yet dialled held, empty_yet dialled held, tt, grows_none (g.C.Clock.readings c.args.clock.now), grows_none (g.V.Waiter.waits c.args.parts.now.waiter), tt)

pub returns-in_err-batch-clause-rests : goal.returns-in_err-batch-clause-rests
returns-in_err-batch-clause-rests g c = (
  c.loop-made.invariant.times,
  c.loop-made.invariant.waits ++ c.loop-made.wait_ms ∷ [],
  (world_of c.in_ok-set.set (dialling g.D.Dialer.calls g.D.Dialer.left g.D.Dialer.came g.D.Dialer.faults c.args.parts.now.dialer) (g.K.Sink.held c.args.sink.now)),
  record {
    link = c.in_ok-set.ensures.links;
    arrived = c.in_ok-set.ensures.arrived;
    due = c.in_ok-set.ensures.due;
    waiting = c.in_ok-set.ensures.waiting;
    finished = c.in_ok-set.ensures.finished;
    dialled = refl;
    held = refl;
  },
  rise_all 0 c.loop-made.invariant.times (g.C.Clock.newest c.loop-made.clock) c.loop-made.invariant.rise,
  c.loop-made.invariant.readings,
  grows_then (g.V.Waiter.waits c.args.parts.now.waiter) (g.V.Waiter.waits c.loop-made.parts.waiter) (g.V.Waiter.waits c.wait.new.self) c.loop-made.invariant.waits
      (c.loop-made.wait_ms ∷ []) c.loop-made.invariant.asked c.wait.ensures.told,
  pauses_before (GoesDrawing g.N.Core.goes (Draws g.W.Words.gives g.W.Words.faults)) g.L.Link.talk c.args.terms.listens (moment (at_rest c.args.node.now c.args.parts.now.random)
      (world_of c.in_ok-set.set (dialling g.D.Dialer.calls g.D.Dialer.left g.D.Dialer.came g.D.Dialer.faults c.args.parts.now.dialer) (g.K.Sink.held c.args.sink.now))
      (admitting g.A.Acceptor.left g.A.Acceptor.came g.A.Acceptor.waits c.args.acceptor.now)) c.loop-made.invariant.times c.loop-made.invariant.waits c.loop-made.start c.loop-made.wait_ms
      c.loop-made.invariant.last
      (at_rest c.loop-made.node c.loop-made.parts.random)
      (world_of c.loop-made.set (dialling g.D.Dialer.calls g.D.Dialer.left g.D.Dialer.came g.D.Dialer.faults c.loop-made.parts.dialer) (g.K.Sink.held c.loop-made.sink))
      (admitting g.A.Acceptor.left g.A.Acceptor.came g.A.Acceptor.waits c.loop-made.acceptor) c.loop-made.invariant.rests c.loop-made.invariant.rest,
)

pub returns-in_err-turn-clause-rests : goal.returns-in_err-turn-clause-rests
returns-in_err-turn-clause-rests g c = (
  c.loop-made.invariant.times ++ c.in_err-turn.ensures.stops.0 ∷ [],
  c.loop-made.invariant.waits ++ c.loop-made.wait_ms ∷ [],
  (world_of c.in_ok-set.set (dialling g.D.Dialer.calls g.D.Dialer.left g.D.Dialer.came g.D.Dialer.faults c.args.parts.now.dialer) (g.K.Sink.held c.args.sink.now)),
  record {
    link = c.in_ok-set.ensures.links;
    arrived = c.in_ok-set.ensures.arrived;
    due = c.in_ok-set.ensures.due;
    waiting = c.in_ok-set.ensures.waiting;
    finished = c.in_ok-set.ensures.finished;
    dialled = refl;
    held = refl;
  },
  rise_now 0 c.loop-made.invariant.times (g.C.Clock.newest c.loop-made.clock) c.in_err-turn.ensures.stops.0 c.loop-made.invariant.rise c.in_err-turn.ensures.stops.3 c.in_err-turn.ensures.stops.2,
  grows_then (g.C.Clock.readings c.args.clock.now) (g.C.Clock.readings c.loop-made.clock) (g.C.Clock.readings c.node_turn.new.clock) c.loop-made.invariant.times (c.in_err-turn.ensures.stops.0 ∷ [])
      c.loop-made.invariant.readings c.in_err-turn.ensures.stops.1,
  grows_still (g.V.Waiter.waits c.args.parts.now.waiter) (g.V.Waiter.waits c.wait.new.self) (g.V.Waiter.waits c.node_turn.new.parts.waiter)
      (c.loop-made.invariant.waits ++ c.loop-made.wait_ms ∷ []) (ap g.V.Waiter.waits c.node_turn.ensures.waiter)
      (grows_then (g.V.Waiter.waits c.args.parts.now.waiter) (g.V.Waiter.waits c.loop-made.parts.waiter) (g.V.Waiter.waits c.wait.new.self) c.loop-made.invariant.waits
      (c.loop-made.wait_ms ∷ []) c.loop-made.invariant.asked c.wait.ensures.told),
  pauses_now (GoesDrawing g.N.Core.goes (Draws g.W.Words.gives g.W.Words.faults)) g.L.Link.talk c.args.terms.listens (moment (at_rest c.args.node.now c.args.parts.now.random)
      (world_of c.in_ok-set.set (dialling g.D.Dialer.calls g.D.Dialer.left g.D.Dialer.came g.D.Dialer.faults c.args.parts.now.dialer) (g.K.Sink.held c.args.sink.now))
      (admitting g.A.Acceptor.left g.A.Acceptor.came g.A.Acceptor.waits c.args.acceptor.now)) c.loop-made.invariant.times c.loop-made.invariant.waits c.loop-made.start
      c.in_err-turn.ensures.stops.0 c.loop-made.wait_ms c.loop-made.invariant.last
      (at_rest c.loop-made.node c.loop-made.parts.random)
      (world_of c.loop-made.set (dialling g.D.Dialer.calls g.D.Dialer.left g.D.Dialer.came g.D.Dialer.faults c.loop-made.parts.dialer) (g.K.Sink.held c.loop-made.sink))
      (admitting g.A.Acceptor.left g.A.Acceptor.came g.A.Acceptor.waits c.loop-made.acceptor) c.loop-made.invariant.rests c.loop-made.invariant.rest,
)

pub returns-then-has_finished-clause-rests : goal.returns-then-has_finished-clause-rests
returns-then-has_finished-clause-rests g c = (
  c.loop-made.invariant.times ++ c.in_ok-turn.turn.time ∷ [],
  c.loop-made.invariant.waits ++ c.loop-made.wait_ms ∷ [],
  (world_of c.in_ok-set.set (dialling g.D.Dialer.calls g.D.Dialer.left g.D.Dialer.came g.D.Dialer.faults c.args.parts.now.dialer) (g.K.Sink.held c.args.sink.now)),
  record {
    link = c.in_ok-set.ensures.links;
    arrived = c.in_ok-set.ensures.arrived;
    due = c.in_ok-set.ensures.due;
    waiting = c.in_ok-set.ensures.waiting;
    finished = c.in_ok-set.ensures.finished;
    dialled = refl;
    held = refl;
  },
  rise_now 0 c.loop-made.invariant.times (g.C.Clock.newest c.loop-made.clock) c.in_ok-turn.turn.time c.loop-made.invariant.rise c.in_ok-turn.ensures.rises c.in_ok-turn.ensures.below,
  grows_then (g.C.Clock.readings c.args.clock.now) (g.C.Clock.readings c.loop-made.clock) (g.C.Clock.readings c.node_turn.new.clock) c.loop-made.invariant.times (c.in_ok-turn.turn.time ∷ [])
      c.loop-made.invariant.readings c.in_ok-turn.ensures.reading,
  grows_still (g.V.Waiter.waits c.args.parts.now.waiter) (g.V.Waiter.waits c.wait.new.self) (g.V.Waiter.waits c.node_turn.new.parts.waiter)
      (c.loop-made.invariant.waits ++ c.loop-made.wait_ms ∷ []) (ap g.V.Waiter.waits c.node_turn.ensures.waiter)
      (grows_then (g.V.Waiter.waits c.args.parts.now.waiter) (g.V.Waiter.waits c.loop-made.parts.waiter) (g.V.Waiter.waits c.wait.new.self) c.loop-made.invariant.waits
      (c.loop-made.wait_ms ∷ []) c.loop-made.invariant.asked c.wait.ensures.told),
  pauses_now (GoesDrawing g.N.Core.goes (Draws g.W.Words.gives g.W.Words.faults)) g.L.Link.talk c.args.terms.listens (moment (at_rest c.args.node.now c.args.parts.now.random)
      (world_of c.in_ok-set.set (dialling g.D.Dialer.calls g.D.Dialer.left g.D.Dialer.came g.D.Dialer.faults c.args.parts.now.dialer) (g.K.Sink.held c.args.sink.now))
      (admitting g.A.Acceptor.left g.A.Acceptor.came g.A.Acceptor.waits c.args.acceptor.now)) c.loop-made.invariant.times c.loop-made.invariant.waits c.loop-made.start c.in_ok-turn.turn.time
      c.loop-made.wait_ms c.loop-made.invariant.last
      (at_rest c.loop-made.node c.loop-made.parts.random)
      (world_of c.loop-made.set (dialling g.D.Dialer.calls g.D.Dialer.left g.D.Dialer.came g.D.Dialer.faults c.loop-made.parts.dialer) (g.K.Sink.held c.loop-made.sink))
      (admitting g.A.Acceptor.left g.A.Acceptor.came g.A.Acceptor.waits c.loop-made.acceptor) c.loop-made.invariant.rests c.loop-made.invariant.rest,
)

pub returns-clause-rests : goal.returns-clause-rests
returns-clause-rests g c = (
  c.loop-made.invariant.times,
  c.loop-made.invariant.waits,
  (world_of c.in_ok-set.set (dialling g.D.Dialer.calls g.D.Dialer.left g.D.Dialer.came g.D.Dialer.faults c.args.parts.now.dialer) (g.K.Sink.held c.args.sink.now)),
  record {
    link = c.in_ok-set.ensures.links;
    arrived = c.in_ok-set.ensures.arrived;
    due = c.in_ok-set.ensures.due;
    waiting = c.in_ok-set.ensures.waiting;
    finished = c.in_ok-set.ensures.finished;
    dialled = refl;
    held = refl;
  },
  rise_all 0 c.loop-made.invariant.times (g.C.Clock.newest c.loop-made.clock) c.loop-made.invariant.rise,
  c.loop-made.invariant.readings,
  c.loop-made.invariant.asked,
  pauses_all (GoesDrawing g.N.Core.goes (Draws g.W.Words.gives g.W.Words.faults)) g.L.Link.talk c.args.terms.listens (moment (at_rest c.args.node.now c.args.parts.now.random)
      (world_of c.in_ok-set.set (dialling g.D.Dialer.calls g.D.Dialer.left g.D.Dialer.came g.D.Dialer.faults c.args.parts.now.dialer) (g.K.Sink.held c.args.sink.now))
      (admitting g.A.Acceptor.left g.A.Acceptor.came g.A.Acceptor.waits c.args.acceptor.now)) c.loop-made.invariant.times c.loop-made.invariant.waits c.loop-made.start c.loop-made.invariant.last
      (moment (at_rest c.loop-made.node c.loop-made.parts.random)
      (world_of c.loop-made.set (dialling g.D.Dialer.calls g.D.Dialer.left g.D.Dialer.came g.D.Dialer.faults c.loop-made.parts.dialer) (g.K.Sink.held c.loop-made.sink))
      (admitting g.A.Acceptor.left g.A.Acceptor.came g.A.Acceptor.waits c.loop-made.acceptor)) c.loop-made.invariant.rests,
)
