use Rattle.std.proofs.Common.{ap, arith, inl, inr, refl, None, Some, ◌∷◌, [], ◌++◌, unwrap_or}
use Rattle.bsc_edge.proofs.Common.{grows_none, grows_then, stays_same, stays_then}
use Rattle.bsc_node_run.specs.Drawing.{Draws, GoesDrawing, at_rest}
use Rattle.bsc_node_run.specs.Moments.{moment}
use Rattle.bsc_node_run.specs.Worlds.{admitting, dialling, world_of}
use Rattle.bsc_node_run.proofs.Runs.{grows_still, one_longer, rise_all, rise_before, rise_more, turns_all, turns_more}
use Rattle.bsc_node_run.proofs.Resting.{empty_yet, nothing_yet, rest_so, rested_all, rested_more, rested_now}
use Rattle.bsc_node_run.proofs.Stops.{at_err, rise_now, stops_more, stops_now}
use Rattle.bsc_node_run.proofs.running.run_core.Goals as goal

pub loop-made-init : goal.loop-made-init
loop-made-init g c = record {
  times = [];
  readings = grows_none (g.C.Clock.readings c.args.clock.now);
  count = refl;
  going = c.in_ok-set.ensures.finished;
  turns = λ more m v door k. k;
  stops = λ more v door k. k;
  rise = λ more r. rise_before 0 (g.C.Clock.newest c.args.clock.now) more (omega arith) r;
  waits = [];
  asked = grows_none (g.V.Waiter.waits c.args.parts.now.waiter);
  newest = 0;
  rest = refl;
  rests = λ more others k. k;
  writes_later = omega arith;
  links_later = omega arith;
  bound = stays_same (g.A.Acceptor.bound c.args.acceptor.now);
}

pub returns-then-set-clause-runs : goal.returns-then-set-clause-runs
returns-then-set-clause-runs g c = record {
  times = c.loop-made.invariant.times ++ c.in_ok-turn.turn.time ∷ [];
  first = world_of c.in_ok-set.set (dialling g.D.Dialer.calls g.D.Dialer.left g.D.Dialer.came g.D.Dialer.faults c.args.parts.now.dialer) (g.K.Sink.held c.args.sink.now);
  last = (world_of c.node_turn.new.set (dialling g.D.Dialer.calls g.D.Dialer.left g.D.Dialer.came g.D.Dialer.faults c.node_turn.new.parts.dialer) (g.K.Sink.held c.node_turn.new.sink));
  empty = record {
    link = c.in_ok-set.ensures.links;
    arrived = c.in_ok-set.ensures.arrived;
    due = c.in_ok-set.ensures.due;
    waiting = c.in_ok-set.ensures.waiting;
    finished = c.in_ok-set.ensures.finished;
    dialled = refl;
    held = refl;
  };
  went = turns_all (GoesDrawing g.N.Core.goes (Draws g.W.Words.gives g.W.Words.faults)) g.L.Link.talk c.args.terms.listens None c.args.terms.script.now
      (at_rest c.args.node.now c.args.parts.now.random) (world_of c.in_ok-set.set (dialling g.D.Dialer.calls g.D.Dialer.left g.D.Dialer.came g.D.Dialer.faults c.args.parts.now.dialer)
      (g.K.Sink.held c.args.sink.now)) (admitting g.A.Acceptor.left g.A.Acceptor.came g.A.Acceptor.waits c.args.acceptor.now)
      (c.loop-made.invariant.times ++ c.in_ok-turn.turn.time ∷ []) (Some (unwrap_or c.loop-made.start c.in_ok-turn.turn.time)) c.in_ok-turn.turn.left.now
      (at_rest c.node_turn.new.node c.node_turn.new.parts.random) (world_of c.node_turn.new.set
      (dialling g.D.Dialer.calls g.D.Dialer.left g.D.Dialer.came g.D.Dialer.faults c.node_turn.new.parts.dialer) (g.K.Sink.held c.node_turn.new.sink))
      (admitting g.A.Acceptor.left g.A.Acceptor.came g.A.Acceptor.waits c.node_turn.new.acceptor)
      (turns_more (GoesDrawing g.N.Core.goes (Draws g.W.Words.gives g.W.Words.faults)) g.L.Link.talk c.args.terms.listens None c.args.terms.script.now
      (at_rest c.args.node.now c.args.parts.now.random) (world_of c.in_ok-set.set (dialling g.D.Dialer.calls g.D.Dialer.left g.D.Dialer.came g.D.Dialer.faults c.args.parts.now.dialer)
      (g.K.Sink.held c.args.sink.now)) (admitting g.A.Acceptor.left g.A.Acceptor.came g.A.Acceptor.waits c.args.acceptor.now)
      c.loop-made.invariant.times c.in_ok-turn.turn.time c.loop-made.start c.loop-made.left.now c.in_ok-turn.turn.left.now (at_rest c.loop-made.node c.loop-made.parts.random)
      (at_rest c.node_turn.new.node c.node_turn.new.parts.random)
      (world_of c.loop-made.set (dialling g.D.Dialer.calls g.D.Dialer.left g.D.Dialer.came g.D.Dialer.faults c.loop-made.parts.dialer) (g.K.Sink.held c.loop-made.sink))
      (world_of c.node_turn.new.set (dialling g.D.Dialer.calls g.D.Dialer.left g.D.Dialer.came g.D.Dialer.faults c.node_turn.new.parts.dialer) (g.K.Sink.held c.node_turn.new.sink))
      (admitting g.A.Acceptor.left g.A.Acceptor.came g.A.Acceptor.waits c.loop-made.acceptor) (admitting g.A.Acceptor.left g.A.Acceptor.came g.A.Acceptor.waits c.node_turn.new.acceptor)
      c.loop-made.invariant.turns c.loop-made.invariant.going c.in_ok-turn.ensures.turns);
  dials = refl;
  holds = refl;
  readings = grows_then (g.C.Clock.readings c.args.clock.now) (g.C.Clock.readings c.loop-made.clock) (g.C.Clock.readings c.node_turn.new.clock) c.loop-made.invariant.times
      (c.in_ok-turn.turn.time ∷ [])
      c.loop-made.invariant.readings c.in_ok-turn.ensures.reading;
  rise = rise_all 0 (c.loop-made.invariant.times ++ c.in_ok-turn.turn.time ∷ []) (g.C.Clock.newest c.node_turn.new.clock)
      (rise_more 0 c.loop-made.invariant.times (g.C.Clock.newest c.loop-made.clock) c.in_ok-turn.turn.time (g.C.Clock.newest c.node_turn.new.clock)
      c.loop-made.invariant.rise c.in_ok-turn.ensures.rises c.in_ok-turn.ensures.below c.in_ok-turn.ensures.newest);
  ends = c.if-set.true;
}

pub loop-made-preserved : goal.loop-made-preserved
loop-made-preserved g c = record {
  times = c.loop-made.invariant.times ++ c.in_ok-turn.turn.time ∷ [];
  readings = grows_then (g.C.Clock.readings c.args.clock.now) (g.C.Clock.readings c.loop-made.clock) (g.C.Clock.readings c.node_turn.new.clock) c.loop-made.invariant.times
      (c.in_ok-turn.turn.time ∷ [])
      c.loop-made.invariant.readings c.in_ok-turn.ensures.reading;
  count = one_longer c.loop-made.invariant.times c.in_ok-turn.turn.time c.loop-made.made c.loop-made.invariant.count;
  going = c.if-set.false;
  turns = λ more m v door k. turns_more (GoesDrawing g.N.Core.goes (Draws g.W.Words.gives g.W.Words.faults)) g.L.Link.talk c.args.terms.listens None c.args.terms.script.now
      (at_rest c.args.node.now c.args.parts.now.random) (world_of c.in_ok-set.set (dialling g.D.Dialer.calls g.D.Dialer.left g.D.Dialer.came g.D.Dialer.faults c.args.parts.now.dialer)
      (g.K.Sink.held c.args.sink.now)) (admitting g.A.Acceptor.left g.A.Acceptor.came g.A.Acceptor.waits c.args.acceptor.now)
      c.loop-made.invariant.times c.in_ok-turn.turn.time c.loop-made.start c.loop-made.left.now c.in_ok-turn.turn.left.now (at_rest c.loop-made.node c.loop-made.parts.random)
      (at_rest c.node_turn.new.node c.node_turn.new.parts.random)
      (world_of c.loop-made.set (dialling g.D.Dialer.calls g.D.Dialer.left g.D.Dialer.came g.D.Dialer.faults c.loop-made.parts.dialer) (g.K.Sink.held c.loop-made.sink))
      (world_of c.node_turn.new.set (dialling g.D.Dialer.calls g.D.Dialer.left g.D.Dialer.came g.D.Dialer.faults c.node_turn.new.parts.dialer) (g.K.Sink.held c.node_turn.new.sink))
      (admitting g.A.Acceptor.left g.A.Acceptor.came g.A.Acceptor.waits c.loop-made.acceptor) (admitting g.A.Acceptor.left g.A.Acceptor.came g.A.Acceptor.waits c.node_turn.new.acceptor)
      c.loop-made.invariant.turns c.loop-made.invariant.going c.in_ok-turn.ensures.turns
      more m v door (rw c.unwrap_or.ensures at k);
  stops = λ more v door k. stops_more (GoesDrawing g.N.Core.goes (Draws g.W.Words.gives g.W.Words.faults)) g.L.Link.talk c.args.terms.listens None c.args.terms.script.now
      (at_rest c.args.node.now c.args.parts.now.random) (world_of c.in_ok-set.set (dialling g.D.Dialer.calls g.D.Dialer.left g.D.Dialer.came g.D.Dialer.faults c.args.parts.now.dialer)
      (g.K.Sink.held c.args.sink.now)) (admitting g.A.Acceptor.left g.A.Acceptor.came g.A.Acceptor.waits c.args.acceptor.now)
      c.loop-made.invariant.times c.in_ok-turn.turn.time c.loop-made.start c.loop-made.left.now c.in_ok-turn.turn.left.now (at_rest c.loop-made.node c.loop-made.parts.random)
      (at_rest c.node_turn.new.node c.node_turn.new.parts.random)
      (world_of c.loop-made.set (dialling g.D.Dialer.calls g.D.Dialer.left g.D.Dialer.came g.D.Dialer.faults c.loop-made.parts.dialer) (g.K.Sink.held c.loop-made.sink))
      (world_of c.node_turn.new.set (dialling g.D.Dialer.calls g.D.Dialer.left g.D.Dialer.came g.D.Dialer.faults c.node_turn.new.parts.dialer) (g.K.Sink.held c.node_turn.new.sink))
      (admitting g.A.Acceptor.left g.A.Acceptor.came g.A.Acceptor.waits c.loop-made.acceptor) (admitting g.A.Acceptor.left g.A.Acceptor.came g.A.Acceptor.waits c.node_turn.new.acceptor)
      c.loop-made.invariant.stops c.loop-made.invariant.going c.in_ok-turn.ensures.turns
      more v door (rw c.unwrap_or.ensures at k);
  rise = rise_more 0 c.loop-made.invariant.times (g.C.Clock.newest c.loop-made.clock) c.in_ok-turn.turn.time (g.C.Clock.newest c.node_turn.new.clock)
      c.loop-made.invariant.rise c.in_ok-turn.ensures.rises c.in_ok-turn.ensures.below c.in_ok-turn.ensures.newest;
  waits = c.loop-made.invariant.waits ++ c.loop-made.wait_ms ∷ [];
  asked = grows_still (g.V.Waiter.waits c.args.parts.now.waiter) (g.V.Waiter.waits c.wait.new.self) (g.V.Waiter.waits c.node_turn.new.parts.waiter)
      (c.loop-made.invariant.waits ++ c.loop-made.wait_ms ∷ []) (ap g.V.Waiter.waits c.node_turn.ensures.waiter)
      (grows_then (g.V.Waiter.waits c.args.parts.now.waiter) (g.V.Waiter.waits c.loop-made.parts.waiter) (g.V.Waiter.waits c.wait.new.self) c.loop-made.invariant.waits
      (c.loop-made.wait_ms ∷ []) c.loop-made.invariant.asked c.wait.ensures.told);
  newest = c.in_ok-turn.turn.time;
  rest = rest_so c.in_ok-turn.turn.time c.unwrap_or.result c.passed_by.result c.rest_ms-wait_ms.result c.in_ok-turn.turn.left.now c.node_turn.new.set.waiting.items c.passed_by.ensures
      c.rest_ms-wait_ms.ensures;
  rests = rested_more (GoesDrawing g.N.Core.goes (Draws g.W.Words.gives g.W.Words.faults)) g.L.Link.talk c.args.terms.listens c.args.terms.script.now
      (moment (at_rest c.args.node.now c.args.parts.now.random) (world_of c.in_ok-set.set
      (dialling g.D.Dialer.calls g.D.Dialer.left g.D.Dialer.came g.D.Dialer.faults c.args.parts.now.dialer) (g.K.Sink.held c.args.sink.now))
      (admitting g.A.Acceptor.left g.A.Acceptor.came g.A.Acceptor.waits c.args.acceptor.now))
      c.loop-made.invariant.times c.loop-made.invariant.waits c.loop-made.start c.loop-made.invariant.newest c.in_ok-turn.turn.time c.unwrap_or.result c.loop-made.wait_ms
      c.loop-made.left.now c.in_ok-turn.turn.left.now
      (at_rest c.loop-made.node c.loop-made.parts.random) (at_rest c.node_turn.new.node c.node_turn.new.parts.random)
      (world_of c.loop-made.set (dialling g.D.Dialer.calls g.D.Dialer.left g.D.Dialer.came g.D.Dialer.faults c.loop-made.parts.dialer) (g.K.Sink.held c.loop-made.sink))
      (world_of c.node_turn.new.set (dialling g.D.Dialer.calls g.D.Dialer.left g.D.Dialer.came g.D.Dialer.faults c.node_turn.new.parts.dialer) (g.K.Sink.held c.node_turn.new.sink))
      (admitting g.A.Acceptor.left g.A.Acceptor.came g.A.Acceptor.waits c.loop-made.acceptor) (admitting g.A.Acceptor.left g.A.Acceptor.came g.A.Acceptor.waits c.node_turn.new.acceptor)
      c.loop-made.invariant.rests c.loop-made.invariant.rest c.unwrap_or.ensures c.in_ok-turn.ensures.turns;
  writes_later = omega (arith, c.loop-made.invariant.writes_later, c.node_turn.ensures.later);
  links_later = omega (arith, c.loop-made.invariant.links_later, c.node_turn.ensures.arrivals);
  bound = stays_then (g.A.Acceptor.bound c.args.acceptor.now) (g.A.Acceptor.bound c.loop-made.acceptor)
      (g.A.Acceptor.bound c.node_turn.new.acceptor) c.loop-made.invariant.bound c.node_turn.ensures.bound;
}

pub returns-clause-runs : goal.returns-clause-runs
returns-clause-runs g c = record {
  times = c.loop-made.invariant.times;
  first = world_of c.in_ok-set.set (dialling g.D.Dialer.calls g.D.Dialer.left g.D.Dialer.came g.D.Dialer.faults c.args.parts.now.dialer) (g.K.Sink.held c.args.sink.now);
  last = (world_of c.loop-made.set (dialling g.D.Dialer.calls g.D.Dialer.left g.D.Dialer.came g.D.Dialer.faults c.loop-made.parts.dialer) (g.K.Sink.held c.loop-made.sink));
  empty = record {
    link = c.in_ok-set.ensures.links;
    arrived = c.in_ok-set.ensures.arrived;
    due = c.in_ok-set.ensures.due;
    waiting = c.in_ok-set.ensures.waiting;
    finished = c.in_ok-set.ensures.finished;
    dialled = refl;
    held = refl;
  };
  went = turns_all (GoesDrawing g.N.Core.goes (Draws g.W.Words.gives g.W.Words.faults)) g.L.Link.talk c.args.terms.listens None c.args.terms.script.now
      (at_rest c.args.node.now c.args.parts.now.random) (world_of c.in_ok-set.set (dialling g.D.Dialer.calls g.D.Dialer.left g.D.Dialer.came g.D.Dialer.faults c.args.parts.now.dialer)
      (g.K.Sink.held c.args.sink.now)) (admitting g.A.Acceptor.left g.A.Acceptor.came g.A.Acceptor.waits c.args.acceptor.now)
      c.loop-made.invariant.times c.loop-made.start c.loop-made.left.now (at_rest c.loop-made.node c.loop-made.parts.random)
      (world_of c.loop-made.set (dialling g.D.Dialer.calls g.D.Dialer.left g.D.Dialer.came g.D.Dialer.faults c.loop-made.parts.dialer) (g.K.Sink.held c.loop-made.sink))
      (admitting g.A.Acceptor.left g.A.Acceptor.came g.A.Acceptor.waits c.loop-made.acceptor)
      c.loop-made.invariant.turns;
  dials = refl;
  holds = refl;
  readings = c.loop-made.invariant.readings;
  rise = rise_all 0 c.loop-made.invariant.times (g.C.Clock.newest c.loop-made.clock) c.loop-made.invariant.rise;
  ends = (omega (arith, c.loop-made.invariant.count, c.loop-made-test.false, c.loop-made.auto.made-end), c.loop-made.invariant.going);
}

pub returns-in_err-set-clause-fails : goal.returns-in_err-set-clause-fails
returns-in_err-set-clause-fails g c =
    at_err _ (inl refl)

pub returns-in_err-turn-clause-fails : goal.returns-in_err-turn-clause-fails
returns-in_err-turn-clause-fails g c =
    let k = c.in_err-turn.ensures.stops in
    at_err _ (inr (
    record {
      times = c.loop-made.invariant.times ++ k.0 ∷ [];
      first = (world_of c.in_ok-set.set (dialling g.D.Dialer.calls g.D.Dialer.left g.D.Dialer.came g.D.Dialer.faults c.args.parts.now.dialer) (g.K.Sink.held c.args.sink.now));
      last = (world_of c.node_turn.new.set (dialling g.D.Dialer.calls g.D.Dialer.left g.D.Dialer.came g.D.Dialer.faults c.node_turn.new.parts.dialer) (g.K.Sink.held c.node_turn.new.sink));
      empty = record {
        link = c.in_ok-set.ensures.links;
        arrived = c.in_ok-set.ensures.arrived;
        due = c.in_ok-set.ensures.due;
        waiting = c.in_ok-set.ensures.waiting;
        finished = c.in_ok-set.ensures.finished;
        dialled = refl;
        held = refl;
      };
      went = stops_now (GoesDrawing g.N.Core.goes (Draws g.W.Words.gives g.W.Words.faults)) g.L.Link.talk c.args.terms.listens None c.args.terms.script.now
          (at_rest c.args.node.now c.args.parts.now.random) (world_of c.in_ok-set.set (dialling g.D.Dialer.calls g.D.Dialer.left g.D.Dialer.came g.D.Dialer.faults c.args.parts.now.dialer)
          (g.K.Sink.held c.args.sink.now)) (admitting g.A.Acceptor.left g.A.Acceptor.came g.A.Acceptor.waits c.args.acceptor.now)
          c.loop-made.invariant.times k.0 c.loop-made.start c.loop-made.left.now (at_rest c.loop-made.node c.loop-made.parts.random)
          (world_of c.loop-made.set (dialling g.D.Dialer.calls g.D.Dialer.left g.D.Dialer.came g.D.Dialer.faults c.loop-made.parts.dialer) (g.K.Sink.held c.loop-made.sink))
          (world_of c.node_turn.new.set (dialling g.D.Dialer.calls g.D.Dialer.left g.D.Dialer.came g.D.Dialer.faults c.node_turn.new.parts.dialer) (g.K.Sink.held c.node_turn.new.sink))
          (admitting g.A.Acceptor.left g.A.Acceptor.came g.A.Acceptor.waits c.loop-made.acceptor)
          (admitting g.A.Acceptor.left g.A.Acceptor.came g.A.Acceptor.waits c.node_turn.new.acceptor) c.loop-made.invariant.stops c.loop-made.invariant.going k.4;
      dials = refl;
      holds = refl;
      readings = grows_then (g.C.Clock.readings c.args.clock.now) (g.C.Clock.readings c.loop-made.clock) (g.C.Clock.readings c.node_turn.new.clock) c.loop-made.invariant.times (k.0 ∷ [])
          c.loop-made.invariant.readings k.1;
      rise = rise_now 0 c.loop-made.invariant.times (g.C.Clock.newest c.loop-made.clock) k.0 c.loop-made.invariant.rise k.3 k.2;
      within = omega (arith, one_longer c.loop-made.invariant.times k.0 c.loop-made.made c.loop-made.invariant.count, c.loop-made-test.true);
    }
    ))

pub returns-in_err-set-clause-rests : goal.returns-in_err-set-clause-rests
returns-in_err-set-clause-rests g c =
    let dialled = (dialling g.D.Dialer.calls g.D.Dialer.left g.D.Dialer.came g.D.Dialer.faults c.args.parts.now.dialer) in
    let held = g.K.Sink.held c.args.sink.now in
    ([], [], nothing_yet dialled held, empty_yet dialled held, tt, grows_none (g.C.Clock.readings c.args.clock.now), grows_none (g.V.Waiter.waits c.args.parts.now.waiter), tt)

pub returns-in_err-turn-clause-rests : goal.returns-in_err-turn-clause-rests
returns-in_err-turn-clause-rests g c = (
  c.loop-made.invariant.times ++ c.in_err-turn.ensures.stops.0 ∷ [],
  c.loop-made.invariant.waits ++ c.loop-made.wait_ms ∷ [],
  (world_of c.in_ok-set.set (dialling g.D.Dialer.calls g.D.Dialer.left g.D.Dialer.came g.D.Dialer.faults c.args.parts.now.dialer) (g.K.Sink.held c.args.sink.now)),
  record {
    link = c.in_ok-set.ensures.links;
    arrived = c.in_ok-set.ensures.arrived;
    due = c.in_ok-set.ensures.due;
    waiting = c.in_ok-set.ensures.waiting;
    finished = c.in_ok-set.ensures.finished;
    dialled = refl;
    held = refl;
  },
  rise_now 0 c.loop-made.invariant.times (g.C.Clock.newest c.loop-made.clock) c.in_err-turn.ensures.stops.0 c.loop-made.invariant.rise c.in_err-turn.ensures.stops.3 c.in_err-turn.ensures.stops.2,
  grows_then (g.C.Clock.readings c.args.clock.now) (g.C.Clock.readings c.loop-made.clock) (g.C.Clock.readings c.node_turn.new.clock) c.loop-made.invariant.times (c.in_err-turn.ensures.stops.0 ∷ [])
      c.loop-made.invariant.readings c.in_err-turn.ensures.stops.1,
  grows_still (g.V.Waiter.waits c.args.parts.now.waiter) (g.V.Waiter.waits c.wait.new.self) (g.V.Waiter.waits c.node_turn.new.parts.waiter)
      (c.loop-made.invariant.waits ++ c.loop-made.wait_ms ∷ []) (ap g.V.Waiter.waits c.node_turn.ensures.waiter)
      (grows_then (g.V.Waiter.waits c.args.parts.now.waiter) (g.V.Waiter.waits c.loop-made.parts.waiter) (g.V.Waiter.waits c.wait.new.self) c.loop-made.invariant.waits
      (c.loop-made.wait_ms ∷ []) c.loop-made.invariant.asked c.wait.ensures.told),
  rested_now (GoesDrawing g.N.Core.goes (Draws g.W.Words.gives g.W.Words.faults)) g.L.Link.talk c.args.terms.listens c.args.terms.script.now
      (moment (at_rest c.args.node.now c.args.parts.now.random) (world_of c.in_ok-set.set
      (dialling g.D.Dialer.calls g.D.Dialer.left g.D.Dialer.came g.D.Dialer.faults c.args.parts.now.dialer) (g.K.Sink.held c.args.sink.now))
      (admitting g.A.Acceptor.left g.A.Acceptor.came g.A.Acceptor.waits c.args.acceptor.now))
      c.loop-made.invariant.times c.loop-made.invariant.waits c.loop-made.start c.loop-made.invariant.newest c.in_err-turn.ensures.stops.0 c.loop-made.wait_ms c.loop-made.left.now
      (at_rest c.loop-made.node c.loop-made.parts.random) (world_of c.loop-made.set (dialling g.D.Dialer.calls g.D.Dialer.left g.D.Dialer.came g.D.Dialer.faults c.loop-made.parts.dialer)
      (g.K.Sink.held c.loop-made.sink)) (admitting g.A.Acceptor.left g.A.Acceptor.came g.A.Acceptor.waits c.loop-made.acceptor)
      c.loop-made.invariant.rests c.loop-made.invariant.rest,
)

pub returns-then-set-clause-rests : goal.returns-then-set-clause-rests
returns-then-set-clause-rests g c = (
  c.loop-made.invariant.times ++ c.in_ok-turn.turn.time ∷ [],
  c.loop-made.invariant.waits ++ c.loop-made.wait_ms ∷ [],
  (world_of c.in_ok-set.set (dialling g.D.Dialer.calls g.D.Dialer.left g.D.Dialer.came g.D.Dialer.faults c.args.parts.now.dialer) (g.K.Sink.held c.args.sink.now)),
  record {
    link = c.in_ok-set.ensures.links;
    arrived = c.in_ok-set.ensures.arrived;
    due = c.in_ok-set.ensures.due;
    waiting = c.in_ok-set.ensures.waiting;
    finished = c.in_ok-set.ensures.finished;
    dialled = refl;
    held = refl;
  },
  rise_now 0 c.loop-made.invariant.times (g.C.Clock.newest c.loop-made.clock) c.in_ok-turn.turn.time c.loop-made.invariant.rise c.in_ok-turn.ensures.rises c.in_ok-turn.ensures.below,
  grows_then (g.C.Clock.readings c.args.clock.now) (g.C.Clock.readings c.loop-made.clock) (g.C.Clock.readings c.node_turn.new.clock) c.loop-made.invariant.times (c.in_ok-turn.turn.time ∷ [])
      c.loop-made.invariant.readings c.in_ok-turn.ensures.reading,
  grows_still (g.V.Waiter.waits c.args.parts.now.waiter) (g.V.Waiter.waits c.wait.new.self) (g.V.Waiter.waits c.node_turn.new.parts.waiter)
      (c.loop-made.invariant.waits ++ c.loop-made.wait_ms ∷ []) (ap g.V.Waiter.waits c.node_turn.ensures.waiter)
      (grows_then (g.V.Waiter.waits c.args.parts.now.waiter) (g.V.Waiter.waits c.loop-made.parts.waiter) (g.V.Waiter.waits c.wait.new.self) c.loop-made.invariant.waits
      (c.loop-made.wait_ms ∷ []) c.loop-made.invariant.asked c.wait.ensures.told),
  rested_now (GoesDrawing g.N.Core.goes (Draws g.W.Words.gives g.W.Words.faults)) g.L.Link.talk c.args.terms.listens c.args.terms.script.now
      (moment (at_rest c.args.node.now c.args.parts.now.random) (world_of c.in_ok-set.set
      (dialling g.D.Dialer.calls g.D.Dialer.left g.D.Dialer.came g.D.Dialer.faults c.args.parts.now.dialer) (g.K.Sink.held c.args.sink.now))
      (admitting g.A.Acceptor.left g.A.Acceptor.came g.A.Acceptor.waits c.args.acceptor.now))
      c.loop-made.invariant.times c.loop-made.invariant.waits c.loop-made.start c.loop-made.invariant.newest c.in_ok-turn.turn.time c.loop-made.wait_ms c.loop-made.left.now
      (at_rest c.loop-made.node c.loop-made.parts.random) (world_of c.loop-made.set (dialling g.D.Dialer.calls g.D.Dialer.left g.D.Dialer.came g.D.Dialer.faults c.loop-made.parts.dialer)
      (g.K.Sink.held c.loop-made.sink)) (admitting g.A.Acceptor.left g.A.Acceptor.came g.A.Acceptor.waits c.loop-made.acceptor)
      c.loop-made.invariant.rests c.loop-made.invariant.rest,
)

pub returns-clause-rests : goal.returns-clause-rests
returns-clause-rests g c = (
  c.loop-made.invariant.times,
  c.loop-made.invariant.waits,
  (world_of c.in_ok-set.set (dialling g.D.Dialer.calls g.D.Dialer.left g.D.Dialer.came g.D.Dialer.faults c.args.parts.now.dialer) (g.K.Sink.held c.args.sink.now)),
  record {
    link = c.in_ok-set.ensures.links;
    arrived = c.in_ok-set.ensures.arrived;
    due = c.in_ok-set.ensures.due;
    waiting = c.in_ok-set.ensures.waiting;
    finished = c.in_ok-set.ensures.finished;
    dialled = refl;
    held = refl;
  },
  rise_all 0 c.loop-made.invariant.times (g.C.Clock.newest c.loop-made.clock) c.loop-made.invariant.rise,
  c.loop-made.invariant.readings,
  c.loop-made.invariant.asked,
  rested_all (GoesDrawing g.N.Core.goes (Draws g.W.Words.gives g.W.Words.faults)) g.L.Link.talk c.args.terms.listens c.args.terms.script.now
      (moment (at_rest c.args.node.now c.args.parts.now.random) (world_of c.in_ok-set.set
      (dialling g.D.Dialer.calls g.D.Dialer.left g.D.Dialer.came g.D.Dialer.faults c.args.parts.now.dialer) (g.K.Sink.held c.args.sink.now))
      (admitting g.A.Acceptor.left g.A.Acceptor.came g.A.Acceptor.waits c.args.acceptor.now))
      c.loop-made.invariant.times c.loop-made.invariant.waits c.loop-made.start c.loop-made.invariant.newest c.loop-made.left.now
      (moment (at_rest c.loop-made.node c.loop-made.parts.random) (world_of c.loop-made.set
      (dialling g.D.Dialer.calls g.D.Dialer.left g.D.Dialer.came g.D.Dialer.faults c.loop-made.parts.dialer) (g.K.Sink.held c.loop-made.sink))
      (admitting g.A.Acceptor.left g.A.Acceptor.came g.A.Acceptor.waits c.loop-made.acceptor)) c.loop-made.invariant.rests,
)
