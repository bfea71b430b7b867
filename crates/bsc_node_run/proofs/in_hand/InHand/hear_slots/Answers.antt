use Rattle.std.proofs.Common.{arith, ◌-◌, ◌+◌}
use Rattle.bsc_direct.specs.declared.bounds.TheConstants.{SLOTS}
use Rattle.bsc_node_run.specs.Drawing.{Draws, GoesDrawing}
use Rattle.bsc_node_run.specs.Handling.{node_in, world_in}
use Rattle.bsc_node_run.specs.Worlds.{dialling}
use Rattle.bsc_node_run.proofs.Turns.{slot_more, slots_over}
use Rattle.bsc_node_run.proofs.Handling.{hand_then}
use Rattle.bsc_node_run.proofs.Stops.{at_err, slot_stops, slot_stops_later}
use Rattle.bsc_node_run.proofs.in_hand.InHand.hear_slots.Goals as goal

pub loop-k-preserved : goal.loop-k-preserved
loop-k-preserved g c = record {
  hears = λ m v t. c.loop-k.invariant.hears m v (slot_more (GoesDrawing g.N.Core.goes (Draws g.W.Words.gives g.W.Words.faults)) g.L.Link.talk c.args.at.time (SLOTS - c.loop-k.k)
      (SLOTS - (c.loop-k.k + 1)) c.loop-k.k (node_in c.loop-k.self) (node_in c.hear.new.self) m
      (world_in (dialling g.D.Dialer.calls g.D.Dialer.left g.D.Dialer.came g.D.Dialer.faults) g.K.Sink.held c.loop-k.self)
      (world_in (dialling g.D.Dialer.calls g.D.Dialer.left g.D.Dialer.came g.D.Dialer.faults) g.K.Sink.held c.hear.new.self) v
      (omega (arith, c.loop-k-test.true)) c.in_ok-hear.ensures.hears t);
  stops = λ v t. c.loop-k.invariant.stops v (slot_stops_later (GoesDrawing g.N.Core.goes (Draws g.W.Words.gives g.W.Words.faults)) g.L.Link.talk c.args.at.time (SLOTS - c.loop-k.k)
      (SLOTS - (c.loop-k.k + 1)) c.loop-k.k (node_in c.loop-k.self) (node_in c.hear.new.self)
      (world_in (dialling g.D.Dialer.calls g.D.Dialer.left g.D.Dialer.came g.D.Dialer.faults) g.K.Sink.held c.loop-k.self)
      (world_in (dialling g.D.Dialer.calls g.D.Dialer.left g.D.Dialer.came g.D.Dialer.faults) g.K.Sink.held c.hear.new.self) v (omega (arith, c.loop-k-test.true)) c.in_ok-hear.ensures.hears t);
  later = omega (arith, c.loop-k.invariant.later, c.hear.ensures.counts.0.1);
  same = hand_then c.args.self.now c.loop-k.self c.hear.new.self c.loop-k.invariant.same c.hear.ensures.same;
}

pub returns-clause-hears : goal.returns-clause-hears
returns-clause-hears g c =
    let n = node_in c.loop-k.self in
    let w = world_in (dialling g.D.Dialer.calls g.D.Dialer.left g.D.Dialer.came g.D.Dialer.faults) g.K.Sink.held c.loop-k.self in
    c.loop-k.invariant.hears n w (slots_over (GoesDrawing g.N.Core.goes (Draws g.W.Words.gives g.W.Words.faults)) g.L.Link.talk c.args.at.time (SLOTS - c.loop-k.k) c.loop-k.k n w
    (omega (arith, c.loop-k-test.false)))

pub returns-in_err-hear-clause-stops : goal.returns-in_err-hear-clause-stops
returns-in_err-hear-clause-stops g c =
    at_err _ (c.loop-k.invariant.stops (world_in (dialling g.D.Dialer.calls g.D.Dialer.left g.D.Dialer.came g.D.Dialer.faults) g.K.Sink.held c.hear.new.self)
    (slot_stops (GoesDrawing g.N.Core.goes (Draws g.W.Words.gives g.W.Words.faults)) g.L.Link.talk c.args.at.time (SLOTS - c.loop-k.k) (SLOTS - (c.loop-k.k + 1)) c.loop-k.k (node_in c.loop-k.self)
    (world_in (dialling g.D.Dialer.calls g.D.Dialer.left g.D.Dialer.came g.D.Dialer.faults) g.K.Sink.held c.loop-k.self)
    (world_in (dialling g.D.Dialer.calls g.D.Dialer.left g.D.Dialer.came g.D.Dialer.faults) g.K.Sink.held c.hear.new.self) (omega (arith, c.loop-k-test.true)) c.in_err-hear.ensures.stops))
