use Rattle.std.proofs.Common.{inl, inr, sym, ◌∙◌}
use Rattle.bsc_node_run.specs.Drawing.{Draws, GoesDrawing}
use Rattle.bsc_node_run.specs.Handling.{node_in, world_in}
use Rattle.bsc_node_run.specs.Stopping.{HearStops}
use Rattle.bsc_node_run.specs.Worlds.{dialling, world_of}
use Rattle.bsc_node_run.proofs.Turns.{hears_closed, hears_none, hears_some}
use Rattle.bsc_node_run.proofs.Stops.{at_err}
use Rattle.bsc_node_run.proofs.in_hand.InHand.hear.Goals as goal
use Rattle.std.proofs.lemmas.Result.{on_err_weaker as on_err, on_ok_weaker as on_ok}

pub returns-then-not-is_open-clause-hears : goal.returns-then-not-is_open-clause-hears
returns-then-not-is_open-clause-hears g c = hears_closed (GoesDrawing g.N.Core.goes (Draws g.W.Words.gives g.W.Words.faults)) g.L.Link.talk c.args.at.time c.args.name
    (node_in c.args.self.now) (world_in (dialling g.D.Dialer.calls g.D.Dialer.left g.D.Dialer.came g.D.Dialer.faults) g.K.Sink.held c.args.self.now)
    (sym c.if-not-is_open.true ∙ c.is_open.ensures (dialling g.D.Dialer.calls g.D.Dialer.left g.D.Dialer.came g.D.Dialer.faults c.args.self.now.dialer.now) (g.K.Sink.held c.args.self.now.sink.now))

pub returns-in-Some-clause-hears : goal.returns-in-Some-clause-hears
returns-in-Some-clause-hears g c =
    let d = dialling g.D.Dialer.calls g.D.Dialer.left g.D.Dialer.came g.D.Dialer.faults c.args.self.now.dialer.now in
    let h = g.K.Sink.held c.args.self.now.sink.now in
    on_ok c.dispatch.result
    (λ k. hears_some (GoesDrawing g.N.Core.goes (Draws g.W.Words.gives g.W.Words.faults)) g.L.Link.talk c.args.at.time c.args.name c.in-Some.event (node_in c.args.self.now)
    (node_in c.dispatch.new.self) (world_of c.args.self.now.set.now d h) (world_of c.receive.new.set d h)
    (world_in (dialling g.D.Dialer.calls g.D.Dialer.left g.D.Dialer.came g.D.Dialer.faults) g.K.Sink.held c.dispatch.new.self) (sym c.if-not-is_open.false ∙ c.is_open.ensures d h)
    (rw c.in-Some.is at c.in_ok-event.ensures.received d h) k)
    c.dispatch.ensures.gives

pub returns-in-None-clause-hears : goal.returns-in-None-clause-hears
returns-in-None-clause-hears g c =
    let d = dialling g.D.Dialer.calls g.D.Dialer.left g.D.Dialer.came g.D.Dialer.faults c.args.self.now.dialer.now in
    let h = g.K.Sink.held c.args.self.now.sink.now in
    hears_none (GoesDrawing g.N.Core.goes (Draws g.W.Words.gives g.W.Words.faults)) g.L.Link.talk c.args.at.time c.args.name (node_in c.args.self.now) (world_of c.args.self.now.set.now d h)
    (world_of c.receive.new.set d h) (sym c.if-not-is_open.false ∙ c.is_open.ensures d h) (rw c.in-None.is at c.in_ok-event.ensures.received d h)

pub returns-in_err-event-clause-stops : goal.returns-in_err-event-clause-stops
returns-in_err-event-clause-stops g c =
    let d = dialling g.D.Dialer.calls g.D.Dialer.left g.D.Dialer.came g.D.Dialer.faults c.args.self.now.dialer.now in
    let h = g.K.Sink.held c.args.self.now.sink.now in
    at_err {P = HearStops (GoesDrawing g.N.Core.goes (Draws g.W.Words.gives g.W.Words.faults)) g.L.Link.talk c.args.at.time c.args.name (node_in c.args.self.now)
    (world_of c.args.self.now.set.now d h) (world_of c.receive.new.set d h)} _
    (sym (c.is_open.ensures d h) ∙ c.if-not-is_open.false, inl (c.in_err-event.ensures.missed d h))

pub returns-in-Some-clause-stops : goal.returns-in-Some-clause-stops
returns-in-Some-clause-stops g c =
    let d = dialling g.D.Dialer.calls g.D.Dialer.left g.D.Dialer.came g.D.Dialer.faults c.args.self.now.dialer.now in
    let h = g.K.Sink.held c.args.self.now.sink.now in
    on_err c.dispatch.result
    (λ k. (sym (c.is_open.ensures d h) ∙ c.if-not-is_open.false, inr (c.in-Some.event, world_of c.receive.new.set d h, rw c.in-Some.is at c.in_ok-event.ensures.received d h, k)))
    c.dispatch.ensures.stops
