use Rattle.std.proofs.Common.{true, false, inl, sym, ap, refl, ◌∙◌}
use Rattle.bsc_node_run.specs.Drawing.{at_rest}
use Rattle.bsc_node_run.specs.Turning.{draws}
use Rattle.bsc_node_run.specs.Handling.{node_in, world_in}
use Rattle.bsc_node_run.specs.Worlds.{dialling, world_of}
use Rattle.bsc_node_run.proofs.Giving.{gives_at_rest}
use Rattle.bsc_node_run.proofs.Worlds.{same}
use Rattle.bsc_node_run.proofs.Stops.{at_err, stops_at_rest, stops_at_word}
use Rattle.bsc_node_run.proofs.in_hand.InHand.dispatch.Goals as goal
use Rattle.std.proofs.lemmas.Result.{on_err_weaker as on_err, on_ok_weaker as on_ok}

pub returns-then-draws-clause-gives : goal.returns-then-draws-clause-gives
returns-then-draws-clause-gives g c = on_ok c.tell_word.result
    (λ told. gives_at_rest g.N.Core.goes g.W.Words.gives g.W.Words.faults g.L.Link.talk c.args.at.time c.args.event.now c.args.self.now.node.now c.tell.new.node c.args.self.now.random.now
    (node_in c.tell_word.new.self)
    (world_in (dialling g.D.Dialer.calls g.D.Dialer.left g.D.Dialer.came g.D.Dialer.faults) g.K.Sink.held c.args.self.now)
    (world_of c.tell.new.set (dialling g.D.Dialer.calls g.D.Dialer.left g.D.Dialer.came g.D.Dialer.faults c.tell.new.dialer) (g.K.Sink.held c.tell.new.sink))
    (world_in (dialling g.D.Dialer.calls g.D.Dialer.left g.D.Dialer.came g.D.Dialer.faults) g.K.Sink.held c.tell_word.new.self)
    c.in_ok-actions.actions.items true (sym c.if-draws.true ∙ c.draws.ensures ∙ ap draws c.as_slice.ensures.value)
    c.in_ok-actions.ensures.goes c.in_ok-actions.ensures.carries told)
    c.tell_word.ensures.answers

pub returns-clause-gives : goal.returns-clause-gives
returns-clause-gives g c =
    let x = world_of c.tell.new.set (dialling g.D.Dialer.calls g.D.Dialer.left g.D.Dialer.came g.D.Dialer.faults c.tell.new.dialer) (g.K.Sink.held c.tell.new.sink) in
    gives_at_rest g.N.Core.goes g.W.Words.gives g.W.Words.faults g.L.Link.talk c.args.at.time c.args.event.now c.args.self.now.node.now c.tell.new.node c.args.self.now.random.now
    (at_rest c.tell.new.node c.args.self.now.random.now)
    (world_in (dialling g.D.Dialer.calls g.D.Dialer.left g.D.Dialer.came g.D.Dialer.faults) g.K.Sink.held c.args.self.now) x x
    c.in_ok-actions.actions.items false (sym c.if-draws.false ∙ c.draws.ensures ∙ ap draws c.as_slice.ensures.value)
    c.in_ok-actions.ensures.goes c.in_ok-actions.ensures.carries (refl, same x)

pub returns-in_err-actions-clause-stops : goal.returns-in_err-actions-clause-stops
returns-in_err-actions-clause-stops g c =
    at_err _ (inl (stops_at_rest g.N.Core.goes g.W.Words.gives g.W.Words.faults g.L.Link.talk c.args.at.time c.args.event.now c.args.self.now.node.now c.args.self.now.random.now
    (world_in (dialling g.D.Dialer.calls g.D.Dialer.left g.D.Dialer.came g.D.Dialer.faults) g.K.Sink.held c.args.self.now)
    (world_of c.tell.new.set (dialling g.D.Dialer.calls g.D.Dialer.left g.D.Dialer.came g.D.Dialer.faults c.tell.new.dialer) (g.K.Sink.held c.tell.new.sink)) c.in_err-actions.ensures.stops))

pub returns-then-draws-clause-stops : goal.returns-then-draws-clause-stops
returns-then-draws-clause-stops g c = on_err c.tell_word.result
    (λ told. stops_at_word g.N.Core.goes g.W.Words.gives g.W.Words.faults g.L.Link.talk c.args.at.time c.args.event.now c.args.self.now.node.now c.tell.new.node c.args.self.now.random.now
    (world_in (dialling g.D.Dialer.calls g.D.Dialer.left g.D.Dialer.came g.D.Dialer.faults) g.K.Sink.held c.args.self.now)
    (world_of c.tell.new.set (dialling g.D.Dialer.calls g.D.Dialer.left g.D.Dialer.came g.D.Dialer.faults c.tell.new.dialer) (g.K.Sink.held c.tell.new.sink))
    (world_in (dialling g.D.Dialer.calls g.D.Dialer.left g.D.Dialer.came g.D.Dialer.faults) g.K.Sink.held c.tell_word.new.self)
    c.in_ok-actions.actions.items (sym c.if-draws.true ∙ c.draws.ensures ∙ ap draws c.as_slice.ensures.value)
    c.in_ok-actions.ensures.goes c.in_ok-actions.ensures.carries told)
    c.tell_word.ensures.stops
