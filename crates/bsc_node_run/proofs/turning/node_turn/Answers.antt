use Rattle.std.proofs.Common.{inl, inr, refl, sym, ◌∙◌}
use Rattle.bsc_node_run.specs.Drawing.{Draws, GoesDrawing, at_rest}
use Rattle.bsc_node_run.specs.Handling.{node_in, world_in}
use Rattle.bsc_node_run.specs.Stopping.{TurnStops}
use Rattle.bsc_node_run.specs.Worlds.{admitting, dialling, world_of}
use Rattle.bsc_node_run.specs.Moments.{in_hands, moment}
use Rattle.bsc_node_run.specs.Turning.{Turn}
use Rattle.bsc_node_run.proofs.Handling.{let_go}
use Rattle.bsc_node_run.proofs.Stops.{Stopped, at_err}
use Rattle.bsc_node_run.proofs.turning.node_turn.Goals as goal

pub returns-clause-turns : goal.returns-clause-turns
returns-clause-turns g c =
    let_go (λ n s k r d. Turn
    (GoesDrawing g.N.Core.goes (Draws g.W.Words.gives g.W.Words.faults)) g.L.Link.talk c.now-now.result c.args.from.start c.args.from.script.now c.in_ok-left.left.now c.args.from.listens
    (moment (at_rest c.args.node.now c.args.parts.now.random) (world_of c.args.set.now (dialling g.D.Dialer.calls g.D.Dialer.left g.D.Dialer.came g.D.Dialer.faults c.args.parts.now.dialer)
    (g.K.Sink.held c.args.sink.now)) (admitting g.A.Acceptor.left g.A.Acceptor.came g.A.Acceptor.waits c.args.acceptor.now))
    (moment (at_rest n r) (world_of s (dialling g.D.Dialer.calls g.D.Dialer.left g.D.Dialer.came g.D.Dialer.faults d) (g.K.Sink.held k))
    (admitting g.A.Acceptor.left g.A.Acceptor.came g.A.Acceptor.waits c.admit.new.acceptor))) (
      c.node-2-1.given.1 (sym (c.admit.ensures.same.0 ∙ c.hear_all.ensures.same.0 ∙ c.give_due.ensures.same.0 ∙ c.give_news.ensures.same.0 ∙ c.dispatch.ensures.same.0
          ∙ c.begin.ensures.same.0)) ∙ c.drop-hand-2.ensures.0,
      c.set-2-1.given.1 (sym (c.admit.ensures.same.1 ∙ c.hear_all.ensures.same.1 ∙ c.give_due.ensures.same.1 ∙ c.give_news.ensures.same.1 ∙ c.dispatch.ensures.same.1
          ∙ c.begin.ensures.same.1)) ∙ c.drop-hand-2.ensures.1,
      c.sink-2-1.given.1 (sym (c.admit.ensures.same.2 ∙ c.hear_all.ensures.same.2 ∙ c.give_due.ensures.same.2 ∙ c.give_news.ensures.same.2 ∙ c.dispatch.ensures.same.2
          ∙ c.begin.ensures.same.2)) ∙ c.drop-hand-2.ensures.2,
      c.drop-hand-2.ensures.3,
      c.drop-hand-2.ensures.4,
    )
    (record {
      news = c.in_ok-give_news.ensures.gives.0;
      lines = c.in_ok-left.ensures.gives.0;
      world_begun = world_of c.begin_turn.new.self (dialling g.D.Dialer.calls g.D.Dialer.left g.D.Dialer.came g.D.Dialer.faults c.args.parts.now.dialer) (g.K.Sink.held c.args.sink.now);
      world_started = (world_in (dialling g.D.Dialer.calls g.D.Dialer.left g.D.Dialer.came g.D.Dialer.faults) g.K.Sink.held c.begin.new.self);
      world_ticked = (world_in (dialling g.D.Dialer.calls g.D.Dialer.left g.D.Dialer.came g.D.Dialer.faults) g.K.Sink.held c.dispatch.new.self);
      world_told = (world_in (dialling g.D.Dialer.calls g.D.Dialer.left g.D.Dialer.came g.D.Dialer.faults) g.K.Sink.held c.give_news.new.self);
      world_given = (world_in (dialling g.D.Dialer.calls g.D.Dialer.left g.D.Dialer.came g.D.Dialer.faults) g.K.Sink.held c.give_due.new.self);
      world_heard = (world_in (dialling g.D.Dialer.calls g.D.Dialer.left g.D.Dialer.came g.D.Dialer.faults) g.K.Sink.held c.hear_all.new.self);
      node_started = node_in c.begin.new.self;
      node_ticked = node_in c.dispatch.new.self;
      node_told = node_in c.give_news.new.self;
      node_given = node_in c.give_due.new.self;
      node_heard = node_in c.hear_all.new.self;
      begins = c.begin_turn.ensures (dialling g.D.Dialer.calls g.D.Dialer.left g.D.Dialer.came g.D.Dialer.faults c.args.parts.now.dialer) (g.K.Sink.held c.args.sink.now);
      starts = c.in_ok-begin.ensures.starts;
      ticks = c.in_ok-dispatch.ensures.gives;
      told = c.in_ok-give_news.ensures.gives.1;
      parts = c.in_ok-left.ensures.gives.1;
      due = rw c.passed_by-passed.ensures at c.in_ok-left.ensures.gives.2;
      next = rw c.passed_by-passed.ensures at c.in_ok-left.ensures.gives.3;
      given = c.in_ok-left.ensures.gives.4;
      heard = c.in_ok-hear_all.ensures.hears;
      admits = c.in_ok-admit.ensures.admits;
    })

pub returns-in_err-begin-clause-stops : goal.returns-in_err-begin-clause-stops
returns-in_err-begin-clause-stops g c =
    let w0 = world_of c.begin_turn.new.self (dialling g.D.Dialer.calls g.D.Dialer.left g.D.Dialer.came g.D.Dialer.faults c.args.parts.now.dialer) (g.K.Sink.held c.args.sink.now) in
    let begins = c.begin_turn.ensures (dialling g.D.Dialer.calls g.D.Dialer.left g.D.Dialer.came g.D.Dialer.faults c.args.parts.now.dialer) (g.K.Sink.held c.args.sink.now) in
    at_err _ (let_go (λ n s k r d. Stopped g.C.Clock.readings g.C.Clock.newest c.args.clock.now c.now-now.new.self
    (λ t. TurnStops (GoesDrawing g.N.Core.goes (Draws g.W.Words.gives g.W.Words.faults)) g.L.Link.talk t c.args.from.start c.args.from.script.now c.args.from.listens
    (moment (at_rest c.args.node.now c.args.parts.now.random) (world_of c.args.set.now
    (dialling g.D.Dialer.calls g.D.Dialer.left g.D.Dialer.came g.D.Dialer.faults c.args.parts.now.dialer) (g.K.Sink.held c.args.sink.now))
    (admitting g.A.Acceptor.left g.A.Acceptor.came g.A.Acceptor.waits c.args.acceptor.now))
    (in_hands (world_of s (dialling g.D.Dialer.calls g.D.Dialer.left g.D.Dialer.came g.D.Dialer.faults d) (g.K.Sink.held k))
    (admitting g.A.Acceptor.left g.A.Acceptor.came g.A.Acceptor.waits c.args.acceptor.now)))) (
      c.drop-hand.ensures.0,
      c.set-1.given.1 (sym c.begin.ensures.same.1) ∙ c.drop-hand.ensures.1,
      c.sink-1.given.1 (sym c.begin.ensures.same.2) ∙ c.drop-hand.ensures.2,
      c.drop-hand.ensures.3,
      c.drop-hand.ensures.4,
    )
    ((c.now-now.result, c.now-now.ensures.told, c.now-now.ensures.below, c.now-now.ensures.rises, (w0, begins, inl (c.in_err-begin.ensures.stops, refl)))))

pub returns-in_err-dispatch-clause-stops : goal.returns-in_err-dispatch-clause-stops
returns-in_err-dispatch-clause-stops g c =
    let w0 = world_of c.begin_turn.new.self (dialling g.D.Dialer.calls g.D.Dialer.left g.D.Dialer.came g.D.Dialer.faults c.args.parts.now.dialer) (g.K.Sink.held c.args.sink.now) in
    let begins = c.begin_turn.ensures (dialling g.D.Dialer.calls g.D.Dialer.left g.D.Dialer.came g.D.Dialer.faults c.args.parts.now.dialer) (g.K.Sink.held c.args.sink.now) in
    at_err _ (let_go (λ n s k r d. Stopped g.C.Clock.readings g.C.Clock.newest c.args.clock.now c.now-now.new.self
    (λ t. TurnStops (GoesDrawing g.N.Core.goes (Draws g.W.Words.gives g.W.Words.faults)) g.L.Link.talk t c.args.from.start c.args.from.script.now c.args.from.listens
    (moment (at_rest c.args.node.now c.args.parts.now.random) (world_of c.args.set.now
    (dialling g.D.Dialer.calls g.D.Dialer.left g.D.Dialer.came g.D.Dialer.faults c.args.parts.now.dialer) (g.K.Sink.held c.args.sink.now))
    (admitting g.A.Acceptor.left g.A.Acceptor.came g.A.Acceptor.waits c.args.acceptor.now))
    (in_hands (world_of s (dialling g.D.Dialer.calls g.D.Dialer.left g.D.Dialer.came g.D.Dialer.faults d) (g.K.Sink.held k))
    (admitting g.A.Acceptor.left g.A.Acceptor.came g.A.Acceptor.waits c.args.acceptor.now)))) (
      c.drop-hand-in_err-dispatch.ensures.0,
      c.set-in_err-dispatch-1.given.1 (sym (c.dispatch.ensures.same.1 ∙ c.begin.ensures.same.1)) ∙ c.drop-hand-in_err-dispatch.ensures.1,
      c.sink-in_err-dispatch-1.given.1 (sym (c.dispatch.ensures.same.2 ∙ c.begin.ensures.same.2)) ∙ c.drop-hand-in_err-dispatch.ensures.2,
      c.drop-hand-in_err-dispatch.ensures.3,
      c.drop-hand-in_err-dispatch.ensures.4,
    )
    ((
      c.now-now.result,
      c.now-now.ensures.told,
      c.now-now.ensures.below,
      c.now-now.ensures.rises,
      (
        w0,
        begins,
        inr (
          node_in c.begin.new.self,
          (world_in (dialling g.D.Dialer.calls g.D.Dialer.left g.D.Dialer.came g.D.Dialer.faults) g.K.Sink.held c.begin.new.self),
          c.in_ok-begin.ensures.starts,
          inl (c.in_err-dispatch.ensures.stops, refl),
        ),
      ),
    )))

pub returns-in_err-give_news-clause-stops : goal.returns-in_err-give_news-clause-stops
returns-in_err-give_news-clause-stops g c =
    let w0 = world_of c.begin_turn.new.self (dialling g.D.Dialer.calls g.D.Dialer.left g.D.Dialer.came g.D.Dialer.faults c.args.parts.now.dialer) (g.K.Sink.held c.args.sink.now) in
    let begins = c.begin_turn.ensures (dialling g.D.Dialer.calls g.D.Dialer.left g.D.Dialer.came g.D.Dialer.faults c.args.parts.now.dialer) (g.K.Sink.held c.args.sink.now) in
    at_err _ (let_go (λ n s k r d. Stopped g.C.Clock.readings g.C.Clock.newest c.args.clock.now c.now-now.new.self
    (λ t. TurnStops (GoesDrawing g.N.Core.goes (Draws g.W.Words.gives g.W.Words.faults)) g.L.Link.talk t c.args.from.start c.args.from.script.now c.args.from.listens
    (moment (at_rest c.args.node.now c.args.parts.now.random) (world_of c.args.set.now
    (dialling g.D.Dialer.calls g.D.Dialer.left g.D.Dialer.came g.D.Dialer.faults c.args.parts.now.dialer) (g.K.Sink.held c.args.sink.now))
    (admitting g.A.Acceptor.left g.A.Acceptor.came g.A.Acceptor.waits c.args.acceptor.now))
    (in_hands (world_of s (dialling g.D.Dialer.calls g.D.Dialer.left g.D.Dialer.came g.D.Dialer.faults d) (g.K.Sink.held k))
    (admitting g.A.Acceptor.left g.A.Acceptor.came g.A.Acceptor.waits c.args.acceptor.now)))) (
      c.drop-hand-in_err-give_news.ensures.0,
      c.set-in_err-give_news-1.given.1 (sym (c.give_news.ensures.same.1 ∙ c.dispatch.ensures.same.1 ∙ c.begin.ensures.same.1)) ∙ c.drop-hand-in_err-give_news.ensures.1,
      c.sink-in_err-give_news-1.given.1 (sym (c.give_news.ensures.same.2 ∙ c.dispatch.ensures.same.2 ∙ c.begin.ensures.same.2)) ∙ c.drop-hand-in_err-give_news.ensures.2,
      c.drop-hand-in_err-give_news.ensures.3,
      c.drop-hand-in_err-give_news.ensures.4,
    )
    ((
      c.now-now.result,
      c.now-now.ensures.told,
      c.now-now.ensures.below,
      c.now-now.ensures.rises,
      (
        w0,
        begins,
        inr (
          node_in c.begin.new.self,
          (world_in (dialling g.D.Dialer.calls g.D.Dialer.left g.D.Dialer.came g.D.Dialer.faults) g.K.Sink.held c.begin.new.self),
          c.in_ok-begin.ensures.starts,
          inr (
            node_in c.dispatch.new.self,
            (world_in (dialling g.D.Dialer.calls g.D.Dialer.left g.D.Dialer.came g.D.Dialer.faults) g.K.Sink.held c.dispatch.new.self),
            c.in_ok-dispatch.ensures.gives,
            (c.in_err-give_news.ensures.stops.0, inl (c.in_err-give_news.ensures.stops.1, refl)),
          ),
        ),
      ),
    )))

pub returns-in_err-left-clause-stops : goal.returns-in_err-left-clause-stops
returns-in_err-left-clause-stops g c =
    let w0 = world_of c.begin_turn.new.self (dialling g.D.Dialer.calls g.D.Dialer.left g.D.Dialer.came g.D.Dialer.faults c.args.parts.now.dialer) (g.K.Sink.held c.args.sink.now) in
    let begins = c.begin_turn.ensures (dialling g.D.Dialer.calls g.D.Dialer.left g.D.Dialer.came g.D.Dialer.faults c.args.parts.now.dialer) (g.K.Sink.held c.args.sink.now) in
    at_err _ (let_go (λ n s k r d. Stopped g.C.Clock.readings g.C.Clock.newest c.args.clock.now c.now-now.new.self
    (λ t. TurnStops (GoesDrawing g.N.Core.goes (Draws g.W.Words.gives g.W.Words.faults)) g.L.Link.talk t c.args.from.start c.args.from.script.now c.args.from.listens
    (moment (at_rest c.args.node.now c.args.parts.now.random) (world_of c.args.set.now
    (dialling g.D.Dialer.calls g.D.Dialer.left g.D.Dialer.came g.D.Dialer.faults c.args.parts.now.dialer) (g.K.Sink.held c.args.sink.now))
    (admitting g.A.Acceptor.left g.A.Acceptor.came g.A.Acceptor.waits c.args.acceptor.now))
    (in_hands (world_of s (dialling g.D.Dialer.calls g.D.Dialer.left g.D.Dialer.came g.D.Dialer.faults d) (g.K.Sink.held k))
    (admitting g.A.Acceptor.left g.A.Acceptor.came g.A.Acceptor.waits c.args.acceptor.now)))) (
      c.drop-hand-in_err-left.ensures.0,
      c.set-in_err-left-1.given.1 (sym (c.give_due.ensures.same.1 ∙ c.give_news.ensures.same.1 ∙ c.dispatch.ensures.same.1 ∙ c.begin.ensures.same.1)) ∙ c.drop-hand-in_err-left.ensures.1,
      c.sink-in_err-left-1.given.1 (sym (c.give_due.ensures.same.2 ∙ c.give_news.ensures.same.2 ∙ c.dispatch.ensures.same.2 ∙ c.begin.ensures.same.2)) ∙ c.drop-hand-in_err-left.ensures.2,
      c.drop-hand-in_err-left.ensures.3,
      c.drop-hand-in_err-left.ensures.4,
    )
    ((
      c.now-now.result,
      c.now-now.ensures.told,
      c.now-now.ensures.below,
      c.now-now.ensures.rises,
      (
        w0,
        begins,
        inr (
          node_in c.begin.new.self,
          (world_in (dialling g.D.Dialer.calls g.D.Dialer.left g.D.Dialer.came g.D.Dialer.faults) g.K.Sink.held c.begin.new.self),
          c.in_ok-begin.ensures.starts,
          inr (
            node_in c.dispatch.new.self,
            (world_in (dialling g.D.Dialer.calls g.D.Dialer.left g.D.Dialer.came g.D.Dialer.faults) g.K.Sink.held c.dispatch.new.self),
            c.in_ok-dispatch.ensures.gives,
            (
              c.in_ok-give_news.ensures.gives.0,
              inr (
                node_in c.give_news.new.self,
                (world_in (dialling g.D.Dialer.calls g.D.Dialer.left g.D.Dialer.came g.D.Dialer.faults) g.K.Sink.held c.give_news.new.self),
                c.in_ok-give_news.ensures.gives.1,
                (
                  c.in_err-left.ensures.stops.0,
                  c.in_err-left.ensures.stops.1,
                  c.in_err-left.ensures.stops.2,
                  rw c.passed_by-passed.ensures at c.in_err-left.ensures.stops.3,
                  inl (c.in_err-left.ensures.stops.4, refl),
                ),
              ),
            ),
          ),
        ),
      ),
    )))

pub returns-in_err-hear_all-clause-stops : goal.returns-in_err-hear_all-clause-stops
returns-in_err-hear_all-clause-stops g c =
    let w0 = world_of c.begin_turn.new.self (dialling g.D.Dialer.calls g.D.Dialer.left g.D.Dialer.came g.D.Dialer.faults c.args.parts.now.dialer) (g.K.Sink.held c.args.sink.now) in
    let begins = c.begin_turn.ensures (dialling g.D.Dialer.calls g.D.Dialer.left g.D.Dialer.came g.D.Dialer.faults c.args.parts.now.dialer) (g.K.Sink.held c.args.sink.now) in
    at_err _ (let_go (λ n s k r d. Stopped g.C.Clock.readings g.C.Clock.newest c.args.clock.now c.now-now.new.self
    (λ t. TurnStops (GoesDrawing g.N.Core.goes (Draws g.W.Words.gives g.W.Words.faults)) g.L.Link.talk t c.args.from.start c.args.from.script.now c.args.from.listens
    (moment (at_rest c.args.node.now c.args.parts.now.random) (world_of c.args.set.now
    (dialling g.D.Dialer.calls g.D.Dialer.left g.D.Dialer.came g.D.Dialer.faults c.args.parts.now.dialer) (g.K.Sink.held c.args.sink.now))
    (admitting g.A.Acceptor.left g.A.Acceptor.came g.A.Acceptor.waits c.args.acceptor.now))
    (in_hands (world_of s (dialling g.D.Dialer.calls g.D.Dialer.left g.D.Dialer.came g.D.Dialer.faults d) (g.K.Sink.held k))
    (admitting g.A.Acceptor.left g.A.Acceptor.came g.A.Acceptor.waits c.args.acceptor.now)))) (
      c.drop-hand-in_err-hear_all.ensures.0,
      c.set-in_err-hear_all-1.given.1 (sym (c.hear_all.ensures.same.1 ∙ c.give_due.ensures.same.1 ∙ c.give_news.ensures.same.1 ∙ c.dispatch.ensures.same.1 ∙ c.begin.ensures.same.1))
          ∙ c.drop-hand-in_err-hear_all.ensures.1,
      c.sink-in_err-hear_all-1.given.1 (sym (c.hear_all.ensures.same.2 ∙ c.give_due.ensures.same.2 ∙ c.give_news.ensures.same.2 ∙ c.dispatch.ensures.same.2 ∙ c.begin.ensures.same.2))
          ∙ c.drop-hand-in_err-hear_all.ensures.2,
      c.drop-hand-in_err-hear_all.ensures.3,
      c.drop-hand-in_err-hear_all.ensures.4,
    )
    ((
      c.now-now.result,
      c.now-now.ensures.told,
      c.now-now.ensures.below,
      c.now-now.ensures.rises,
      (
        w0,
        begins,
        inr (
          node_in c.begin.new.self,
          (world_in (dialling g.D.Dialer.calls g.D.Dialer.left g.D.Dialer.came g.D.Dialer.faults) g.K.Sink.held c.begin.new.self),
          c.in_ok-begin.ensures.starts,
          inr (
            node_in c.dispatch.new.self,
            (world_in (dialling g.D.Dialer.calls g.D.Dialer.left g.D.Dialer.came g.D.Dialer.faults) g.K.Sink.held c.dispatch.new.self),
            c.in_ok-dispatch.ensures.gives,
            (
              c.in_ok-give_news.ensures.gives.0,
              inr (
                node_in c.give_news.new.self,
                (world_in (dialling g.D.Dialer.calls g.D.Dialer.left g.D.Dialer.came g.D.Dialer.faults) g.K.Sink.held c.give_news.new.self),
                c.in_ok-give_news.ensures.gives.1,
                (
                  c.in_ok-left.ensures.gives.0,
                  c.in_ok-left.left.now,
                  c.in_ok-left.ensures.gives.1,
                  rw c.passed_by-passed.ensures at c.in_ok-left.ensures.gives.2,
                  inr (
                    node_in c.give_due.new.self,
                    (world_in (dialling g.D.Dialer.calls g.D.Dialer.left g.D.Dialer.came g.D.Dialer.faults) g.K.Sink.held c.give_due.new.self),
                    rw c.passed_by-passed.ensures at c.in_ok-left.ensures.gives.3,
                    c.in_ok-left.ensures.gives.4,
                    inl (c.in_err-hear_all.ensures.stops, refl),
                  ),
                ),
              ),
            ),
          ),
        ),
      ),
    )))

pub returns-in_err-admit-clause-stops : goal.returns-in_err-admit-clause-stops
returns-in_err-admit-clause-stops g c =
    let w0 = world_of c.begin_turn.new.self (dialling g.D.Dialer.calls g.D.Dialer.left g.D.Dialer.came g.D.Dialer.faults c.args.parts.now.dialer) (g.K.Sink.held c.args.sink.now) in
    let begins = c.begin_turn.ensures (dialling g.D.Dialer.calls g.D.Dialer.left g.D.Dialer.came g.D.Dialer.faults c.args.parts.now.dialer) (g.K.Sink.held c.args.sink.now) in
    at_err _ (let_go (λ n s k r d. Stopped g.C.Clock.readings g.C.Clock.newest c.args.clock.now c.now-now.new.self
    (λ t. TurnStops (GoesDrawing g.N.Core.goes (Draws g.W.Words.gives g.W.Words.faults)) g.L.Link.talk t c.args.from.start c.args.from.script.now c.args.from.listens
    (moment (at_rest c.args.node.now c.args.parts.now.random) (world_of c.args.set.now
    (dialling g.D.Dialer.calls g.D.Dialer.left g.D.Dialer.came g.D.Dialer.faults c.args.parts.now.dialer) (g.K.Sink.held c.args.sink.now))
    (admitting g.A.Acceptor.left g.A.Acceptor.came g.A.Acceptor.waits c.args.acceptor.now))
    (in_hands (world_of s (dialling g.D.Dialer.calls g.D.Dialer.left g.D.Dialer.came g.D.Dialer.faults d) (g.K.Sink.held k))
    (admitting g.A.Acceptor.left g.A.Acceptor.came g.A.Acceptor.waits c.admit.new.acceptor)))) (
      c.drop-hand-in_err-admit.ensures.0,
      c.set-in_err-admit-1.given.1 (sym (c.admit.ensures.same.1 ∙ c.hear_all.ensures.same.1 ∙ c.give_due.ensures.same.1 ∙ c.give_news.ensures.same.1 ∙ c.dispatch.ensures.same.1
          ∙ c.begin.ensures.same.1)) ∙ c.drop-hand-in_err-admit.ensures.1,
      c.sink-in_err-admit-1.given.1 (sym (c.admit.ensures.same.2 ∙ c.hear_all.ensures.same.2 ∙ c.give_due.ensures.same.2 ∙ c.give_news.ensures.same.2 ∙ c.dispatch.ensures.same.2
          ∙ c.begin.ensures.same.2)) ∙ c.drop-hand-in_err-admit.ensures.2,
      c.drop-hand-in_err-admit.ensures.3,
      c.drop-hand-in_err-admit.ensures.4,
    )
    ((
      c.now-now.result,
      c.now-now.ensures.told,
      c.now-now.ensures.below,
      c.now-now.ensures.rises,
      (
        w0,
        begins,
        inr (
          node_in c.begin.new.self,
          (world_in (dialling g.D.Dialer.calls g.D.Dialer.left g.D.Dialer.came g.D.Dialer.faults) g.K.Sink.held c.begin.new.self),
          c.in_ok-begin.ensures.starts,
          inr (
            node_in c.dispatch.new.self,
            (world_in (dialling g.D.Dialer.calls g.D.Dialer.left g.D.Dialer.came g.D.Dialer.faults) g.K.Sink.held c.dispatch.new.self),
            c.in_ok-dispatch.ensures.gives,
            (
              c.in_ok-give_news.ensures.gives.0,
              inr (
                node_in c.give_news.new.self,
                (world_in (dialling g.D.Dialer.calls g.D.Dialer.left g.D.Dialer.came g.D.Dialer.faults) g.K.Sink.held c.give_news.new.self),
                c.in_ok-give_news.ensures.gives.1,
                (
                  c.in_ok-left.ensures.gives.0,
                  c.in_ok-left.left.now,
                  c.in_ok-left.ensures.gives.1,
                  rw c.passed_by-passed.ensures at c.in_ok-left.ensures.gives.2,
                  inr (
                    node_in c.give_due.new.self,
                    (world_in (dialling g.D.Dialer.calls g.D.Dialer.left g.D.Dialer.came g.D.Dialer.faults) g.K.Sink.held c.give_due.new.self),
                    rw c.passed_by-passed.ensures at c.in_ok-left.ensures.gives.3,
                    c.in_ok-left.ensures.gives.4,
                    inr (
                      node_in c.hear_all.new.self,
                      (world_in (dialling g.D.Dialer.calls g.D.Dialer.left g.D.Dialer.came g.D.Dialer.faults) g.K.Sink.held c.hear_all.new.self),
                      c.in_ok-hear_all.ensures.hears,
                      c.in_err-admit.ensures.stops,
                    ),
                  ),
                ),
              ),
            ),
          ),
        ),
      ),
    )))
