use Rattle.std.proofs.Common.{Bool, is_some, IfOk, OnErr, Some, ◌∙◌, subst}
use Rattle.bsc_node_run.specs.Drawing.{Draws, GoesDrawing, at_rest}
use Rattle.bsc_node_run.specs.Worlds.{admitting, dialling}
use Rattle.bsc_node_run.specs.Moments.{outside, run_moment}
use Rattle.bsc_application.specs.Breaking.{LiveFails}
use Rattle.bsc_application.specs.Living.{LiveRun}
use Rattle.bsc_application.specs.Pausing.{HasPaused}
use Rattle.bsc_node_command.specs.Comes.{AnswersAt}
use Rattle.bsc_node_command.specs.Lives.{SaysLiveEnd}
use Rattle.bsc_node_command.proofs.Bound.{bound_still}
use Rattle.bsc_node_command.proofs.Lives.{breaks_by_definition, lives_by_definition, pauses_by_definition}
use Rattle.bsc_node_command.proofs.living.live_made.Goals as goal

pub returns-clause-ran : goal.returns-clause-ran
returns-clause-ran g c door port faults unasked bound =
    let talk = g.L.Link.talk in
    let A = g.A.Acceptor in
    let D = g.D.Dialer in
    let C = g.C.Clock in
    let K = g.K.Sink in
    let drawn = Draws g.W.Words.gives g.W.Words.faults in
    let v = c.args.here.settings.now in
    let end = c.run_application-end.result in
    let old = c.args in
    let new = c.run_application-end.new in
    let before = dialling D.calls D.left D.came D.faults old.parts.now.dialer in
    let after = dialling D.calls D.left D.came D.faults new.parts.dialer in
    let k = Some old.lines.now.answers.items in
    let k' = Some new.application.answers.items in
    let run : IfOk end (λ e. LiveRun (GoesDrawing AnswersAt drawn) talk (is_some v.direct_port) e v.turns
    (run_moment (at_rest old.node old.parts.now.random) before (K.held old.sink.now) (admitting A.left A.came A.waits old.acceptor.now) (C.readings old.clock.now))
    (run_moment (at_rest new.node new.parts.random) after (K.held new.sink) (admitting A.left A.came A.waits new.acceptor) (C.readings new.clock)) k k') =
    rw c.is_some-listens.ensures at c.run_application-end.ensures.runs in
    let fails : OnErr end (LiveFails (GoesDrawing AnswersAt drawn) talk (is_some v.direct_port) v.turns
    (run_moment (at_rest old.node old.parts.now.random) before (K.held old.sink.now) (admitting A.left A.came A.waits old.acceptor.now) (C.readings old.clock.now))
    (outside after (K.held new.sink) (admitting A.left A.came A.waits new.acceptor) (C.readings new.clock)) k k') =
    rw c.is_some-listens.ensures at c.run_application-end.ensures.fails in
    let rests : HasPaused (GoesDrawing AnswersAt drawn) talk (is_some v.direct_port)
    (run_moment (at_rest old.node old.parts.now.random) before (K.held old.sink.now) (admitting A.left A.came A.waits old.acceptor.now) (C.readings old.clock.now)) (C.readings new.clock)
    (g.V.Waiter.waits old.parts.now.waiter) (g.V.Waiter.waits new.parts.waiter) = rw c.is_some-listens.ensures at c.run_application-end.ensures.rests in
    let defined = lives_by_definition talk drawn v old.node new.node old.parts.now.random new.parts.random end before after (admitting A.left A.came A.waits old.acceptor.now)
    (admitting A.left A.came A.waits new.acceptor)
    (C.readings old.clock.now) (C.readings new.clock) (K.held old.sink.now) (K.held new.sink) k k' c.requires run in
    record {
      own = c.settings_are_of_nodes.ensures;
      last = defined.0;
      end = end;
      door = admitting A.left A.came A.waits old.acceptor.now;
      written = K.held new.sink;
      bound = bound_still v.direct_port port (A.bound old.acceptor.now) (A.bound new.acceptor) bound c.run_application-end.ensures.bound;
      unasked = unasked;
      run = defined.1;
      fails = breaks_by_definition talk drawn v old.node old.parts.now.random end before after (admitting A.left A.came A.waits old.acceptor.now)
          (admitting A.left A.came A.waits new.acceptor)
          (C.readings old.clock.now) (C.readings new.clock) (K.held old.sink.now) (K.held new.sink) k k' c.requires fails;
      said = defined.2;
      ended = defined.3;
      rests = pauses_by_definition talk drawn v old.node old.parts.now.random before (K.held old.sink.now) (admitting A.left A.came A.waits old.acceptor.now)
          (C.readings old.clock.now) (C.readings new.clock) (g.V.Waiter.waits old.parts.now.waiter) (g.V.Waiter.waits new.parts.waiter) c.requires rests;
      heard = record {
        read = new.application.lines.reading.read.items;
        unread = new.application.lines.unread;
        taken = new.application.lines.takes;
        asked = new.application.all ∙ new.application.lines.reading.asks;
        refused = new.application.lines.reading.tells;
      };
      says = subst (λ (b : Bool). SaysLiveEnd end b c.tell_live_end.result (K.held new.sink) (K.held c.tell_live_end.new.sink)) c.input_failed-failed.ensures c.tell_live_end.ensures.says;
    }
