use Rattle.std.proofs.Common.{is_some, IfOk, OnErr}
use Rattle.bsc_node_run.specs.Drawing.{Draws, GoesDrawing, at_rest}
use Rattle.bsc_node_run.specs.Resting.{HasRested}
use Rattle.bsc_node_run.specs.Running.{Run}
use Rattle.bsc_node_run.specs.Stopping.{RunFails}
use Rattle.bsc_node_run.specs.Worlds.{admitting, dialling}
use Rattle.bsc_node_run.specs.Moments.{outside, run_moment}
use Rattle.bsc_node_command.specs.Comes.{AnswersAt}
use Rattle.bsc_node_command.proofs.Bound.{bound_still}
use Rattle.bsc_node_command.proofs.Defined.{by_definition, fails_by_definition, lonely_of, rests_by_definition, said_of}
use Rattle.bsc_node_command.proofs.playing.run_made.Goals as goal

pub returns-clause-ran : goal.returns-clause-ran
returns-clause-ran g c script door port faults reads unasked bound =
    let talk = g.L.Link.talk in
    let A = g.A.Acceptor in
    let D = g.D.Dialer in
    let C = g.C.Clock in
    let K = g.K.Sink in
    let drawn = Draws g.W.Words.gives g.W.Words.faults in
    let v = c.args.here.settings.now in
    let lines = c.args.lines.now in
    let end = c.run_core-end.result in
    let old = c.args in
    let new = c.run_core-end.new in
    let before = dialling D.calls D.left D.came D.faults old.parts.now.dialer in
    let after = dialling D.calls D.left D.came D.faults new.parts.dialer in
    let run : IfOk end (λ e. Run (GoesDrawing AnswersAt drawn) talk (is_some v.direct_port) e v.turns lines
    (run_moment (at_rest old.node old.parts.now.random) before (K.held old.sink.now) (admitting A.left A.came A.waits old.acceptor.now) (C.readings old.clock.now))
    (run_moment (at_rest new.node new.parts.random) after (K.held new.sink) (admitting A.left A.came A.waits new.acceptor) (C.readings new.clock))) =
    rw c.is_some-listens.ensures at c.run_core-end.ensures.runs in
    let fails : OnErr end (RunFails (GoesDrawing AnswersAt drawn) talk (is_some v.direct_port) v.turns lines
    (run_moment (at_rest old.node old.parts.now.random) before (K.held old.sink.now) (admitting A.left A.came A.waits old.acceptor.now) (C.readings old.clock.now))
    (outside after (K.held new.sink) (admitting A.left A.came A.waits new.acceptor) (C.readings new.clock))) = rw c.is_some-listens.ensures at c.run_core-end.ensures.fails in
    let rests : HasRested (GoesDrawing AnswersAt drawn) talk (is_some v.direct_port) lines
    (run_moment (at_rest old.node old.parts.now.random) before (K.held old.sink.now) (admitting A.left A.came A.waits old.acceptor.now) (C.readings old.clock.now)) (C.readings new.clock)
    (g.V.Waiter.waits old.parts.now.waiter) (g.V.Waiter.waits new.parts.waiter) = rw c.is_some-listens.ensures at c.run_core-end.ensures.rests in
    let defined = by_definition talk drawn v script lines old.node new.node old.parts.now.random new.parts.random end before after (admitting A.left A.came A.waits old.acceptor.now)
    (admitting A.left A.came A.waits new.acceptor)
    (C.readings old.clock.now) (C.readings new.clock) (K.held old.sink.now) (K.held new.sink) reads c.requires run in
    record {
      own = c.settings_are_of_nodes.ensures;
      lines = lines;
      reads = reads;
      last = defined.0;
      end = end;
      door = admitting A.left A.came A.waits old.acceptor.now;
      written = K.held new.sink;
      bound = bound_still v.direct_port port (A.bound old.acceptor.now) (A.bound new.acceptor) bound c.run_core-end.ensures.bound;
      unasked = unasked;
      run = defined.1;
      fails = fails_by_definition talk drawn v script lines old.node old.parts.now.random end before after (admitting A.left A.came A.waits old.acceptor.now)
          (admitting A.left A.came A.waits new.acceptor)
          (C.readings old.clock.now) (C.readings new.clock) (K.held old.sink.now) (K.held new.sink) reads c.requires fails;
      said = said_of talk drawn v lines old.parts.now.random new.parts.random defined.0 end before after (admitting A.left A.came A.waits old.acceptor.now)
          (admitting A.left A.came A.waits new.acceptor)
          (C.readings old.clock.now) (C.readings new.clock) (K.held old.sink.now) (K.held new.sink) defined.1;
      lonely = lonely_of talk drawn v script lines old.parts.now.random new.parts.random defined.0 end before after (admitting A.left A.came A.waits old.acceptor.now)
          (admitting A.left A.came A.waits new.acceptor)
          (C.readings old.clock.now) (C.readings new.clock) (K.held old.sink.now) (K.held new.sink) reads defined.1;
      rests = rests_by_definition talk drawn v script lines old.node old.parts.now.random before (K.held old.sink.now) (admitting A.left A.came A.waits old.acceptor.now)
          (C.readings old.clock.now) (C.readings new.clock) (g.V.Waiter.waits old.parts.now.waiter) (g.V.Waiter.waits new.parts.waiter) reads c.requires rests;
      says = c.tell_end.ensures.says;
    }
