use Rattle.bsc_node_run.specs.Drawing.{Draws}
use Rattle.bsc_node_run.specs.Worlds.{admitting, dialling}
use Rattle.bsc_node_command.specs.Comes.{NodeWorld}
use Rattle.bsc_node_command.proofs.Ended.{finished_so}
use Rattle.bsc_node_command.proofs.Statuses.{bad_line, refused_so, spent_so}
use Rattle.bsc_node_command.proofs.playing.run_node.Goals as goal

pub returns-clause-bad : goal.returns-clause-bad
returns-clause-bad g c =
    let A = g.A.Acceptor in
    let D = g.D.Dialer in
    let C = g.C.Clock in
    let V = g.V.Waiter in
    let K = g.K.Sink in
    let before : NodeWorld g.row.L.Denot g.row.W.Denot = record {
      dialled = dialling D.calls D.left D.came D.faults c.args.parts.now.dialer;
      door = admitting A.left A.came A.waits c.args.acceptor.now;
      port = A.bound c.args.acceptor.now;
      faults = A.faults c.args.acceptor.now;
      readings = C.readings c.args.clock.now;
      waited = V.waits c.args.parts.now.waiter;
      random = c.args.parts.now.random;
      written = K.held c.args.sink.now;
    } in
    let after : NodeWorld g.row.L.Denot g.row.W.Denot = record {
      dialled = dialling D.calls D.left D.came D.faults c.run_text.new.parts.dialer;
      door = admitting A.left A.came A.waits c.run_text.new.acceptor;
      port = A.bound c.run_text.new.acceptor;
      faults = A.faults c.run_text.new.acceptor;
      readings = C.readings c.run_text.new.clock;
      waited = V.waits c.run_text.new.parts.waiter;
      random = c.run_text.new.parts.random;
      written = K.held c.run_text.new.sink;
    } in
    bad_line g.L.Link.talk (Draws g.W.Words.gives g.W.Words.faults) c.args.settings.now c.args.script.now before after c.run_text.result c.run_text.ensures.comes

pub returns-clause-refuses : goal.returns-clause-refuses
returns-clause-refuses g c =
    let A = g.A.Acceptor in
    let D = g.D.Dialer in
    let C = g.C.Clock in
    let V = g.V.Waiter in
    let K = g.K.Sink in
    let before : NodeWorld g.row.L.Denot g.row.W.Denot = record {
      dialled = dialling D.calls D.left D.came D.faults c.args.parts.now.dialer;
      door = admitting A.left A.came A.waits c.args.acceptor.now;
      port = A.bound c.args.acceptor.now;
      faults = A.faults c.args.acceptor.now;
      readings = C.readings c.args.clock.now;
      waited = V.waits c.args.parts.now.waiter;
      random = c.args.parts.now.random;
      written = K.held c.args.sink.now;
    } in
    let after : NodeWorld g.row.L.Denot g.row.W.Denot = record {
      dialled = dialling D.calls D.left D.came D.faults c.run_text.new.parts.dialer;
      door = admitting A.left A.came A.waits c.run_text.new.acceptor;
      port = A.bound c.run_text.new.acceptor;
      faults = A.faults c.run_text.new.acceptor;
      readings = C.readings c.run_text.new.clock;
      waited = V.waits c.run_text.new.parts.waiter;
      random = c.run_text.new.parts.random;
      written = K.held c.run_text.new.sink;
    } in
    refused_so g.L.Link.talk (Draws g.W.Words.gives g.W.Words.faults) c.args.settings.now c.args.script.now before after c.run_text.result c.run_text.ensures.comes

pub returns-clause-spent : goal.returns-clause-spent
returns-clause-spent g c =
    let A = g.A.Acceptor in
    let D = g.D.Dialer in
    let C = g.C.Clock in
    let V = g.V.Waiter in
    let K = g.K.Sink in
    let before : NodeWorld g.row.L.Denot g.row.W.Denot = record {
      dialled = dialling D.calls D.left D.came D.faults c.args.parts.now.dialer;
      door = admitting A.left A.came A.waits c.args.acceptor.now;
      port = A.bound c.args.acceptor.now;
      faults = A.faults c.args.acceptor.now;
      readings = C.readings c.args.clock.now;
      waited = V.waits c.args.parts.now.waiter;
      random = c.args.parts.now.random;
      written = K.held c.args.sink.now;
    } in
    let after : NodeWorld g.row.L.Denot g.row.W.Denot = record {
      dialled = dialling D.calls D.left D.came D.faults c.run_text.new.parts.dialer;
      door = admitting A.left A.came A.waits c.run_text.new.acceptor;
      port = A.bound c.run_text.new.acceptor;
      faults = A.faults c.run_text.new.acceptor;
      readings = C.readings c.run_text.new.clock;
      waited = V.waits c.run_text.new.parts.waiter;
      random = c.run_text.new.parts.random;
      written = K.held c.run_text.new.sink;
    } in
    spent_so g.L.Link.talk (Draws g.W.Words.gives g.W.Words.faults) c.args.settings.now c.args.script.now before after c.run_text.result c.run_text.ensures.comes

pub returns-clause-finished : goal.returns-clause-finished
returns-clause-finished g c =
    let A = g.A.Acceptor in
    let D = g.D.Dialer in
    let C = g.C.Clock in
    let V = g.V.Waiter in
    let K = g.K.Sink in
    let before : NodeWorld g.row.L.Denot g.row.W.Denot = record {
      dialled = dialling D.calls D.left D.came D.faults c.args.parts.now.dialer;
      door = admitting A.left A.came A.waits c.args.acceptor.now;
      port = A.bound c.args.acceptor.now;
      faults = A.faults c.args.acceptor.now;
      readings = C.readings c.args.clock.now;
      waited = V.waits c.args.parts.now.waiter;
      random = c.args.parts.now.random;
      written = K.held c.args.sink.now;
    } in
    let after : NodeWorld g.row.L.Denot g.row.W.Denot = record {
      dialled = dialling D.calls D.left D.came D.faults c.run_text.new.parts.dialer;
      door = admitting A.left A.came A.waits c.run_text.new.acceptor;
      port = A.bound c.run_text.new.acceptor;
      faults = A.faults c.run_text.new.acceptor;
      readings = C.readings c.run_text.new.clock;
      waited = V.waits c.run_text.new.parts.waiter;
      random = c.run_text.new.parts.random;
      written = K.held c.run_text.new.sink;
    } in
    finished_so g.L.Link.talk (Draws g.W.Words.gives g.W.Words.faults) c.args.settings.now c.args.script.now before after c.run_text.result c.run_text.ensures.comes
