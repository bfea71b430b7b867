use Rattle.std.proofs.Common.{inl, inr, refl, rules}
use Rattle.bsc_node_run.specs.Drawing.{Draws}
use Rattle.bsc_node_run.specs.Worlds.{admitting, dialling}
use Rattle.bsc_node_command.specs.Lives.{LiveWorld}
use Rattle.bsc_node_command.proofs.Lives.{end_taken, spent_live}
use Rattle.bsc_node_command.proofs.living.run_live.Goals as goal

pub returns-in-Ok-make_node-clause-comes : goal.returns-in-Ok-make_node-clause-comes
returns-in-Ok-make_node-clause-comes g c =
    let A = g.A.Acceptor in
    inr (c.live_made.ensures.ran (admitting A.left A.came A.waits c.args.acceptor.now) (A.bound c.args.acceptor.now) (A.faults c.args.acceptor.now)
    (c.bind.ensures.left, c.bind.ensures.came, c.bind.ensures.waits) c.in-Ok.ensures.bound)

pub returns-in-Err-make_node-clause-comes : goal.returns-in-Err-make_node-clause-comes
returns-in-Err-make_node-clause-comes g c = inl (
  record {
    dialled = refl;
    door = (c.bind.ensures.left, c.bind.ensures.came, c.bind.ensures.waits);
    readings = refl;
    waited = refl;
    random = refl;
  },
  refl,
  inr (c.in-Ok.ensures.bound, (c.out_of_memory.ensures.status, c.out_of_memory.ensures.tried)),
)

pub returns-in-Err-clause-comes : goal.returns-in-Err-clause-comes
returns-in-Err-clause-comes g c = inl (
  record {
    dialled = refl;
    door = (c.bind.ensures.left, c.bind.ensures.came, c.bind.ensures.waits);
    readings = refl;
    waited = refl;
    random = refl;
  },
  refl,
  inl (c.bind.ensures.failed (search rules), c.end_with.ensures.ends),
)

pub returns-in-Ok-make_node-clause-finished : goal.returns-in-Ok-make_node-clause-finished
returns-in-Ok-make_node-clause-finished g c =
    let A = g.A.Acceptor in
    let D = g.D.Dialer in
    let C = g.C.Clock in
    let V = g.V.Waiter in
    let K = g.K.Sink in
    let I = g.I.LineInbox in
    let T = g.T.Refusals in
    let F = g.I.LiveInput in
    let before : LiveWorld g.row.L.Denot g.row.W.Denot = record {
      node = record {
        dialled = dialling D.calls D.left D.came D.faults c.args.parts.now.dialer;
        door = admitting A.left A.came A.waits c.args.acceptor.now;
        port = A.bound c.args.acceptor.now;
        faults = A.faults c.args.acceptor.now;
        readings = C.readings c.args.clock.now;
        waited = V.waits c.args.parts.now.waiter;
        random = c.args.parts.now.random;
        written = K.held c.args.sink.now;
      };
      lines = record {
        taken = I.taken c.args.lines.now.lines.inbox;
        answers = c.args.lines.now.answers.items;
        refused = T.told c.args.lines.now.lines.reading.teller;
        failed = F.failed c.args.lines.now.lines.inbox;
      };
    } in
    let after : LiveWorld g.row.L.Denot g.row.W.Denot = record {
      node = record {
        dialled = dialling D.calls D.left D.came D.faults c.live_made.new.parts.dialer;
        door = admitting A.left A.came A.waits c.live_made.new.acceptor;
        port = A.bound c.live_made.new.acceptor;
        faults = A.faults c.live_made.new.acceptor;
        readings = C.readings c.live_made.new.clock;
        waited = V.waits c.live_made.new.parts.waiter;
        random = c.live_made.new.parts.random;
        written = K.held c.live_made.new.sink;
      };
      lines = record {
        taken = I.taken c.live_made.new.lines.lines.inbox;
        answers = c.live_made.new.lines.answers.items;
        refused = T.told c.live_made.new.lines.lines.reading.teller;
        failed = F.failed c.live_made.new.lines.lines.inbox;
      };
    } in
    end_taken g.L.Link.talk (Draws g.W.Words.gives g.W.Words.faults) c.args.settings.now before after c.live_made.result (returns-in-Ok-make_node-clause-comes g c)

pub returns-in-Ok-make_node-clause-spent : goal.returns-in-Ok-make_node-clause-spent
returns-in-Ok-make_node-clause-spent g c =
    let A = g.A.Acceptor in
    let D = g.D.Dialer in
    let C = g.C.Clock in
    let V = g.V.Waiter in
    let K = g.K.Sink in
    let I = g.I.LineInbox in
    let T = g.T.Refusals in
    let F = g.I.LiveInput in
    let before : LiveWorld g.row.L.Denot g.row.W.Denot = record {
      node = record {
        dialled = dialling D.calls D.left D.came D.faults c.args.parts.now.dialer;
        door = admitting A.left A.came A.waits c.args.acceptor.now;
        port = A.bound c.args.acceptor.now;
        faults = A.faults c.args.acceptor.now;
        readings = C.readings c.args.clock.now;
        waited = V.waits c.args.parts.now.waiter;
        random = c.args.parts.now.random;
        written = K.held c.args.sink.now;
      };
      lines = record {
        taken = I.taken c.args.lines.now.lines.inbox;
        answers = c.args.lines.now.answers.items;
        refused = T.told c.args.lines.now.lines.reading.teller;
        failed = F.failed c.args.lines.now.lines.inbox;
      };
    } in
    let after : LiveWorld g.row.L.Denot g.row.W.Denot = record {
      node = record {
        dialled = dialling D.calls D.left D.came D.faults c.live_made.new.parts.dialer;
        door = admitting A.left A.came A.waits c.live_made.new.acceptor;
        port = A.bound c.live_made.new.acceptor;
        faults = A.faults c.live_made.new.acceptor;
        readings = C.readings c.live_made.new.clock;
        waited = V.waits c.live_made.new.parts.waiter;
        random = c.live_made.new.parts.random;
        written = K.held c.live_made.new.sink;
      };
      lines = record {
        taken = I.taken c.live_made.new.lines.lines.inbox;
        answers = c.live_made.new.lines.answers.items;
        refused = T.told c.live_made.new.lines.lines.reading.teller;
        failed = F.failed c.live_made.new.lines.lines.inbox;
      };
    } in
    spent_live g.L.Link.talk (Draws g.W.Words.gives g.W.Words.faults) c.args.settings.now before after c.live_made.result (returns-in-Ok-make_node-clause-comes g c)
