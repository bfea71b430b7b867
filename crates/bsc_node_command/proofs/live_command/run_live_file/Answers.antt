use Rattle.std.proofs.Common.{List, ℕ, Option, inl, inr, refl, rules, subst}
use Rattle.bsc_node_run.specs.Drawing.{Draws}
use Rattle.bsc_node_run.specs.Worlds.{admitting, dialling}
use Rattle.bsc_node_command.specs.Lives.{LiveComes, LiveWorld}
use Rattle.bsc_node_command.proofs.live_command.run_live_file.Goals as goal

pub returns-in-Ok-clause-runs : goal.returns-in-Ok-clause-runs
returns-in-Ok-clause-runs g c =
    let A = g.A.Acceptor in
    let D = g.D.Dialer in
    let C = g.C.Clock in
    let V = g.V.Waiter in
    let K = g.K.Sink in
    let I = g.I.LineInbox in
    let T = g.T.Refusals in
    let F = g.I.LiveInput in
    let before : Option (List ℕ) → LiveWorld g.row.L.Denot g.row.W.Denot = λ (t : Option (List ℕ)). record {
      node = record {
        dialled = dialling D.calls D.left D.came D.faults c.args.parts.now.dialer;
        door = admitting A.left A.came A.waits c.args.acceptor.now;
        port = A.bound c.args.acceptor.now;
        faults = A.faults c.args.acceptor.now;
        readings = C.readings c.args.clock.now;
        waited = V.waits c.args.parts.now.waiter;
        random = c.args.parts.now.random;
        written = t;
      };
      lines = record {
        taken = I.taken c.args.lines.now.lines.inbox;
        answers = c.args.lines.now.answers.items;
        refused = T.told c.args.lines.now.lines.reading.teller;
        failed = F.failed c.args.lines.now.lines.inbox;
      };
    } in
    let after : LiveWorld g.row.L.Denot g.row.W.Denot = record {
      node = record {
        dialled = dialling D.calls D.left D.came D.faults c.run_live.new.parts.dialer;
        door = admitting A.left A.came A.waits c.run_live.new.acceptor;
        port = A.bound c.run_live.new.acceptor;
        faults = A.faults c.run_live.new.acceptor;
        readings = C.readings c.run_live.new.clock;
        waited = V.waits c.run_live.new.parts.waiter;
        random = c.run_live.new.parts.random;
        written = K.held c.run_live.new.sink;
      };
      lines = record {
        taken = I.taken c.run_live.new.lines.lines.inbox;
        answers = c.run_live.new.lines.answers.items;
        refused = T.told c.run_live.new.lines.lines.reading.teller;
        failed = F.failed c.run_live.new.lines.lines.inbox;
      };
    } in
    inr (
      c.in-Ok.settings,
      c.in-Ok.ensures.settled.0,
      subst (λ (t : Option (List ℕ)). LiveComes g.L.Link.talk (Draws g.W.Words.gives g.W.Words.faults) c.in-Ok.settings (before t) after c.run_live.result)
          c.in-Ok.ensures.settled.1 c.run_live.ensures.comes,
    )

pub returns-in-Err-clause-runs : goal.returns-in-Err-clause-runs
returns-in-Err-clause-runs g c = inl (refl, refl, c.in-Err.ensures.unsettled)

pub invariant_of-settings-clause-address : goal.invariant_of-settings-clause-address
invariant_of-settings-clause-address g c = search rules
