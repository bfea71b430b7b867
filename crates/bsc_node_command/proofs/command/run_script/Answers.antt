use Rattle.std.proofs.Common.{List, ℕ, Option, inl, inr, refl, subst, sym}
use Rattle.bsc_edge.specs.Asked.{GaveFile}
use Rattle.bsc_node_run.specs.Drawing.{Draws}
use Rattle.bsc_node_run.specs.Worlds.{admitting, dialling}
use Rattle.bsc_node_command.specs.Comes.{Comes, NodeWorld}
use Rattle.bsc_node_command.proofs.command.run_script.Goals as goal

pub returns-in-Ok-clause-runs : goal.returns-in-Ok-clause-runs
returns-in-Ok-clause-runs g c =
    let A = g.A.Acceptor in
    let D = g.D.Dialer in
    let C = g.C.Clock in
    let V = g.V.Waiter in
    let K = g.K.Sink in
    let held = subst (λ (o : List ℕ). GaveFile g.F.Files.holds g.F.Files.loads c.args.files.now c.load.new.files c.args.path.now o) (sym c.as_slice.ensures) c.in-Ok.ensures.given.0 in
    let before : Option (List ℕ) → NodeWorld g.row.L.Denot g.row.W.Denot =
    λ (t : Option (List ℕ)). record {
      dialled = dialling D.calls D.left D.came D.faults c.args.parts.now.dialer;
      door = admitting A.left A.came A.waits c.args.acceptor.now;
      port = A.bound c.args.acceptor.now;
      faults = A.faults c.args.acceptor.now;
      readings = C.readings c.args.clock.now;
      waited = V.waits c.args.parts.now.waiter;
      random = c.args.parts.now.random;
      written = t;
    } in
    let after : NodeWorld g.row.L.Denot g.row.W.Denot = record {
      dialled = dialling D.calls D.left D.came D.faults c.run_node.new.parts.dialer;
      door = admitting A.left A.came A.waits c.run_node.new.acceptor;
      port = A.bound c.run_node.new.acceptor;
      faults = A.faults c.run_node.new.acceptor;
      readings = C.readings c.run_node.new.clock;
      waited = V.waits c.run_node.new.parts.waiter;
      random = c.run_node.new.parts.random;
      written = K.held c.run_node.new.sink;
    } in
    inr (
      c.as_slice.result.now,
      held,
      subst (λ (t : Option (List ℕ)). Comes g.L.Link.talk (Draws g.W.Words.gives g.W.Words.faults) (record { settings = c.args.here.settings.now; script = c.as_slice.result.now })
          (before t) after c.run_node.result)
          c.in-Ok.ensures.given.1 c.run_node.ensures.comes,
    )

pub returns-in-Err-clause-runs : goal.returns-in-Err-clause-runs
returns-in-Err-clause-runs g c = inl (refl, c.in-Err.ensures.unread)
