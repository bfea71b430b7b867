use Rattle.std.proofs.Common.{inl, inr, refl, rules}
use Rattle.bsc_node_run.specs.Worlds.{admitting}
use Rattle.bsc_node_command.proofs.playing.run_lines.Goals as goal

pub returns-in-Ok-make_node-clause-comes : goal.returns-in-Ok-make_node-clause-comes
returns-in-Ok-make_node-clause-comes g c script reads =
    let A = g.A.Acceptor in
    inr (c.run_made.ensures.ran script (admitting A.left A.came A.waits c.args.acceptor.now) (A.bound c.args.acceptor.now) (A.faults c.args.acceptor.now) reads
    (c.bind.ensures.left, c.bind.ensures.came, c.bind.ensures.waits) c.in-Ok.ensures.bound)

pub returns-in-Err-make_node-clause-comes : goal.returns-in-Err-make_node-clause-comes
returns-in-Err-make_node-clause-comes g c script reads = inl (
  record {
    dialled = refl;
    door = (c.bind.ensures.left, c.bind.ensures.came, c.bind.ensures.waits);
    readings = refl;
    waited = refl;
    random = refl;
  },
  inr (inr (inr c.in-Ok.ensures.bound, (c.out_of_memory.ensures.status, c.out_of_memory.ensures.tried))),
)

pub returns-in-Err-clause-comes : goal.returns-in-Err-clause-comes
returns-in-Err-clause-comes g c script reads = inl (
  record {
    dialled = refl;
    door = (c.bind.ensures.left, c.bind.ensures.came, c.bind.ensures.waits);
    readings = refl;
    waited = refl;
    random = refl;
  },
  inr (inl (c.args.lines.now, reads, c.bind.ensures.failed (search rules), c.end_with.ensures.ends)),
)
